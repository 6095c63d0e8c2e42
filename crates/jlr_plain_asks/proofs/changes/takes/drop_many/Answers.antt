use Rattle.std.proofs.Common.{List, ℕ, drop, ◌∙◌, ap}
use Rattle.std.proofs.lemmas.List.{drop-drop}
use Rattle.jlr_plain_asks.proofs.changes.takes.drop_many.Goals as goal

pub loop-preserved : goal.loop-preserved
loop-preserved c = c.drop_first.ensures ∙ ap {A = List ℕ} {B = List ℕ} (drop 1) c.loop.invariant
    ∙ drop-drop 1 c.loop.counter c.args.slots.now
