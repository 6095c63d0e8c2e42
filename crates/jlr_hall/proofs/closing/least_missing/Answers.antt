use Rattle.std.proofs.Common.{◌≡◌, true, sym, ◌∙◌}
use borrow.Author.Count.{below_more}
use Rattle.jlr_hall.specs.Closing.{is_there}
use Rattle.jlr_hall.proofs.closing.least_missing.Goals as goal

pub loop-k-preserved : goal.loop-k-preserved
loop-k-preserved g c = below_more (λ j. is_there j c.args.seats.now.items ≡ true) c.loop-k.k c.loop-k.invariant
    (sym c.is_there.ensures ∙ c.if-not-is_there.false)
