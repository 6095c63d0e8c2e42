use Rattle.std.proofs.Common.{◌||◌}
use Rattle.jlr_machine.specs.Objects.{◌∋◌}
use Rattle.jlr_plain_collections.specs.Marks.{has_mark}
use Rattle.jlr_plain_collections.proofs.Slots.{slot_filtered}
use Rattle.jlr_plain_collections.proofs.seen.seen_or_marked.Goals as goal

pub loop-i-preserved : goal.loop-i-preserved
loop-i-preserved c = slot_filtered (λ s. (c.args.seen.now ∋ s) || has_mark c.args.marks.now s) c.loop-i.i c.loop-i.out.items
    c.push_if_seen.new.out.items c.loop-i.invariant c.in_ok-push_if_seen.ensures
