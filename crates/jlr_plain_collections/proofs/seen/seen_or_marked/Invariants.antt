use Rattle.std.proofs.Common.{◌≡◌, ◌||◌, filter}
use Rattle.jlr_machine.specs.Objects.{◌∋◌}
use Rattle.jlr_machine.specs.ReachSet.{up_to}
use Rattle.jlr_plain_collections.specs.Marks.{has_mark}
use Rattle.jlr_plain_collections.proofs.seen.seen_or_marked.Given as goal

abbrev pub invariant-loop-i : goal.invariant-loop-i
invariant-loop-i l = l.out.items ≡ filter (λ s. (l.seen ∋ s) || has_mark l.marks s) (up_to 0 l.i)
