use Rattle.std.proofs.Common.{◌≡◌, take, slice_get}
use Rattle.jlr_machine.specs.Objects.{◌∈◌}
use Rattle.jlr_links.specs.Lists.{list_at}
use Rattle.jlr_marks.specs.Marking.{Shaded}
use Rattle.jlr_barrier.proofs.lists.shade_list.Given as goal

-- the slots so far are shaded, and the one that comes next
abbrev pub invariant-loop-place : goal.invariant-loop-place
invariant-loop-place l = record {
  shaded : Shaded (λ x. x ∈ take l._place (list_at l.lists.lists l.list)) l.fn.marks l.marks;
  next : l.next ≡ slice_get (list_at l.lists.lists l.list) l._place;
}
