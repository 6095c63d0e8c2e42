use Rattle.std.proofs.Common.{◌≡◌, take, slice_get}
use Rattle.jlr_machine.specs.Objects.{◌∈◌, at}
use Rattle.jlr_cells.specs.Contents.{members_in}
use Rattle.jlr_marks.specs.Marking.{Shaded}
use Rattle.jlr_barrier.proofs.shade.shade_members.Given as goal

-- the members so far are shaded, and the one that comes next
abbrev pub invariant-loop-place : goal.invariant-loop-place
invariant-loop-place l = record {
  shaded : Shaded (λ x. x ∈ take l._place (members_in (at l.cells.objects l.queue))) l.fn.marks l.marks;
  next : l.next ≡ slice_get (members_in (at l.cells.objects l.queue)) l._place;
}
