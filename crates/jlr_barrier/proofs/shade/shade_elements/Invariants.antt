use Rattle.std.proofs.Common.{◌-◌, ◌≤◌, drop, take}
use Rattle.jlr_machine.specs.Objects.{◌∈◌}
use Rattle.jlr_cells.specs.Links.{linked}
use Rattle.jlr_marks.specs.Marking.{Shaded}
use Rattle.jlr_barrier.proofs.shade.shade_elements.Given as goal

-- what the elements so far refer to is shaded
abbrev pub invariant-loop-step : goal.invariant-loop-step
invariant-loop-step l = (l.step ≤ l.count) × Shaded (λ x. x ∈ linked (take l.step (drop l.from l.elements))) l.fn.marks l.marks

abbrev pub decreases-loop-step : goal.decreases-loop-step
decreases-loop-step l = l.count - l.step
