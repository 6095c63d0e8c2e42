use Rattle.std.proofs.Common.{◌⊎◌, ◌-◌, ◌≤◌, ℕ, drop, take}
use Rattle.jlr_machine.specs.Objects.{◌∈◌}
use Rattle.jlr_cells.specs.Links.{linked}
use Rattle.jlr_marks.specs.Marking.{IsMarked}
use Rattle.jlr_barrier.proofs.shade.marked_run.Given as goal

-- what the elements so far refer to was known, or is marked
abbrev pub invariant-loop-run : goal.invariant-loop-run
invariant-loop-run l =
    let rest = drop l.from l.elements in
    (l.known ≤ l.run) × (l.run ≤ l.count)
    × ((x : ℕ) → x ∈ linked (take l.known rest) → x ∈ linked (take l.run rest))
    × ((x : ℕ) → x ∈ linked (take l.run rest) → (x ∈ linked (take l.known rest)) ⊎ IsMarked l.marks x)

abbrev pub decreases-loop-run : goal.decreases-loop-run
decreases-loop-run l = l.count - l.run
