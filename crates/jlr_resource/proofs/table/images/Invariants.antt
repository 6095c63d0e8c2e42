use Rattle.std.proofs.Common.{◌≡◌, ◌++◌, map}
use Rattle.jlr_resource.specs.Resources.{resources_in}
use Rattle.jlr_resource.specs.Places.{held_by}
use Rattle.jlr_resource.proofs.Slabs.{as_listed, HaveRids}
use Rattle.jlr_resource.proofs.table.images.Given as goal

-- what was listed and the entries that are left are all
abbrev pub invariant-loop-key : goal.invariant-loop-key
invariant-loop-key g l =
    (goal.iterator-loop-key g).can_next l.key-iterator ×
    (goal.iterator-loop-key g).is_finite l.key-iterator ×
    (l.items.items ++ map as_listed l.key-iterator ≡ resources_in (held_by l.places)) ×
    HaveRids l.key-iterator
