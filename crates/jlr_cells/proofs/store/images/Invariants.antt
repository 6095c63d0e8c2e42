use Rattle.std.proofs.Common.{◌≡◌, take}
use Rattle.jlr_cells.specs.Contents.{objects_in, with_lists}
use Rattle.jlr_cells.specs.Showing.{shown}
use Rattle.jlr_cells.proofs.store.images.Given as goal

-- the objects so far
abbrev pub invariant-loop-slot : goal.invariant-loop-slot
invariant-loop-slot l = l.objects.items ≡ take l.slot (shown l.occupied (with_lists (objects_in l.cells) l.queues.lists))
