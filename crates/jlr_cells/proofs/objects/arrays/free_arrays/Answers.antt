use Rattle.std.proofs.Common.{arith}
use Rattle.jlr_cells.proofs.objects.arrays.free_arrays.Goals as goal

pub overflow_add-from : goal.overflow_add-from
overflow_add-from c =
    omega (arith, c.in-Some.ensures.1, c.number-from.ensures, c.loop-slot.invariant.places, c.requires.places, c.cell_count-cells.ensures)
