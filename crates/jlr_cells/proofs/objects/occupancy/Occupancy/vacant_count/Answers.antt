use Rattle.std.proofs.Common.{arith}
use Rattle.jlr_cells.proofs.objects.occupancy.Occupancy.vacant_count.Goals as goal

pub overflow_add-result : goal.overflow_add-result
overflow_add-result c = omega (arith, c.self.invariant.counted, c.self.invariant.left, c.self.invariant.few)
