use Rattle.jlr_cells.proofs.Using.{none_used}
use Rattle.std.proofs.Common.{arith}
use Rattle.jlr_cells.proofs.objects.occupancy.Occupancy.new.Goals as goal

pub invariant_of-result : goal.invariant_of-result
invariant_of-result c = none_used c.args.cells _ _ (omega arith) c.in_ok-new-2.ensures c.in_ok-new.ensures
