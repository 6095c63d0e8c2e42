use Rattle.std.proofs.Common.{arith}
use Rattle.jlr_cells.proofs.Queues.{length_seen}
use Rattle.jlr_cells.proofs.store.Store.cell_count.Goals as goal

pub returns : goal.returns
returns c = omega (arith, c.len.ensures, length_seen c.self.inside.cells c.self.inside.queues.lists c.args.self.now c.self.view_is)
