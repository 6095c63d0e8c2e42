use Rattle.std.proofs.Common.{arith}
use Rattle.jlr_cells.proofs.Queues.{length_seen}
use Rattle.jlr_cells.proofs.store.Store.image.Goals as goal

pub images-requires-clause-places : goal.images-requires-clause-places
images-requires-clause-places c =
    omega (arith, c.requires, length_seen c.self.inside.cells c.self.inside.queues.lists c.args.self.now c.self.view_is)
