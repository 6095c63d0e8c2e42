use Rattle.std.proofs.Common.{refl}
use Rattle.jlr_resource.proofs.table.Table.is_full.Goals as goal

pub returns : goal.returns
returns g c = rw (c.count.ensures, ← c.self.view_is) refl
