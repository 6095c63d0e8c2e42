use Rattle.std.proofs.Common.{◌∙◌, sym}
use Rattle.jlr_resource.proofs.Slabs.{count_listed}
use Rattle.jlr_resource.proofs.table.Table.count.Goals as goal

pub returns : goal.returns
returns g c = rw (← c.self.view_is) (c.len.ensures ∙ sym (count_listed c.self.inside.places))
