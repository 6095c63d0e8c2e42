use Rattle.std.proofs.Common.{◌∙◌, None, ap}
use Rattle.jlr_cells.specs.Showing.{shown}
use Rattle.jlr_cells.proofs.Showing.{shown_hidden}
use Rattle.jlr_cells.proofs.objects.arrays.free_array.Goals as goal

pub returns-then-is_array-clause-hidden : goal.returns-then-is_array-clause-hidden
returns-then-is_array-clause-hidden c = λ set off. ap (shown set) c.put.ensures ∙ shown_hidden set c.args.store.now c.args.slot None off
