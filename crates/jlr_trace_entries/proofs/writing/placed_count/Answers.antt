use Rattle.std.proofs.Common.{arith}
use Rattle.jlr_trace_entries.proofs.WritingLaws.{occupied_within, placed_counted}
use Rattle.jlr_trace_entries.proofs.writing.placed_count.Goals as goal

pub overflow_add-result : goal.overflow_add-result
overflow_add-result c = let few = occupied_within c.args.table.now in omega (arith, c.count_some.ensures, few)

pub overflow_cast-result : goal.overflow_cast-result
overflow_cast-result c = let few = occupied_within c.args.table.now in omega (arith, c.count_some.ensures, few)

pub returns : goal.returns
returns c = let sum = placed_counted c.args.table.now c.args.strays.now in omega (arith, c.count_some.ensures, sum)
