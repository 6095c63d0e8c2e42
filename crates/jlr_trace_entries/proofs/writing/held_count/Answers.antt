use Rattle.std.proofs.Common.{◌∙◌, arith}
use Rattle.jlr_trace_entries.proofs.WritingLaws.{occupied_within, held_counted}
use Rattle.jlr_trace_entries.proofs.writing.held_count.Goals as goal

pub overflow_cast-result : goal.overflow_cast-result
overflow_cast-result c = let few = occupied_within c.args.handles.now in omega (arith, c.count_some.ensures, few)

pub returns : goal.returns
returns c = c.count_some.ensures ∙ held_counted c.args.handles.now
