use Rattle.std.proofs.Common.{◌≡◌, ◌++◌, take, filter_map}
use Rattle.jlr_machine.specs.Edges.{slot_in}
use Rattle.jlr_plain_collections.proofs.edges.push_fields.Given as goal

abbrev pub invariant-loop-field : goal.invariant-loop-field
invariant-loop-field l = l.out.items ≡ l.fn.out.items ++ filter_map slot_in (take l.field-index l.fields)
