use Rattle.std.proofs.Common.{◌≡◌, ◌++◌, length, subst}
use Rattle.std.specs.List.{flat_map}
use Rattle.jlr_trace_fields.specs.Spelling.{spelled_32}
use Rattle.jlr_trace_fields.proofs.Writing.{then_written}
use Rattle.jlr_trace_fields.specs.Records.{spelled_held}
use Rattle.jlr_trace_entries.specs.Images.{listed_from, handle_held}
use Rattle.jlr_trace_entries.proofs.writing.put_handles.Goals as goal

pub returns : goal.returns
returns c =
    then_written c.put_held.result c.args.out.now.items c.put_u32.new.out.items c.put_held.new.out.items
    (spelled_32 (length (listed_from handle_held 0 c.args.handles.now)))
    (flat_map spelled_held (listed_from handle_held 0 c.args.handles.now))
    (subst (λ n. c.put_u32.new.out.items ≡ c.args.out.now.items ++ spelled_32 n) c.held_count.ensures c.in_ok-put_u32.ensures)
    c.put_held.ensures
