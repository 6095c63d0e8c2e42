use Rattle.std.proofs.Common.{◌≤◌, length, arith}
use Rattle.jlr_trace_fields.specs.Records.{spelled_held}
use Rattle.jlr_trace_entries.specs.Images.{handle_held}
use Rattle.jlr_trace_entries.proofs.WritingLaws.{more_written, all_written}
use Rattle.jlr_trace_entries.proofs.writing.put_held.Goals as goal

pub loop-number-preserved : goal.loop-number-preserved
loop-number-preserved c = more_written handle_held spelled_held c.args.handles.now c.loop-number.number c.args.out.now.items
    c.loop-number.out.items c.put_held_at.new.out.items c.loop-number.invariant c.in_ok-put_held_at.ensures

pub returns : goal.returns
returns c =
    let whole : length c.args.handles.now ≤ c.loop-number.number = omega arith in
    all_written handle_held spelled_held c.args.handles.now c.loop-number.number c.args.out.now.items c.loop-number.out.items whole
    c.loop-number.invariant
