use Rattle.std.proofs.Common.{◌≤◌, length, arith}
use Rattle.jlr_trace_fields.specs.Records.{spelled_placed}
use Rattle.jlr_trace_entries.specs.Images.{placed}
use Rattle.jlr_trace_entries.proofs.WritingLaws.{more_written, all_written, place_counts}
use Rattle.jlr_trace_entries.proofs.writing.put_table.Goals as goal

pub loop-number-preserved : goal.loop-number-preserved
loop-number-preserved c = more_written placed spelled_placed c.args.table.now c.loop-number.number c.args.out.now.items
    c.loop-number.out.items c.put_placed_at.new.out.items c.loop-number.invariant c.in_ok-put_placed_at.ensures

pub returns : goal.returns
returns c =
    let whole : length c.args.table.now ≤ c.loop-number.number = omega arith in
    all_written placed spelled_placed c.args.table.now c.loop-number.number c.args.out.now.items c.loop-number.out.items whole
    c.loop-number.invariant

pub put_placed_at-requires-clause-counts : goal.put_placed_at-requires-clause-counts
put_placed_at-requires-clause-counts c = place_counts c.args.table.now c.loop-number.number c.requires.counts
