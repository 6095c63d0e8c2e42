use Rattle.jlr_trace.specs.Files.{entries_read}
use Rattle.jlr_trace.proofs.EntriesLoop.{goes_on, ends, is_done}
use Rattle.jlr_trace.proofs.file.entries_at.Goals as goal

pub returns-in-Err : goal.returns-in-Err
returns-in-Err c =
    rw c.fault_of.ensures
    (ends c.args.version c.in-Err.error c.loop-number.entries.items c.args.count c.loop-number.number c.loop-number.bytes.now
    (entries_read c.args.version 1 c.args.count c.args.bytes.now.now) c.loop-number-test.true c.in-Err.ensures c.loop-number.invariant)

pub loop-number-preserved : goal.loop-number-preserved
loop-number-preserved c =
    rw c.in_ok-push-in-Ok.ensures.items
    (goes_on c.args.version c.loop-number.entries.items c.args.count c.loop-number.number c.loop-number.bytes.now
    c.in-Ok.entry c.take_entry.new.bytes.now (entries_read c.args.version 1 c.args.count c.args.bytes.now.now)
    c.loop-number-test.true c.in-Ok.ensures c.loop-number.invariant)

pub returns : goal.returns
returns c =
    is_done c.args.version c.loop-number.entries.items c.args.count c.loop-number.number c.loop-number.bytes.now
    (entries_read c.args.version 1 c.args.count c.args.bytes.now.now) c.loop-number-test.false c.loop-number.invariant
