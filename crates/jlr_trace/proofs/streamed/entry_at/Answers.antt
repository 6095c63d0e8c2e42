use Rattle.std.proofs.Common.{arith, ap}
use Rattle.jlr_trace_entries.specs.Entries.{entry_read}
use Rattle.jlr_trace.specs.Files.{in_entry}
use Rattle.jlr_trace.proofs.StreamLaws.{entry_used, left_over}
use Rattle.jlr_trace.proofs.streamed.entry_at.Goals as goal

pub used-requires : goal.used-requires
used-requires c = (entry_used c.args.version c.args.bytes.now c.in-Ok.entry c.take_entry.new.bytes.now
    (λ i. omega (arith, c.type_inv.bytes i)) c.in-Ok.ensures).0

pub returns-in-Ok-clause-reads : goal.returns-in-Ok-clause-reads
returns-in-Ok-clause-reads c =
    let used = entry_used c.args.version c.args.bytes.now c.in-Ok.entry c.take_entry.new.bytes.now (λ i. omega (arith, c.type_inv.bytes i))
    c.in-Ok.ensures in
    left_over (in_entry c.args.number (entry_read c.args.version c.args.bytes.now)) c.in-Ok.entry c.args.bytes.now
    c.take_entry.new.bytes.now c.used.result
    (ap (in_entry c.args.number) c.in-Ok.ensures) c.used.ensures used.1
