use Rattle.std.proofs.Common.{arith}
use Rattle.jlr_trace_entries.specs.Images.{image_text}
use Rattle.jlr_trace.specs.Streams.{heading_text, heading_read}
use Rattle.jlr_trace.proofs.StreamLaws.{heading_used, left_over}
use Rattle.jlr_trace.proofs.streamed.heading_at.Goals as goal

pub used-requires : goal.used-requires
used-requires c =
    let h = c.in-Ok.heading in
    (heading_used c.args.bytes.now (heading_text h.version (image_text h.image) h.count) c.heading_in.new.bytes.now
    (λ i. omega (arith, c.type_inv.bytes i)) c.in-Ok.ensures.reads).0

pub returns-in-Ok-clause-reads : goal.returns-in-Ok-clause-reads
returns-in-Ok-clause-reads c =
    let h = c.in-Ok.heading in
    let t = heading_text h.version (image_text h.image) h.count in
    let used = heading_used c.args.bytes.now t c.heading_in.new.bytes.now (λ i. omega (arith, c.type_inv.bytes i)) c.in-Ok.ensures.reads in
    left_over (heading_read c.args.bytes.now) t c.args.bytes.now c.heading_in.new.bytes.now c.used.result c.in-Ok.ensures.reads
    c.used.ensures used.1
