use Rattle.jlr_trace_entries.specs.Images.{image_text}
use Rattle.jlr_trace.specs.Streams.{known, heading_text, heading_read}
use Rattle.jlr_trace.proofs.Stillness.{heading_is_still}
use Rattle.jlr_trace.proofs.Windows.{used_on, bytes_used, last_on}
use Rattle.jlr_trace.proofs.streamed.next_heading.Goals as goal

pub returns-in-Ok-clause-reads : goal.returns-in-Ok-clause-reads
returns-in-Ok-clause-reads g c =
    used_on heading_read heading_is_still (known c.args.window.now)
    (heading_text c.in-Ok.heading.version (image_text c.in-Ok.heading.image) c.in-Ok.heading.count)
    c.loop.window c.advance.new.self c.front.result.now c.in-Ok.used c.loop.invariant c.front.ensures.front c.advance.ensures
    c.in-Ok.ensures.reads

pub returns-in-Err-more_for-clause-fault : goal.returns-in-Err-more_for-clause-fault
returns-in-Err-more_for-clause-fault g c =
    last_on heading_read heading_is_still (known c.args.window.now) c.in-Err.fault
    c.in-Err-more_for.last c.loop.window c.front.result.now c.loop.invariant c.front.ensures.front c.in-Err.ensures.reads
    c.in-Err-more_for.ensures.last

pub returns-in-Ok-clause-bytes : goal.returns-in-Ok-clause-bytes
returns-in-Ok-clause-bytes g c =
    bytes_used (known c.args.window.now) c.loop.window c.advance.new.self c.front.result.now c.in-Ok.used c.loop.invariant
    c.front.ensures.front c.front.ensures.bytes c.advance.ensures
