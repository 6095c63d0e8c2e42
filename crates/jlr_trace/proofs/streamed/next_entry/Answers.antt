use Rattle.jlr_trace_entries.specs.Entries.{entry_read}
use Rattle.jlr_trace.specs.Files.{in_entry}
use Rattle.jlr_trace.specs.Streams.{known}
use Rattle.jlr_trace.proofs.Stillness.{entry_is_still}
use Rattle.jlr_trace.proofs.Windows.{used_on, bytes_used, last_on}
use Rattle.jlr_trace.proofs.streamed.next_entry.Goals as goal

pub returns-in-Ok-clause-reads : goal.returns-in-Ok-clause-reads
returns-in-Ok-clause-reads g c =
    used_on (λ bytes. in_entry c.args.number (entry_read c.args.version bytes)) (entry_is_still c.args.version c.args.number)
    (known c.args.window.now) c.in-Ok.entry
    c.loop.window c.advance.new.self c.front.result.now c.in-Ok.used c.loop.invariant c.front.ensures.front c.advance.ensures
    c.in-Ok.ensures.reads

pub returns-in-Err-more_for-clause-fault : goal.returns-in-Err-more_for-clause-fault
returns-in-Err-more_for-clause-fault g c =
    last_on (λ bytes. in_entry c.args.number (entry_read c.args.version bytes)) (entry_is_still c.args.version c.args.number)
    (known c.args.window.now) c.in-Err.fault
    c.in-Err-more_for.last c.loop.window c.front.result.now c.loop.invariant c.front.ensures.front c.in-Err.ensures.reads
    c.in-Err-more_for.ensures.last

pub returns-in-Ok-clause-bytes : goal.returns-in-Ok-clause-bytes
returns-in-Ok-clause-bytes g c =
    bytes_used (known c.args.window.now) c.loop.window c.advance.new.self c.front.result.now c.in-Ok.used c.loop.invariant
    c.front.ensures.front c.front.ensures.bytes c.advance.ensures
