use Rattle.jlr_audit.proofs.Coming.{goes_on, bytes_to_end}
use Rattle.jlr_audit.proofs.streamed.read_on.Goals as goal

pub loop-preserved : goal.loop-preserved
loop-preserved g c =
    goes_on c.args.entries.now c.loop.entries c.next.new.self c.loop.counter c.in-Ok.entry c.loop.invariant c.in-Ok.ensures.next

pub returns-clause-bytes : goal.returns-clause-bytes
returns-clause-bytes g c = bytes_to_end c.args.entries.now c.loop.entries c.loop.counter c.end.result c.loop.invariant c.end.ensures.rest
