use Rattle.jlr_plain.proofs.Followed.{image_is_fit}
use Rattle.jlr_audit.proofs.Runs.{next_one, no_next}
use Rattle.jlr_audit.proofs.Coming.{run_begins, run_goes_on, run_is_refused, bytes_read_on}
use Rattle.jlr_audit.proofs.streamed.judged.Goals as goal

pub loop-number-init : goal.loop-number-init
loop-number-init g c = run_begins c.args.image c.args.entries.now (image_is_fit c.args.image c.requires)

pub loop-number-preserved : goal.loop-number-preserved
loop-number-preserved g c =
    let next = next_one c.loop-number.machine c.in-Ok.entry c.in-Ok-advanced.next c.in-Some.next c.in-Some.is c.in-Ok-advanced.ensures in
    run_goes_on c.args.image c.args.entries.now c.loop-number.machine c.in-Some.next c.loop-number.entries c.next.new.self
    c.loop-number.number c.in-Ok.entry c.loop-number.invariant c.in-Ok.ensures.next next

pub returns-in-None-clause-verdict : goal.returns-in-None-clause-verdict
returns-in-None-clause-verdict g c =
    let refused = no_next c.loop-number.machine c.in-Ok.entry c.in-Ok-advanced.next c.in-None.is c.in-Ok-advanced.ensures in
    run_is_refused c.args.image c.args.entries.now c.loop-number.machine c.loop-number.entries c.next.new.self c.loop-number.number
    c.in-Ok.entry c.refused.result c.requires c.loop-number.invariant c.in-Ok.ensures.next refused c.refused.ensures.verdict

pub returns-in-None-clause-bytes : goal.returns-in-None-clause-bytes
returns-in-None-clause-bytes g c =
    bytes_read_on c.args.entries.now c.loop-number.entries c.next.new.self c.loop-number.number c.in-Ok.entry c.refused.result
    c.loop-number.invariant.so_far c.in-Ok.ensures.next c.refused.ensures.bytes
