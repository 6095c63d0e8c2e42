use Rattle.std.proofs.Common.{◌≡◌, ◌∙◌, refl, ap, arith}
use Rattle.jlr_cleaner.specs.Cleanings.{machine_of_cleanings}
use Rattle.jlr_cleaner.proofs.Closing.{closing_over, work_of_job, in_state_of}
use Rattle.jlr_cleaner.proofs.Stepping.{found_action, one_outcome, machine_finished, all_finished}
use Rattle.jlr_cleaner.proofs.cleaner.Cleaner.finish.Goals as goal

pub close-requires : goal.close-requires
close-requires g c =
    let work = work_of_job c.self.inside.table c.self.inside.running c.args.action c.in-Some.job c.in-Some.ensures.job.0
    c.self.invariant.closing in
    record { closing = in_state_of c.self.inside.table c.in-Some.job.action _ c.in-Some.job.work work }

pub invariant_of-self-2 : goal.invariant_of-self-2
invariant_of-self-2 g c =
    let action = found_action c.self.inside.running c.args.action c.in-Some.job c.in-Some.ensures.job.0 in
    let work = work_of_job c.self.inside.table c.self.inside.running c.args.action c.in-Some.job c.in-Some.ensures.job.0
    c.self.invariant.closing in
    let counts = one_outcome c.self.inside.outcomes c.args.action c.in-Some.job.work c.args.outcome in
    record {
      registered = c.self.invariant.registered;
      closing = rw (c.in-Some.ensures.ended, c.close.ensures.closed)
          (closing_over c.self.inside.table c.self.inside.running c.args.action c.in-Some.job.work (rw action at work)
          c.self.invariant.closing);
      adds_up = rw c.record.ensures (omega (arith, counts, c.self.invariant.adds_up, c.in-Some.ensures.one_less));
      numbered = c.self.invariant.numbered;
    }

pub returns-clause-finished : goal.returns-clause-finished
returns-clause-finished g c = λ job found its.
    let here = rw (← c.self.view_is) at found in
    let same : c.in-Some.job ≡ job = cc (here, c.in-Some.ensures.job.0) in
    let action = found_action c.self.inside.running c.args.action job here in
    let ended = rw (← action) at c.in-Some.ensures.ended in
    let closed = rw same at c.close.ensures.closed in
    let recorded = rw (same, ← action) at c.record.ensures in
    rw (← c.self.view_is) (all_finished _ job c.args.outcome c.self.inside.outcomes c.record.new.self c.end.new.self c.close.new.table refl
    ended closed recorded)

pub returns-clause-machine : goal.returns-clause-machine
returns-clause-machine g c = λ m job found its.
    ap (λ x. machine_of_cleanings x m) (returns-clause-finished g c job found its) ∙ machine_finished _ job c.args.outcome m
