use Rattle.std.proofs.Common.{arith}
use Rattle.jlr_cleaner.specs.Cleanings.{Cleanings}
use Rattle.jlr_cleaner.proofs.Closing.{closing_begun}
use Rattle.jlr_laws.proofs.Frames.{place_within}
use Rattle.jlr_cleaner.proofs.Registering.{one_less_waits, waits_nowhere}
use Rattle.jlr_cleaner.proofs.Stepping.{added_runs, length_with, machine_taken}
use Rattle.jlr_cleaner.proofs.cleaner.Cleaner.take_up.Goals as goal

pub invariant_of-self : goal.invariant_of-self
invariant_of-self g c =
    let idle = rw (← c.self.view_is) at c.requires.idle in
    let numbered = rw (← c.self.view_is) at c.requires.numbered in
    record {
      registered =
          rw c.clear.ensures (one_less_waits c.self.inside.waiting c.self.inside.next_action c.args.place c.self.invariant.registered);
      closing = rw (c.start.ensures, c.take_out-resource.ensures.closing)
          (closing_begun c.self.inside.table c.self.inside.running c.args.action c.args.by c.args.work idle c.self.invariant.closing);
      adds_up = rw c.start.ensures (omega (
        arith,
        c.self.invariant.adds_up,
        length_with c.self.inside.running (record { action = c.args.action; work = c.args.work; by = c.args.by }),
      ));
      numbered = numbered;
    }

pub returns-clause-running : goal.returns-clause-running
returns-clause-running g c =
    let none = rw (← c.self.view_is) at c.requires.not_running in
    rw c.start.ensures (added_runs c.self.inside.running (record { action = c.args.action; work = c.args.work; by = c.args.by }) none)

pub returns-clause-machine : goal.returns-clause-machine
returns-clause-machine g c = λ m s d a w.
    let inside = c.self.inside in
    let old : Cleanings g.row.R.Denot = record {
      waiting = inside.waiting;
      jobs = inside.running;
      table = inside.table;
      faults = inside.outcomes.faults;
      notes = inside.outcomes.notes;
      next_action =
          inside.next_action;
      taken = inside.taken;
      ok = inside.outcomes.ok;
      failed = inside.outcomes.failed;
    } in
    rw (c.start.ensures, c.take_out-resource.ensures.closing, ← c.self.view_is)
    (machine_taken old c.args.place c.args.by c.args.action c.args.work m s d a w)

pub clear-requires : goal.clear-requires
clear-requires g c =
    let waits = rw (← c.self.view_is) at c.requires.waits in
    place_within c.self.inside.waiting c.args.place c.args.action waits

pub returns-clause-waits_no_more : goal.returns-clause-waits_no_more
returns-clause-waits_no_more g c =
    let waits = rw (← c.self.view_is) at c.requires.waits in
    rw c.clear.ensures
    (waits_nowhere c.self.inside.waiting c.self.inside.next_action c.args.place c.args.action c.self.invariant.registered waits)
