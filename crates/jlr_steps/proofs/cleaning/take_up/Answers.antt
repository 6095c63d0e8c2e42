use Rattle.std.proofs.Common.{rules, ◌≡◌, ℕ, [], None, Some, inr, refl, sym, subst, ap, ◌∙◌}
use Rattle.jlr_machine.specs.declared.machine.Machine.{Machine}
use Rattle.jlr_machine.specs.Objects.{Heap, change_at, with_cleanable}
use Rattle.jlr_machine.specs.declared.ask.Ask.TheVariants.{TakeUp}
use Rattle.jlr_machine.specs.declared.ask.Answer.TheVariants.{Handed, Job}
use Rattle.jlr_machine.specs.declared.ask.Handed.TheVariants.{Nothing}
use Rattle.jlr_machine.specs.Calls.{from_lined, line_answer, line_taken, spent}
use Rattle.jlr_refs.specs.Parts.{front_spent}
use Rattle.jlr_state.specs.Machines.{machine_of}
use Rattle.jlr_state.proofs.Frames.{frame_of}
use Rattle.jlr_state.specs.State.{machine_with}
use Rattle.jlr_state.proofs.Entries.{meets_plain}
use Rattle.jlr_state.proofs.TakeUps.{below_numbers, front_long, line_allowed, line_answer_is, line_taken_is, lined_is_idle, lined_taken}
use Rattle.jlr_state.proofs.TakeUps.{lined_there, none_lined, runs_in_none, unspent_when_lined}
use Rattle.jlr_cleaner.specs.Cleanings.{Cleanings}
use Rattle.jlr_resource.specs.Resources.{Resources}
use Rattle.jlr_state.specs.Flows.{Moves}
use Rattle.jlr_state.proofs.Moving.{job_moved}
use Rattle.jlr_state.proofs.Awaiting.{none_unspent, releases}
use Rattle.jlr_steps.proofs.cleaning.take_up.Goals as goal

pub returns-in_default-clause-meets : goal.returns-in_default-clause-meets
returns-in_default-clause-meets g c =
    let s = c.args.state.now in
    let m = machine_of s in
    let n = machine_with s.cleaner c.take_lined.new.heap.graph s.cycle_open in
    let t = c.in_default.ensures.taken (frame_of s) in
    let none : from_lined m m.line ≡ [] = none_lined m t.0 in
    meets_plain m n TakeUp (Handed Nothing) tt (line_allowed m (sym c.runs_job.ensures ∙ c.if-runs_job.false)) (ap (line_answer m) none)
    (t.1 ∙ ap (front_spent m) none ∙ sym (ap (line_taken m) none))

pub take_up-job-requires-clause-not_running : goal.take_up-job-requires-clause-not_running
take_up-job-requires-clause-not_running g c =
    let s = c.args.state.now in
    let there = lined_there (machine_of s) c.in-Some.taken.0 c.in-Some.taken.1 (c.in-Some.ensures.taken (frame_of s)).0 in
    runs_in_none (machine_of s) c.in-Some.taken.0 c.in-Some.taken.1 c.requires.fit there.2
    (unspent_when_lined c.in-Some.taken.1.state c.in-Some.ensures.lined)

pub take_up-job-requires-clause-idle : goal.take_up-job-requires-clause-idle
take_up-job-requires-clause-idle g c =
    let s = c.args.state.now in
    let there = lined_there (machine_of s) c.in-Some.taken.0 c.in-Some.taken.1 (c.in-Some.ensures.taken (frame_of s)).0 in
    lined_is_idle s.cleaner s.heap.graph s.cycle_open c.in-Some.taken.0 c.in-Some.taken.1 c.requires.fit there.2 c.in-Some.ensures.lined

pub take_up-job-requires-clause-numbered : goal.take_up-job-requires-clause-numbered
take_up-job-requires-clause-numbered g c =
    let s = c.args.state.now in
    let there = lined_there (machine_of s) c.in-Some.taken.0 c.in-Some.taken.1 (c.in-Some.ensures.taken (frame_of s)).0 in
    below_numbers (machine_of s) c.in-Some.taken.0 c.in-Some.taken.1 c.requires.fit there.2
    (unspent_when_lined c.in-Some.taken.1.state c.in-Some.ensures.lined)

pub returns-clause-meets : goal.returns-clause-meets
returns-clause-meets g c =
    let s = c.args.state.now in
    let m = machine_of s in
    let n = machine_with c.take_up-job.new.self c.take_lined.new.heap.graph s.cycle_open in
    let x = c.in-Some.taken.1 in
    let t = c.in-Some.ensures.taken (frame_of s) in
    let at_slot = c.in-Some.taken.0 in
    let there = lined_there m at_slot x t.0 in
    let left : n ≡ line_taken m (from_lined m m.line) =
    lined_taken s.cleaner c.take_up-job.new.self s.heap.graph c.take_lined.new.heap.graph s.cycle_open at_slot there.0 x
    (from_lined m m.line) there.1 t.1 (λ y. c.take_up-job.ensures.machine y at_slot x refl refl)
    ∙ sym (line_taken_is m at_slot there.0 x there.1 there.2) in
    let told : line_answer m (from_lined m m.line) ≡ Some (Job c.take_up-job.result.action c.take_up-job.result.work) =
    line_answer_is m at_slot there.0 x there.1 there.2 c.in-Some.ensures.lined
    ∙ ap (λ (k : ℕ). Some (Job k x.work)) (sym c.take_up-job.ensures.action)
    ∙ ap (λ work. Some (Job c.take_up-job.result.action work)) (sym c.take_up-job.ensures.work) in
    meets_plain m n TakeUp (Job c.take_up-job.result.action c.take_up-job.result.work) tt
    (line_allowed m (sym c.runs_job.ensures ∙ c.if-runs_job.false)) told left

pub returns-clause-rest : goal.returns-clause-rest
returns-clause-rest g c =
    let s = c.args.state.now in
    let m = machine_of s in record {
      cells = front_long m (machine_with s.cleaner c.take_lined.new.heap.graph s.cycle_open) (from_lined m m.line)
          (c.in-Some.ensures.taken (frame_of s)).1;
      age = search rules;
      table_room = search rules;
      clock = search rules;
    }

pub returns-clause-moves : goal.returns-clause-moves
returns-clause-moves g c =
    let old = c.args.state.now.cleaner in
    let taken = c.take_up-job in
    subst (λ (t : Resources g.row.R.Denot). Moves None old.table taken.result.resource t)
    (ap {A = Cleanings g.row.R.Denot} {B = Resources g.row.R.Denot} (λ x. x.table) (sym taken.ensures.taken))
    (job_moved old.table c.in-Some.taken.1.work taken.result.resource taken.ensures.put_in_last)

pub take_up-job-requires-clause-waits : goal.take_up-job-requires-clause-waits
take_up-job-requires-clause-waits g c =
    let s = c.args.state.now in
    let x = c.in-Some.taken.1 in
    let there = lined_there (machine_of s) c.in-Some.taken.0 x (c.in-Some.ensures.taken (frame_of s)).0 in
    c.requires.waits.actions c.in-Some.taken.0 x (record { there = there.2; unspent = unspent_when_lined x.state c.in-Some.ensures.lined })

pub returns-clause-waits : goal.returns-clause-waits
returns-clause-waits g c =
    let s = c.args.state.now in
    let m = machine_of s in
    let slot = c.in-Some.taken.0 in
    let x = c.in-Some.taken.1 in
    let t = c.in-Some.ensures.taken (frame_of s) in
    let there = lined_there m slot x t.0 in
    let n = machine_with c.take_up-job.new.self c.take_lined.new.heap.graph s.cycle_open in
    let left : n.objects ≡ change_at m.objects slot (with_cleanable spent) =
    ap {A = Machine} {B = Heap} (λ y. y.objects) (t.1 ∙ ap (front_spent m) there.1) in
    inr (inr (releases n s.cleaner c.take_up-job.new.self slot _ (none_unspent m n slot x there.2 left) c.take_up-job.ensures.taken))
