-- What a take-up and an outcome leave, in the machine's words.
use Rattle.std.proofs.Common.{◌≡◌, ℕ, ◌+◌, ◌==◌, true, false, cond, List, [], ◌∷◌, length, refl, arith, nat_lt, Some, is_some}
use Rattle.std.proofs.lemmas.Bool.{cond_both, eqb-true, eq-eqb}
use Rattle.jlr_types.specs.declared.Work.{Work}
use Rattle.jlr_types.specs.declared.Work.TheVariants.{Note, Resource as WorkOn}
use Rattle.jlr_machine.specs.declared.machine.Job.{Job}
use Rattle.jlr_machine.specs.declared.machine.Machine.{Machine}
use Rattle.jlr_machine.specs.declared.machine.ResourceState.TheVariants.{Closing}
use Rattle.jlr_machine.specs.declared.object.Cleanable.{Cleanable}
use Rattle.jlr_machine.specs.declared.ask.Outcome.{Outcome}
use Rattle.jlr_machine.specs.declared.ask.Outcome.TheVariants.{Ok as OutcomeOk, Failed}
use Rattle.jlr_machine.specs.Objects.{with_cleanable}
use Rattle.jlr_machine.specs.Lookups.{rid_of, with_job, with_object, without_job}
use Rattle.jlr_machine.specs.Calls.{finished, spent, taken_up, with_work_state}
use Rattle.jlr_resource.specs.declared.place.Kept.TheVariants as kept
use Rattle.jlr_resource.specs.Resources.{Resources}
use Rattle.jlr_resource.proofs.Listed.{resources_changed, resources_ended}
use Rattle.jlr_cleaner.specs.declared.outcomes.Outcomes.{Outcomes}
use Rattle.jlr_cleaner.specs.Jobs.{is_running, job_in}
use Rattle.jlr_cleaner.specs.Outcomes.{recorded}
use Rattle.jlr_cleaner.specs.Cleanings.{Cleanings, after_finish, after_take_up, machine_of_cleanings, table_closed}

-- ---- The job that was added, and the one that was found

pub added_runs : (jobs : List Job) (new : Job) → is_running jobs new.action ≡ false → job_in (with_job jobs new) new.action ≡ Some new
added_runs [] new none = rw (eq-eqb new.action new.action refl) refl
added_runs (job ∷ jobs) new none =
    cond_both (nat_lt new.action job.action) (new ∷ job ∷ jobs) (job ∷ with_job jobs new) (λ l. job_in l new.action ≡ Some new)
    (λ _. rw (eq-eqb new.action new.action refl) refl)
    (λ _. elim (job.action == new.action) as (λ b. is_some (cond b (Some job) (job_in jobs new.action)) ≡ false
    → cond b (Some job) (job_in (with_job jobs new) new.action) ≡ Some new) [
      | true ↦ λ e. absurd (cc e)
      | false ↦ λ e. added_runs jobs new e
    ] none)

pub length_with : (jobs : List Job) (new : Job) → length (with_job jobs new) ≡ length jobs + 1
length_with [] new = refl
length_with (job ∷ jobs) new =
    cond_both (nat_lt new.action job.action) (new ∷ job ∷ jobs) (job ∷ with_job jobs new) (λ l. length l ≡ length (job ∷ jobs) + 1)
    (λ _. omega arith)
    (λ _. omega (arith, length_with jobs new))

pub found_action : (jobs : List Job) (action : ℕ) (job : Job) → job_in jobs action ≡ Some job → job.action ≡ action
found_action [] action job found = absurd (cc found)
found_action (first ∷ jobs) action job found =
    elim (first.action == action) as (λ b. first.action == action ≡ b → cond b (Some first) (job_in jobs action) ≡ Some job
    → job.action ≡ action) [
      | true ↦ λ e here. (let same : first ≡ job = cc in rw (← same) (eqb-true first.action action e))
      | false ↦ λ _ later. found_action jobs action job later
    ] refl found

pub one_outcome : (o : Outcomes) (action : ℕ) (work : Work) (outcome : Outcome)
    → (recorded o action work outcome).ok + (recorded o action work outcome).failed ≡ o.ok + o.failed + 1
one_outcome o action work OutcomeOk = omega arith
one_outcome o action work (Failed fault) = omega arith

module _ {R : Type 0} where
  taken_work : (c : Cleanings R) (m : Machine) (place s by action : ℕ) (work : Work)
      → machine_of_cleanings (after_take_up c place (record { action = action; work = work; by = by }))
      (with_object m s (with_cleanable spent))
      ≡ with_work_state (record (with_object (machine_of_cleanings c m) s (with_cleanable spent)) {
        jobs = with_job c.jobs
            (record { action = action; work = work; by = by });
        taken = c.taken + 1;
      }) (rid_of work) Closing
  taken_work c m place s by action (Note n) = refl
  taken_work c m place s by action (WorkOn rid) = rw (resources_changed c.table.held rid kept.Closing) refl

  pub machine_taken : (c : Cleanings R) (place by action : ℕ) (work : Work) (m : Machine) (s : ℕ) (d : Cleanable) → d.action ≡ action
      → d.work ≡ work → machine_of_cleanings (after_take_up c place (record { action = action; work = work; by = by }))
      (with_object m s (with_cleanable spent)) ≡ taken_up (machine_of_cleanings c m) by s d
  machine_taken c place by action work m s d a w = rw (← a, ← w) (taken_work c m place s by d.action d.work)

  finished_work : (c : Cleanings R) (m : Machine) (action by : ℕ) (work : Work) (outcome : Outcome)
      → machine_of_cleanings (after_finish c (record { action = action; work = work; by = by }) outcome) m
      ≡ finished (machine_of_cleanings c m) (record { action = action; work = work; by = by }) outcome
  finished_work c m action by (Note n) OutcomeOk = refl
  finished_work c m action by (Note n) (Failed fault) = refl
  finished_work c m action by (WorkOn rid) OutcomeOk = rw (resources_ended c.table.held rid) refl
  finished_work c m action by (WorkOn rid) (Failed fault) = rw (resources_ended c.table.held rid) refl

  pub machine_finished : (c : Cleanings R) (job : Job) (outcome : Outcome) (m : Machine)
      → machine_of_cleanings (after_finish c job outcome) m ≡ finished (machine_of_cleanings c m) job outcome
  machine_finished c job outcome m = finished_work c m job.action job.by job.work outcome

  -- a cleaner's fields after a job was over and its outcome recorded
  pub all_finished : (c : Cleanings R) (job : Job) (outcome : Outcome) (old new : Outcomes) (jobs : List Job) (table : Resources R)
      → old ≡ record { ok = c.ok; failed = c.failed; notes = c.notes; faults = c.faults } → jobs ≡ without_job c.jobs job.action
      → table ≡ table_closed c.table job.work → new ≡ recorded old job.action job.work outcome
      → record c { jobs = jobs; table = table; faults = new.faults; notes = new.notes; ok = new.ok; failed = new.failed }
      ≡ after_finish c job outcome
  all_finished c job OutcomeOk old new jobs table before ended closed recorded = rw (ended, closed, recorded, before) refl
  all_finished c job (Failed fault) old new jobs table before ended closed recorded = rw (ended, closed, recorded, before) refl
