-- What a cleaner keeps, as contracts see it, and what its calls change.
use Rattle.std.specs.Prelude.{◌≡◌, ℕ, ◌+◌, ◌<◌, List, [], ◌∷◌, ◌++◌, Option, Some, None, length, replicate, ⊤}
use Rattle.std.specs.List.{AllByRecursion}
use Rattle.jlr_types.specs.declared.Work.{Work}
use Rattle.jlr_types.specs.declared.Work.TheVariants.{Note, Resource as WorkOn}
use Rattle.jlr_machine.specs.declared.machine.Failure.{Failure}
use Rattle.jlr_machine.specs.declared.machine.Job.{Job}
use Rattle.jlr_machine.specs.declared.machine.Machine.{Machine}
use Rattle.jlr_machine.specs.declared.machine.ResourceState.{ResourceState}
use Rattle.jlr_machine.specs.declared.machine.ResourceState.TheVariants as state
use Rattle.jlr_machine.specs.declared.ask.Outcome.{Outcome}
use Rattle.jlr_machine.specs.declared.ask.Outcome.TheVariants.{Ok as OutcomeOk, Failed}
use Rattle.jlr_machine.specs.Objects.{Table, at, empty_at, set_at}
use Rattle.jlr_machine.specs.Lookups.{last_256, with_job, without_job}
use Rattle.jlr_machine.specs.Calls.{noted}
use Rattle.jlr_resource.specs.declared.place.Kept.TheVariants as kept
use Rattle.jlr_resource.specs.Resources.{Resources, changed, kept_at, removed, resource_in, resources}
use Rattle.jlr_resource.specs.Resources.{resource_state_at}

-- The machine's fields that a cleaner keeps, with the table in place of the list of resources; and at each place the
-- action that was registered there and not yet taken up, if there is one
pub record Cleanings (R : Type 0) : Type 0 where
  pub waiting : Table ℕ
  pub jobs : List Job
  pub table : Resources R
  pub faults : List Failure
  pub notes : List ℕ
  pub next_action : ℕ
  pub taken : ℕ
  pub ok : ℕ
  pub failed : ℕ

-- each action that waits was given, and waits at one place
pub record AreRegistered (waiting : Table ℕ) (next_action : ℕ) : Type 0 where
  pub given : (place action : ℕ) → at waiting place ≡ Some action → action < next_action
  pub once : (place other action : ℕ) → at waiting place ≡ Some action → at waiting other ≡ Some action → place ≡ other

module _ {R : Type 0} where
  -- the machine with these fields, and all others as in m
  abbrev pub machine_of_cleanings : Cleanings R → Machine → Machine
  machine_of_cleanings c m =
      record m {
        jobs = c.jobs;
        resources = resources c.table;
        resource_limit = c.table.limit;
        faults = c.faults;
        notes = c.notes;
        next_action = c.next_action;
        taken = c.taken;
        ok = c.ok;
        failed = c.failed;
      }

  -- nothing was registered or taken up, there are so many places, the table may hold limit resources, and this is the
  -- next action
  abbrev pub fresh : ℕ → ℕ → ℕ → Cleanings R
  fresh places limit next_action =
      record {
        waiting = replicate places None;
        jobs = [];
        table =
            record { held = []; limit = limit; room = 0; next = 0 };
        faults = [];
        notes = [];
        next_action = next_action;
        taken = 0;
        ok = 0;
        failed = 0;
      }

  -- ---- The resource that is an action's work

  -- where the work is a resource, the table has it, for this action and in this state
  abbrev pub HasWork : Resources R → ℕ → ResourceState → Work → Type 0
  HasWork t action s (Note n) = ⊤
  HasWork t action s (WorkOn rid) =
      resource_in (resources t) rid ≡ Some (record { rid = rid; action = action; state = s })

  abbrev pub IsInState : Resources R → ResourceState → Work → Type 0
  IsInState t s (Note n) = ⊤
  IsInState t s (WorkOn rid) = resource_state_at t rid ≡ Some s

  -- where the work is a resource, its value is handed out, and only there
  abbrev pub HandsOut : Resources R → Work → Option R → Type 0
  HandsOut t (Note n) handed = handed ≡ None
  HandsOut t (WorkOn rid) None = ⊥
  HandsOut t (WorkOn rid) (Some value) = kept_at t rid ≡ Some (kept.Idle value)

  abbrev pub table_closing : Resources R → Work → Resources R
  table_closing t (Note n) = t
  table_closing t (WorkOn rid) = changed t rid kept.Closing

  abbrev pub table_closed : Resources R → Work → Resources R
  table_closed t (Note n) = t
  table_closed t (WorkOn rid) = removed t rid

  -- ---- Changes

  -- the next action waits at this place
  abbrev pub after_register : Cleanings R → ℕ → Cleanings R
  after_register c place = record c { waiting = set_at c.waiting place c.next_action; next_action = c.next_action + 1 }

  -- the action at this place waits no more: a job more runs, and its resource is Closing
  abbrev pub after_take_up : Cleanings R → ℕ → Job → Cleanings R
  after_take_up c place job = record c {
    waiting = empty_at c.waiting place;
    jobs = with_job c.jobs job;
    table = table_closing c.table job.work;
    taken = c.taken + 1;
  }

  -- the job and its resource are over
  abbrev pub without_job_and_work : Cleanings R → Job → Cleanings R
  without_job_and_work c job = record c { jobs = without_job c.jobs job.action; table = table_closed c.table job.work }

  -- and its outcome is recorded
  abbrev pub after_finish : Cleanings R → Job → Outcome → Cleanings R
  after_finish c job OutcomeOk = record (without_job_and_work c job) { ok = c.ok + 1; notes = noted c.notes job.work }
  after_finish c job (Failed fault) = record (without_job_and_work c job) {
    failed = c.failed + 1;
    faults = last_256 (c.faults ++ record { action = job.action; fault = fault } ∷ []);
  }

  -- ---- What always holds

  -- the resource of each job that runs is Closing
  abbrev pub AreClosing : Resources R → List Job → Type 0
  AreClosing t jobs = AllByRecursion (λ job. HasWork t job.action state.Closing job.work) jobs

  pub record IsCleanings (waiting : Table ℕ) (t : Resources R) (jobs : List Job)
      (next_action taken ok failed : ℕ) : Type 0 where
    pub registered : AreRegistered waiting next_action
    pub closing : AreClosing t jobs
    pub adds_up : taken ≡ ok + failed + length jobs
    pub numbered : taken < next_action
