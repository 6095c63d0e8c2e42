-- What take-ups are answered, and who may take up.
use Rattle.std.specs.Prelude.{◌≡◌, ℕ, true, false, Option, Some, None, Result, Ok, Err}
use Rattle.jlr_types.specs.declared.Refusal.{Refusal}
use Rattle.jlr_machine.specs.declared.machine.Machine.{Machine}
use Rattle.jlr_machine.specs.declared.ask.Answer.{Answer}
use Rattle.jlr_machine.specs.declared.ask.Answer.TheVariants.{AlreadyDone, Handed, Job as JobAnswer, Refused}
use Rattle.jlr_machine.specs.declared.ask.Handed.TheVariants.{Nothing}
use Rattle.jlr_machine.specs.Refusals.{has_call, is_joined}
use Rattle.jlr_cleaner.specs.declared.job.Job.{Job}

-- a mutator that is joined and has no call in flight
pub record IsFreeMutator (m : Machine) (k : ℕ) : Type 0 where
  pub joined : is_joined m k ≡ true
  pub free : has_call m k ≡ false

module _ {R : Type 0} where
  -- with no job: the action was taken up before
  abbrev pub started_answer : Option (Job R) → Answer
  started_answer None = AlreadyDone
  started_answer (Some job) = JobAnswer job.action job.work

  abbrev pub job_resource : Option (Job R) → Option R
  job_resource None = None
  job_resource (Some job) = job.resource

  abbrev pub clean_answer : Result (Option (Job R)) Refusal → Answer
  clean_answer (Ok job) = started_answer job
  clean_answer (Err r) = Refused r

  -- with no job: none is Lined
  abbrev pub take_up_answered : Result (Option (Job R)) Refusal → Answer
  take_up_answered (Ok None) = Handed Nothing
  take_up_answered (Ok (Some job)) = JobAnswer job.action job.work
  take_up_answered (Err r) = Refused r

  abbrev pub handed_out : Result (Option (Job R)) Refusal → Option R
  handed_out (Ok job) = job_resource job
  handed_out (Err r) = None
