-- The jobs that run, as the machine lists them.
use Rattle.std.specs.Prelude.{ℕ, ◌<◌, ◌==◌, Bool, List, Option, find, is_some, map, nat_eq}
use Rattle.std.specs.List.{list_any, AllByRecursion, IsDistinct}
use Rattle.jlr_machine.specs.declared.machine.Job.{Job}
use Rattle.jlr_machine.specs.Objects.{some_and}

abbrev pub job_in : List Job → ℕ → Option Job
job_in jobs action = find (λ job. job.action == action) jobs

abbrev pub is_running : List Job → ℕ → Bool
is_running jobs action = is_some (job_in jobs action)

-- a job of this taker runs
abbrev pub runs_job : List Job → ℕ → Bool
runs_job jobs by = list_any (λ job. job.by == by) jobs

-- the job with this action runs, and is this taker's
abbrev pub is_job_of : List Job → ℕ → ℕ → Bool
is_job_of jobs by action = some_and (λ job. job.by == by) (job_in jobs action)

-- no two jobs have one action, and no two have one taker
pub record AreApart (jobs : List Job) : Type 0 where
  pub actions : IsDistinct nat_eq (map (λ job. job.action) jobs)
  pub takers : IsDistinct nat_eq (map (λ job. job.by) jobs)
  pub in_range : AllByRecursion (λ by. by < 256) (map (λ job. job.by) jobs)
