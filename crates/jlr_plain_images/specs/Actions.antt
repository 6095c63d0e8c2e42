-- The test of actions.
use Rattle.std.specs.Prelude.{ℕ, ◌+◌, Bool, ◌&&◌, ◌||◌, cond, Option, Some, None, length, count_by, nat_eq, nat_le}
use Rattle.std.specs.Prelude.{nat_lt, is_none}
use Rattle.std.specs.List.{list_all}
use Rattle.jlr_machine.specs.declared.object.Object.{Object}
use Rattle.jlr_machine.specs.declared.object.Object.TheVariants.{Cleanable}
use Rattle.jlr_machine.specs.declared.object.Cleanable.{Cleanable as CleanableOf}
use Rattle.jlr_machine.specs.declared.machine.Machine.{Machine}
use Rattle.jlr_machine.specs.declared.machine.Job.{Job}
use Rattle.jlr_machine.specs.Objects.{is_armed, is_spent}
use Rattle.jlr_machine.specs.Lookups.{job_of}
use Rattle.jlr_machine.specs.WellFormed.{is_unspent_place}
use Rattle.jlr_plain_images.specs.Places.{none_or, on_cleanable, rising_by, keys_are_apart}

-- the action of an unspent cleanable
abbrev pub unspent_action : Option Object → Option ℕ
unspent_action (Some (Cleanable c)) = cond (is_spent c.state) None (Some c.action)
unspent_action _ = None

-- an action is at least 1 and less than the next one
abbrev pub is_action : Machine → ℕ → Bool
is_action m action = nat_le 1 action && nat_lt action m.next_action

-- no running job has the action of an unspent cleanable, and only an Armed one has a referent
abbrev pub acts : Machine → CleanableOf → Bool
acts m c = is_action m c.action && (is_spent c.state || is_none (job_of m c.action))
    && (is_armed c.state || is_none c.referent)

-- those of jobs, resources and faults are
abbrev pub all_are_actions : Machine → Bool
all_are_actions m =
    list_all (λ job. is_action m job.action) m.jobs
    && list_all (λ r. is_action m r.action) m.resources
    && list_all (λ f. is_action m f.action) m.faults

-- jobs are in the order of their actions
abbrev pub action_of : Job → ℕ
action_of job = job.action

-- at most one job is the cleaner's, what was taken is over or running, and a number is left for each unspent cleanable
abbrev pub counts_fit : Machine → Bool
counts_fit m =
    nat_le (count_by (λ job. nat_eq job.by 255) m.jobs) 1
    && nat_eq m.taken (m.ok + m.failed + length m.jobs)
    && nat_lt (m.taken + count_by is_unspent_place m.objects) m.next_action

-- all that is asked of actions
abbrev pub actions_fit : Machine → Bool
actions_fit m =
    keys_are_apart unspent_action m.objects
    && list_all (none_or (on_cleanable (acts m))) m.objects
    && rising_by action_of m.jobs
    && all_are_actions m
    && counts_fit m
