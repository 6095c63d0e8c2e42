-- The test of resources and guards.
use Rattle.std.specs.Prelude.{ℕ, Bool, true, false, not, ◌&&◌, ◌||◌, Option, Some, None, length, nat_eq}
use Rattle.std.specs.List.{list_all, list_any}
use Rattle.jlr_types.specs.declared.Work.{Work}
use Rattle.jlr_types.specs.declared.Work.TheVariants.{Note, Resource as WorkOn}
use Rattle.jlr_machine.specs.declared.object.Object.{Object}
use Rattle.jlr_machine.specs.declared.object.Object.TheVariants.{Cleanable, Guard}
use Rattle.jlr_machine.specs.declared.object.Cleanable.{Cleanable as CleanableOf}
use Rattle.jlr_machine.specs.declared.object.Guard.{Guard as GuardOf}
use Rattle.jlr_machine.specs.declared.machine.Machine.{Machine}
use Rattle.jlr_machine.specs.declared.machine.Job.{Job}
use Rattle.jlr_machine.specs.declared.machine.Resource.{Resource}
use Rattle.jlr_machine.specs.declared.machine.ResourceState.{ResourceState}
use Rattle.jlr_machine.specs.declared.machine.ResourceState.TheVariants.{Opening, Idle, Out, Closing}
use Rattle.jlr_machine.specs.Objects.{at, some_and, is_armed, is_spent}
use Rattle.jlr_machine.specs.Lookups.{resource_at, job_of, cleanable_at}
use Rattle.jlr_plain_images.specs.Places.{none_or, each_number, on_cleanable, on_guard, rising_by, keys_are_apart}

-- ---- Works and states

-- the work is a resource
abbrev pub is_on_resource : Work → Bool
is_on_resource (WorkOn rid) = true
is_on_resource (Note n) = false

-- the work is this resource
abbrev pub is_work_on : ℕ → Work → Bool
is_work_on rid (WorkOn r) = nat_eq r rid
is_work_on rid (Note n) = false

-- states, one by one
abbrev pub is_opening_state : ResourceState → Bool
is_opening_state Opening = true
is_opening_state Idle = false
is_opening_state Out = false
is_opening_state Closing = false

abbrev pub is_idle : ResourceState → Bool
is_idle Idle = true
is_idle Opening = false
is_idle Out = false
is_idle Closing = false

abbrev pub is_state_out : ResourceState → Bool
is_state_out Out = true
is_state_out Opening = false
is_state_out Idle = false
is_state_out Closing = false

abbrev pub is_closing : ResourceState → Bool
is_closing Closing = true
is_closing Opening = false
is_closing Idle = false
is_closing Out = false

-- the state is the wanted one
abbrev pub is_state : ResourceState → ResourceState → Bool
is_state Opening s = is_opening_state s
is_state Idle s = is_idle s
is_state Out s = is_state_out s
is_state Closing s = is_closing s

-- it has this action and this state
abbrev pub fits_resource : ℕ → ResourceState → Resource → Bool
fits_resource action state r = nat_eq r.action action && is_state state r.state

-- so has the resource with this Rid
abbrev pub has_resource : Machine → ℕ → ℕ → ResourceState → Bool
has_resource m rid action state = some_and (fits_resource action state) (resource_at m rid)

-- ---- Each resource is the work of a cleanable or a job

-- an unspent cleanable with this action and this resource as work
abbrev pub is_worker : ℕ → ℕ → Object → Bool
is_worker rid action (Cleanable c) = not (is_spent c.state) && nat_eq c.action action && is_work_on rid c.work
is_worker rid action _ = false

-- a Closing resource has a running job with its action and itself as work, any other an unspent cleanable
abbrev pub has_worker : Machine → ℕ → ℕ → ResourceState → Bool
has_worker m rid action Closing = some_and (λ job. is_work_on rid job.work) (job_of m action)
has_worker m rid action _ = list_any (some_and (is_worker rid action)) m.objects

-- the resource has its worker
abbrev pub is_worked : Machine → Resource → Bool
is_worked m r = has_worker m r.rid r.action r.state

-- each resource that a Rid finds has its worker
abbrev pub all_are_worked : Machine → Bool
all_are_worked m = list_all (λ r. none_or (is_worked m) (resource_at m r.rid)) m.resources

-- ---- Each such work has its resource

-- not Closing, and Idle where the cleanable is no longer Armed
abbrev pub serves : CleanableOf → Resource → Bool
serves c r = nat_eq r.action c.action && not (is_closing r.state) && (is_armed c.state || is_idle r.state)

-- the work has its resource, as long as the cleanable is unspent
abbrev pub is_served : Machine → CleanableOf → Work → Bool
is_served m c (Note n) = true
is_served m c (WorkOn rid) = is_spent c.state || some_and (serves c) (resource_at m rid)

-- the cleanable's work does
abbrev pub has_its_resource : Machine → CleanableOf → Bool
has_its_resource m c = is_served m c c.work

-- the work has its resource, Closing
abbrev pub closes : Machine → Job → Work → Bool
closes m job (Note n) = true
closes m job (WorkOn rid) = has_resource m rid job.action Closing

-- the job's work does
abbrev pub closes_its_own : Machine → Job → Bool
closes_its_own m job = closes m job job.work

-- so does the work of each job that an action finds
abbrev pub all_jobs_close : Machine → Bool
all_jobs_close m = list_all (λ job. none_or (closes_its_own m) (job_of m job.action)) m.jobs

-- ---- Guards

-- the cleanable of the guard there
abbrev pub guarded_slot : Option Object → Option ℕ
guarded_slot (Some (Guard g)) = Some g.cleanable
guarded_slot _ = None

-- the cleanable is Spent, or Armed with the guard as referent and its Rid as work
abbrev pub is_own : ℕ → GuardOf → CleanableOf → Bool
is_own s g c = is_spent c.state || (is_armed c.state && some_and (nat_eq s) c.referent && is_work_on g.rid c.work)

-- the guard's cleanable is its own
abbrev pub owns : Machine → ℕ → GuardOf → Bool
owns m s g = none_or (is_own s g) (cleanable_at m g.cleanable)

-- each guard's is
abbrev pub all_guards_own : Machine → Bool
all_guards_own m = each_number (length m.objects) (λ s. none_or (on_guard (owns m s)) (at m.objects s))

-- a guard of the cleanable at s
abbrev pub is_guard_of : ℕ → Object → Bool
is_guard_of s (Guard g) = nat_eq g.cleanable s
is_guard_of s _ = false

-- an Armed cleanable with a resource as work has a guard
abbrev pub is_guarded : Machine → ℕ → CleanableOf → Bool
is_guarded m s c = not (is_armed c.state && is_on_resource c.work) || list_any (some_and (is_guard_of s)) m.objects

-- each such cleanable has
abbrev pub all_are_guarded : Machine → Bool
all_are_guarded m = each_number (length m.objects) (λ s. none_or (on_cleanable (is_guarded m s)) (at m.objects s))

-- each guard has a cleanable of its own, and each cleanable of a resource its guard
abbrev pub guards_fit : Machine → Bool
guards_fit m = keys_are_apart guarded_slot m.objects && all_guards_own m && all_are_guarded m

-- resources are in the order of their Rids
abbrev pub rid_in : Resource → ℕ
rid_in r = r.rid

-- all that is asked of resources and guards
abbrev pub resources_fit : Machine → Bool
resources_fit m =
    rising_by rid_in m.resources
    && all_are_worked m
    && list_all (none_or (on_cleanable (has_its_resource m))) m.objects
    && all_jobs_close m
    && guards_fit m
