-- The test of calls.
use Rattle.std.specs.Prelude.{ℕ, Bool, true, false, not, ◌&&◌, ◌||◌, Option, Some, length, nat_eq, is_none}
use Rattle.std.specs.List.{list_all, list_any}
use Rattle.jlr_machine.specs.declared.object.Object.{Object}
use Rattle.jlr_machine.specs.declared.object.Object.TheVariants.{Guard}
use Rattle.jlr_machine.specs.declared.object.Cleanable.{Cleanable as CleanableOf}
use Rattle.jlr_machine.specs.declared.machine.Machine.{Machine}
use Rattle.jlr_machine.specs.declared.machine.Session.{Session}
use Rattle.jlr_machine.specs.declared.machine.Job.{Job as JobOf}
use Rattle.jlr_machine.specs.declared.machine.Resource.{Resource}
use Rattle.jlr_machine.specs.declared.machine.Call.{Call}
use Rattle.jlr_machine.specs.declared.machine.Call.TheVariants.{Free, Opening as CallOpening, Out as CallOut}
use Rattle.jlr_machine.specs.declared.machine.Call.TheVariants.{Job as CallJob}
use Rattle.jlr_machine.specs.declared.machine.ResourceState.{ResourceState}
use Rattle.jlr_machine.specs.declared.machine.ResourceState.TheVariants.{Opening, Idle, Out, Closing}
use Rattle.jlr_machine.specs.Objects.{at, some_and, is_armed}
use Rattle.jlr_machine.specs.Lookups.{resource_at, job_of, cleanable_at}
use Rattle.jlr_plain_images.specs.Places.{none_or, each_number}
use Rattle.jlr_plain_images.specs.Resources.{has_resource}

-- the two calls are the same
abbrev pub same_call : Call → Call → Bool
same_call Free Free = true
same_call (CallOpening a) (CallOpening b) = nat_eq a b
same_call (CallOut a) (CallOut b) = nat_eq a b
same_call (CallJob a) (CallJob b) = nat_eq a b
same_call _ _ = false

-- there is no call
abbrev pub is_free_call : Call → Bool
is_free_call Free = true
is_free_call _ = false

-- ---- Each call is what its fence says

-- Armed, and its resource in this state
abbrev pub is_in_call : Machine → ℕ → ResourceState → CleanableOf → Bool
is_in_call m rid state c = is_armed c.state && has_resource m rid c.action state

-- a guard of this resource, with its cleanable in the call
abbrev pub is_guard_in_call : Machine → ℕ → ResourceState → Object → Bool
is_guard_in_call m rid state (Guard g) = nat_eq g.rid rid
    && some_and (is_in_call m rid state) (cleanable_at m g.cleanable)
is_guard_in_call m rid state _ = false

-- the mutator's fence is on such a guard
abbrev pub is_fencing : Machine → Session → ℕ → ResourceState → Bool
is_fencing m s rid state = some_and (λ t. some_and (is_guard_in_call m rid state) (at m.objects t)) s.fence

-- a call on a resource fences its guard, a job is the own one, and no other call has a fence
abbrev pub fits_call : Machine → ℕ → Session → Call → Bool
fits_call m k s Free = is_none s.fence
fits_call m k s (CallOpening rid) = is_fencing m s rid Opening
fits_call m k s (CallOut rid) = is_fencing m s rid Out
fits_call m k s (CallJob action) = is_none s.fence && some_and (λ job. nat_eq job.by k) (job_of m action)

-- the mutator fits the call that it is in
abbrev pub fits_own_call : Machine → ℕ → Session → Bool
fits_own_call m k s = fits_call m k s s.call

-- each mutator does
abbrev pub all_fit_calls : Machine → Bool
all_fit_calls m = each_number (length m.mutators) (λ k. none_or (fits_own_call m k) (at m.mutators k))

-- ---- Each resource in use, and each job, is a call

-- the mutator is in this call
abbrev pub is_calling : Call → Session → Bool
is_calling call s = same_call s.call call

-- some mutator is
abbrev pub is_called : Machine → Call → Bool
is_called m call = list_any (some_and (is_calling call)) m.mutators

-- a resource that is Opening or Out is the call of a mutator
abbrev pub needs_call : Machine → ℕ → ResourceState → Bool
needs_call m rid Opening = is_called m (CallOpening rid)
needs_call m rid Out = is_called m (CallOut rid)
needs_call m rid Idle = true
needs_call m rid Closing = true

-- the resource has the call that it needs
abbrev pub has_its_call : Machine → Resource → Bool
has_its_call m r = needs_call m r.rid r.state

-- each resource that a Rid finds has
abbrev pub all_have_calls : Machine → Bool
all_have_calls m = list_all (λ r. none_or (has_its_call m) (resource_at m r.rid)) m.resources

-- the cleaner's, or the call of its mutator
abbrev pub is_called_job : Machine → JobOf → Bool
is_called_job m job = nat_eq job.by 255 || some_and (is_calling (CallJob job.action)) (at m.mutators job.by)

-- each job that an action finds is
abbrev pub all_jobs_called : Machine → Bool
all_jobs_called m = list_all (λ job. none_or (is_called_job m) (job_of m job.action)) m.jobs

-- ---- Calls apart

-- both mutators are in the same call
abbrev pub are_in_one_call : Option Session → Option Session → Bool
are_in_one_call (Some s) (Some t) = not (is_free_call s.call) && same_call s.call t.call
are_in_one_call _ _ = false

-- no other mutator is in the call of j
abbrev pub call_is_apart : Machine → ℕ → Bool
call_is_apart m j =
    each_number (length m.mutators) (λ k. nat_eq j k || not (are_in_one_call (at m.mutators j) (at m.mutators k)))

-- no call is that of two mutators
abbrev pub calls_are_apart : Machine → Bool
calls_are_apart m = each_number (length m.mutators) (call_is_apart m)

-- all that is asked of calls
abbrev pub calls_fit : Machine → Bool
calls_fit m = all_fit_calls m && all_have_calls m && calls_are_apart m && all_jobs_called m
