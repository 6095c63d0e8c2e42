-- The guards that calls hold, and those that they name.
use Rattle.std.specs.Prelude.{◌≡◌, ◌≢◌, ℕ, Bool, Option, Some, option_and_then, option_map, IsTrue, is_some}
use Rattle.jlr_types.specs.declared.Work.TheVariants.{Resource as WorkOn}
use Rattle.jlr_machine.specs.declared.machine.Machine.{Machine}
use Rattle.jlr_machine.specs.declared.machine.ResourceState.{ResourceState}
use Rattle.jlr_machine.specs.declared.machine.ResourceState.TheVariants.{Idle}
use Rattle.jlr_machine.specs.declared.object.Cleanable.{Cleanable as CleanableOf}
use Rattle.jlr_machine.specs.declared.object.CleanState.TheVariants.{Spent}
use Rattle.jlr_machine.specs.declared.object.Object.TheVariants.{Guard}
use Rattle.jlr_machine.specs.Objects.{at, is_spent, some_and}
use Rattle.jlr_machine.specs.Lookups.{cleanable_at, slot_named}
use Rattle.jlr_machine.specs.Refusals.{is_cleanable}
use Rattle.jlr_machine.specs.Calls.{fence_of, guard_at}
use Rattle.jlr_machine.specs.WellFormed.{HasResource, IsCleanableAt}
use Rattle.jlr_resource.specs.Resources.{state_in}
use Rattle.jlr_state.specs.declared.resources.Guarded.{Guarded}

-- the guard under a mutator's fence, with its slot
abbrev pub fenced_guard : Machine → ℕ → Option Guarded
fenced_guard m k = option_and_then (λ s. option_map (λ g. record { slot = s; guard = g }) (guard_at m s)) (fence_of m k)

-- a mutator's call holds this guard, whose cleanable is there and whose resource is in this state
pub record HoldsGuard (m : Machine) (k : ℕ) (held : Guarded) (state : ResourceState) : Type 0 where
  pub joined : IsTrue (is_some (at m.mutators k))
  pub fence : fence_of m k ≡ Some held.slot
  pub guard : at m.objects held.slot ≡ Some (Guard held.guard)
  pub cleanable : IsTrue (some_and is_cleanable (at m.objects held.guard.cleanable))
  pub resource : state_in m.resources held.guard.rid ≡ Some state

-- a handle of the mutator names this guard
pub record IsGuardNamed (m : Machine) (k h : ℕ) (held : Guarded) : Type 0 where
  pub named : slot_named m k h ≡ Some held.slot
  pub guard : at m.objects held.slot ≡ Some (Guard held.guard)

-- there is a Spent cleanable at the slot: the resource that it finishes is closed or closing, whatever resource now has
-- its Rid
abbrev pub is_spent_at : Machine → ℕ → Bool
is_spent_at m s = some_and (λ c. is_spent c.state) (cleanable_at m s)

-- where an unspent cleanable is at the slot, the resource that is its work lies in the table
abbrev pub IsIdleAt : Machine → ℕ → Type 0
IsIdleAt m s = (c : CleanableOf) → IsCleanableAt m s c → c.state ≢ Spent → (rid : ℕ) → c.work ≡ WorkOn rid
    → HasResource m rid c.action Idle
