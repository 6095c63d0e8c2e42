-- What each run from an empty machine leads to.
use Rattle.std.proofs.Common.{◌≡◌, ◌≢◌, ℕ, sym, ◌∙◌, ap, subst, inl, inr, refl}
use Rattle.jlr_types.specs.declared.Work.TheVariants.{Resource as WorkOn}
use Rattle.jlr_machine.specs.declared.object.Cleanable.{Cleanable as CleanableOf}
use Rattle.jlr_machine.specs.declared.object.CleanState.TheVariants.{Armed, Pending, Lined, Spent}
use Rattle.jlr_machine.specs.declared.machine.Machine.{Machine}
use Rattle.jlr_machine.specs.declared.machine.Resource.{Resource}
use Rattle.jlr_machine.specs.declared.machine.ResourceState.{ResourceState}
use Rattle.jlr_machine.specs.declared.machine.ResourceState.TheVariants.{Opening, Idle, Out}
use Rattle.jlr_machine.specs.Run.{empty_from}
use Rattle.jlr_machine.specs.WellFormed.{IsWellFormed, IsUnspent, HasResource}
use Rattle.jlr_laws.specs.Laws.{RunsAreWellFormed, TakenUpIsAccountedFor, HasArmed, ResourcesInCallsAreArmed}
use Rattle.jlr_laws.proofs.Frames.{some_same}
use Rattle.jlr_laws.proofs.Empty.{empty_from_is_well_formed}
use Rattle.jlr_laws.proofs.Law.{run_kept}

pub runs_are_well_formed : RunsAreWellFormed
runs_are_well_formed cells sessions resources next_action n entries started small few r =
    run_kept (empty_from cells sessions resources next_action) n entries
    (empty_from_is_well_formed cells sessions resources next_action started small few) r

pub taken_up_is_accounted_for : TakenUpIsAccountedFor
taken_up_is_accounted_for cells sessions resources next_action n entries started small few r =
    (runs_are_well_formed cells sessions resources next_action n entries started small few r).actions.taken

one_state : (m : Machine) (rid action : ℕ) (a b : ResourceState) → HasResource m rid action a → HasResource m rid action b → a ≡ b
one_state m rid action a b e f = ap (λ (r : Resource). r.state)
    (some_same (record { rid = rid; action = action; state = a }) (record { rid = rid; action = action; state = b }) (sym e ∙ f))

-- not Idle, so Armed
armed : (m : Machine) (rid action : ℕ) (state : ResourceState) → IsWellFormed m → HasResource m rid action state → Idle ≢ state
    → (s : ℕ) (c : CleanableOf) → IsUnspent m s c → c.action ≡ action → c.work ≡ WorkOn rid → HasArmed m rid action
armed m rid action state w h d s c u e f =
    let other : c.state ≢ Armed → HasArmed m rid action =
    λ n. absurd (d (one_state m rid action Idle state (subst (λ a. HasResource m rid a Idle) e (w.resources.idle s rid c u f n)) h)) in
    elim (c.state) as (λ st. c.state ≡ st → HasArmed m rid action) [
      | Armed ↦ λ a. (s, c, u.there, e, f, a)
      | Pending ↦ λ a. other (λ b. let z : Pending ≡ Armed = sym a ∙ b in cc z)
      | Lined ↦ λ a. other (λ b. let z : Lined ≡ Armed = sym a ∙ b in cc z)
      | Spent ↦ λ a. absurd (u.unspent a)
    ] refl

pub resources_in_calls_are_armed : ResourcesInCallsAreArmed
resources_in_calls_are_armed m rid action w (inl h) = let x = w.resources.worked rid action Opening h in
    armed m rid action Opening w h (λ e. cc e) x.0 x.1 x.2 x.3 x.4
resources_in_calls_are_armed m rid action w (inr h) = let x = w.resources.worked rid action Out h in
    armed m rid action Out w h (λ e. cc e) x.0 x.1 x.2 x.3 x.4
