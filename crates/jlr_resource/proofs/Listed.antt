-- What is held, as the machine lists it.
use Rattle.std.proofs.Common.{◌≡◌, ℕ, true, false, cond, not, List, [], ◌∷◌, ◌++◌, refl, ap, nat_lt, ◌==◌, Some, None, find}
use Rattle.std.specs.Option.{option_to_list, option_map}
use Rattle.std.specs.List.{cons_option}
use Rattle.std.proofs.lemmas.Bool.{cond_both, eq-eqb}
use Rattle.jlr_machine.specs.declared.machine.Resource.{Resource}
use Rattle.jlr_machine.specs.Lookups.{with_resource}
use Rattle.jlr_resource.specs.declared.place.Kept.{Kept}
use Rattle.jlr_resource.specs.Resources.{HeldResource, as_resource, resources_in, resource_in, state_in, state_of, value_of, kept_in}
use Rattle.jlr_resource.specs.Resources.{values_in}
use Rattle.jlr_resource.specs.Resources.{resource_in_state, ended, with_held, with_kept, without_held}

module _ {R : Type 0} where
  pub state_found : (held : List (HeldResource R)) (rid : ℕ) → state_in (resources_in held) rid ≡ option_map state_of (kept_in held rid)
  state_found [] rid = refl
  state_found (h ∷ held) rid =
      elim (h.rid == rid) as (λ b. option_map (λ r. r.state) (cond b (Some (as_resource h)) (find (λ r. r.rid == rid) (resources_in held)))
      ≡ option_map state_of (option_map (λ x. x.kept) (cond b (Some h) (find (λ x. x.rid == rid) held)))) [
        | true ↦ refl
        | false ↦ state_found held rid
      ]

  pub resources_changed : (held : List (HeldResource R)) (rid : ℕ) (kept : Kept R)
      → resources_in (with_kept held rid kept) ≡ resource_in_state (resources_in held) rid (state_of kept)
  resources_changed [] rid kept = refl
  resources_changed (h ∷ held) rid kept =
      rw (resources_changed held rid kept)
      (elim (h.rid == rid) as (λ b. as_resource (cond b (record h { kept = kept }) h) ∷ resource_in_state (resources_in held) rid
      (state_of kept)
      ≡ cond b (record (as_resource h) { state = state_of kept }) (as_resource h) ∷ resource_in_state (resources_in held) rid
      (state_of kept)) [
        | true ↦ refl
        | false ↦ refl
      ])

  pub resources_ended : (held : List (HeldResource R)) (rid : ℕ) → resources_in (without_held held rid) ≡ ended (resources_in held) rid
  resources_ended [] rid = refl
  resources_ended (h ∷ held) rid =
      elim (h.rid == rid) as (λ b. resources_in (cond (not b) (h ∷ without_held held rid) (without_held held rid))
      ≡ cond (not b) (as_resource h ∷ ended (resources_in held) rid) (ended (resources_in held) rid)) [
        | true ↦ resources_ended held rid
        | false ↦ ap (λ l. as_resource h ∷ l) (resources_ended held rid)
      ]

  pub resources_new : (held : List (HeldResource R)) (new : HeldResource R)
      → resources_in (with_held held new) ≡ with_resource (resources_in held) (as_resource new)
  resources_new [] new = refl
  resources_new (h ∷ held) new =
      elim (nat_lt new.rid h.rid) as (λ b. resources_in (cond b (new ∷ h ∷ held) (h ∷ with_held held new))
      ≡ cond b (as_resource new ∷ as_resource h ∷ resources_in held)
      (as_resource h ∷ with_resource (resources_in held) (as_resource new))) [
        | true ↦ refl
        | false ↦ ap (λ l. as_resource h ∷ l) (resources_new held new)
      ]

  -- ---- Values

  pub values-cons : (h : HeldResource R) (held : List (HeldResource R)) → values_in (h ∷ held) ≡ option_to_list (value_of h.kept)
      ++ values_in held
  values-cons h held =
      elim (value_of h.kept) as (λ o. cons_option o (values_in held) ≡ option_to_list o ++ values_in held) [
        | None ↦ refl
        | Some v ↦ refl
      ]

  -- one that has no value in the table adds none
  pub values_new : (held : List (HeldResource R)) (new : HeldResource R) → value_of new.kept ≡ None → values_in (with_held held new)
      ≡ values_in held
  values_new [] new none = rw (values-cons new [], none) refl
  values_new (h ∷ held) new none =
      cond_both (nat_lt new.rid h.rid) (new ∷ h ∷ held) (h ∷ with_held held new) (λ l. values_in l ≡ values_in (h ∷ held))
      (λ _. rw (values-cons new (h ∷ held), none) refl)
      (λ _. rw (values-cons h (with_held held new), values-cons h held, values_new held new none) refl)

-- ---- For callers

-- a list without a Rid is as it was
without_absent : (resources : List Resource) (rid : ℕ) → resource_in resources rid ≡ None → ended resources rid ≡ resources
without_absent [] rid none = refl
without_absent (r ∷ resources) rid none =
    elim (r.rid == rid) as (λ b. cond b (Some r) (resource_in resources rid) ≡ None
    → cond (not b) (r ∷ ended resources rid) (ended resources rid) ≡ r ∷ resources) [
      | true ↦ λ e. absurd (cc e)
      | false ↦ λ e. ap (λ l. r ∷ l) (without_absent resources rid e)
    ] none

-- a resource that was put in and has ended leaves the list as it was, for one whose open is not tried after all
pub put_in_and_ended : (resources : List Resource) (new : Resource) → resource_in resources new.rid ≡ None
    → ended (with_resource resources new) new.rid ≡ resources
put_in_and_ended [] new none = rw (eq-eqb new.rid new.rid refl) refl
put_in_and_ended (r ∷ resources) new none =
    cond_both (nat_lt new.rid r.rid) (new ∷ r ∷ resources) (r ∷ with_resource resources new) (λ l. ended l new.rid ≡ r ∷ resources)
    (λ _. rw (eq-eqb new.rid new.rid refl) (without_absent (r ∷ resources) new.rid none))
    (λ _. elim (r.rid == new.rid) as (λ b. cond b (Some r) (resource_in resources new.rid) ≡ None
    → cond (not b) (r ∷ ended (with_resource resources new) new.rid) (ended (with_resource resources new) new.rid) ≡ r ∷ resources) [
      | true ↦ λ e. absurd (cc e)
      | false ↦ λ e. ap (λ l. r ∷ l) (put_in_and_ended resources new e)
    ] none)
