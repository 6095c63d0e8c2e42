-- What a slab of places holds, after each of its calls.
use Rattle.std.proofs.Common.{◌≡◌, ◌≢◌, ℕ, suc, ◌+◌, ◌<◌, ◌^◌, List, [], ◌∷◌, ◌++◌, map, length, get_or, set, refl, ◌∙◌, ap, subst, arith}
use Rattle.std.proofs.Common.{Option, Some, None, IsSome}
use Rattle.std.specs.Option.{option_to_list, option_map}
use Rattle.std.specs.List.{AllByRecursion}
use Rattle.std.specs.List.Sorted.{IsPermutation}
use Rattle.std.proofs.lemmas.List.{length-map}
use Rattle.jlr_machine.specs.Lookups.{with_resource}
use Rattle.jlr_machine.specs.declared.machine.Resource.{Resource}
use Rattle.slab.specs.Slab.{Slab, get, ContainsKey, Updates, with_value, slab_len, entries, entries_from}
use Rattle.slab.proofs.SlabLemmas.{Updates-with_value}
use Rattle.jlr_resource.specs.declared.place.Kept.{Kept}
use Rattle.jlr_resource.specs.declared.place.Place.{Place}
use Rattle.jlr_resource.specs.Resources.{as_resource, resources_in, resource_in, state_in, resource_in_state, ended, state_of, value_of}
use Rattle.jlr_resource.specs.Resources.{kept_in}
use Rattle.jlr_resource.specs.Resources.{values_in, with_held, with_kept, without_held}
use Rattle.jlr_resource.specs.Places.{held_by, held_from, AreRids}
use Rattle.jlr_resource.proofs.Listed.{state_found, resources_changed, resources_ended, resources_new, values_new}
use Rattle.jlr_resource.proofs.Placed.{as_held, found_from, changed_from, removed_from, inserted_from, values_changed, values_gone}
use Rattle.jlr_resource.proofs.Placed.{count_from}

module _ {R : Type 0} where
  pub kept_found : (slab : Slab (Place R)) (rid : ℕ) → kept_in (held_by slab) rid ≡ option_map (λ p. p.kept) (get slab rid)
  kept_found slab rid =
      rw (found_from 0 rid slab.slots rid (omega arith))
      (elim (get slab rid) as (λ o. option_map (λ h. h.kept) (option_map (as_held rid) o) ≡ option_map (λ p. p.kept) o) [
        | None ↦ refl
        | Some p ↦ refl
      ])

  pub state_kept : (slab : Slab (Place R)) (rid : ℕ)
      → state_in (resources_in (held_by slab)) rid ≡ option_map (λ p. state_of p.kept) (get slab rid)
  state_kept slab rid =
      rw (state_found (held_by slab) rid, kept_found slab rid)
      (elim (get slab rid) as (λ o. option_map state_of (option_map (λ p. p.kept) o) ≡ option_map (λ p. state_of p.kept) o) [
        | None ↦ refl
        | Some p ↦ refl
      ])

  pub has_place : (slab : Slab (Place R)) (rid key : ℕ) → key ≡ rid → IsSome (state_in (resources_in (held_by slab)) rid)
      → ContainsKey slab key
  has_place slab rid key same held =
      rw same
      (elim (get slab rid) as (λ o. IsSome (option_map (λ p. state_of p.kept) o) → IsSome o) [
        | None ↦ λ h. h
        | Some p ↦ λ h. h
      ] (rw (state_kept slab rid) at held))

  pub state_there : (slab : Slab (Place R)) (rid : ℕ) (p : Place R) → get slab rid ≡ Some p
      → state_in (resources_in (held_by slab)) rid ≡ Some (state_of p.kept)
  state_there slab rid p here = rw (state_kept slab rid, here) refl

  pub kept_there : (slab : Slab (Place R)) (rid : ℕ) (p : Place R) → get slab rid ≡ Some p → kept_in (held_by slab) rid ≡ Some p.kept
  kept_there slab rid p here = rw (kept_found slab rid, here) refl

  pub state_nowhere : (slab : Slab (Place R)) (rid : ℕ) → get slab rid ≡ None → state_in (resources_in (held_by slab)) rid ≡ None
  state_nowhere slab rid gone = rw (state_kept slab rid, gone) refl

  -- a change at one key leaves what is kept elsewhere
  pub kept_elsewhere : (old new : Slab (Place R)) (rid : ℕ) (slot : Option (Place R)) → Updates old new rid slot → (other : ℕ) → other ≢ rid
      → kept_in (held_by new) other ≡ kept_in (held_by old) other
  kept_elsewhere old new rid slot updates other apart = rw (kept_found new other, kept_found old other, updates.others other apart) refl

  -- ---- A place where another kind of thing is kept

  module _ (slab : Slab (Place R)) (rid : ℕ) (p : Place R) (kept : Kept R) (here : get slab rid ≡ Some p) where
    abbrev changed_slab : Slab (Place R)
    changed_slab = with_value slab rid (record p { kept = kept })

    here_changed : get changed_slab rid ≡ Some (record p { kept = kept })
    here_changed = (Updates-with_value slab rid (record p { kept = kept }) (rw here refl)).changed

    pub kept_changed : kept_in (held_by changed_slab) rid ≡ Some kept
    kept_changed = kept_there changed_slab rid (record p { kept = kept }) here_changed

    pub others_changed : (other : ℕ) → other ≢ rid → kept_in (held_by changed_slab) other ≡ kept_in (held_by slab) other
    others_changed = kept_elsewhere slab changed_slab rid _ (Updates-with_value slab rid (record p { kept = kept }) (rw here refl))

    pub state_changed : state_in (resources_in (held_by changed_slab)) rid ≡ Some (state_of kept)
    state_changed = state_there changed_slab rid (record p { kept = kept }) here_changed

    pub held_changed : held_by changed_slab ≡ with_kept (held_by slab) rid kept
    held_changed = changed_from 0 rid slab.slots rid p kept (omega arith) here

    pub listed_changed : resources_in (held_by changed_slab) ≡ resource_in_state (resources_in (held_by slab)) rid (state_of kept)
    listed_changed = rw held_changed (resources_changed (held_by slab) rid kept)

    pub flow_changed : IsPermutation (option_to_list (value_of kept) ++ values_in (held_by slab))
        (option_to_list (value_of p.kept) ++ values_in (held_by changed_slab))
    flow_changed = values_changed 0 rid slab.slots p kept here

  -- ---- A place taken away

  module _ (old new : Slab (Place R)) (rid : ℕ) (p : Place R) (here : get old rid ≡ Some p)
      (gone : new.slots ≡ set old.slots rid None) where
    pub held_gone : held_by new ≡ without_held (held_by old) rid
    held_gone = rw gone (removed_from 0 rid old.slots rid (omega arith))

    pub listed_gone : resources_in (held_by new) ≡ ended (resources_in (held_by old)) rid
    listed_gone = rw held_gone (resources_ended (held_by old) rid)

    pub no_value_gone : value_of p.kept ≡ None → values_in (held_by new) ≡ values_in (held_by old)
    no_value_gone none = rw gone (values_gone 0 rid old.slots p here none)

  pub count_listed : (slab : Slab (Place R)) → length (resources_in (held_by slab)) ≡ slab_len slab
  count_listed slab = length-map (held_by slab) as_resource ∙ count_from 0 slab.slots

  -- ---- A new place

  module _ (old new : Slab (Place R)) (rid : ℕ) (p : Place R) (vacant : get old rid ≡ None) (updates : Updates old new rid (Some p)) where
    pub held_new : held_by new ≡ with_held (held_by old) (as_held rid p)
    held_new = inserted_from 0 rid old.slots new.slots rid p (omega arith) vacant updates.changed updates.others

    pub listed_new : resources_in (held_by new) ≡ with_resource (resources_in (held_by old))
        (record { rid = rid; action = p.action; state = state_of p.kept })
    listed_new = rw held_new (resources_new (held_by old) (as_held rid p))

    pub no_value_new : value_of p.kept ≡ None → values_in (held_by new) ≡ values_in (held_by old)
    no_value_new none = rw held_new (values_new (held_by old) (as_held rid p) none)

  -- at a vacant key there is no resource
  pub none_listed : (slab : Slab (Place R)) (rid : ℕ) → get slab rid ≡ None → resource_in (resources_in (held_by slab)) rid ≡ None
  none_listed slab rid vacant =
      let state : state_in (resources_in (held_by slab)) rid ≡ None = rw (state_kept slab rid, vacant) refl in
      elim (resource_in (resources_in (held_by slab)) rid) as (λ o. option_map (λ r. r.state) o ≡ None → o ≡ None) [
        | None ↦ λ _. refl
        | Some r ↦ λ e. absurd (cc e)
      ] state

  -- ---- A slab that has only grown

  pub vacant_before : (old mid : Slab (Place R)) (rid : ℕ) → mid.slots ≡ old.slots → get mid rid ≡ None → get old rid ≡ None
  vacant_before old mid rid slots vacant = subst (λ (s : List (Option (Place R))). get_or s rid None ≡ None) slots vacant

  pub updates_before : (old mid new : Slab (Place R)) (rid : ℕ) (slot : Option (Place R)) → mid.slots ≡ old.slots → Updates mid new rid slot
      → Updates old new rid slot
  updates_before old mid new rid slot slots updates = record {
    changed = updates.changed;
    others = λ other apart. updates.others other apart ∙ ap (λ (s : List (Option (Place R))). get_or s other None) slots;
  }

  -- ---- The entries of a slab

  abbrev pub as_listed : ℕ × Place R → Resource
  as_listed e = record { rid = e.0; action = e.1.action; state = state_of e.1.kept }

  entries_listed_from : (first : ℕ) (slots : List (Option (Place R)))
      → map as_listed (entries_from first slots) ≡ resources_in (held_from first slots)
  entries_listed_from first [] = refl
  entries_listed_from first (None ∷ slots) = entries_listed_from (first + 1) slots
  entries_listed_from first (Some p ∷ slots) = ap (λ l. as_listed (first, p) ∷ l) (entries_listed_from (first + 1) slots)

  pub entries_listed : (slab : Slab (Place R)) → map as_listed (entries slab) ≡ resources_in (held_by slab)
  entries_listed slab = entries_listed_from 0 slab.slots

  -- the keys of these entries are numbers of Rids
  abbrev pub HaveRids : List (ℕ × Place R) → Type 0
  HaveRids es = AllByRecursion (λ e. e.0 < 2 ^ 32) es

  entries_have_rids_from : (first : ℕ) (slots : List (Option (Place R))) → ((at : ℕ) → IsSome (get_or slots at None) → first + at < 2 ^ 32)
      → HaveRids (entries_from first slots)
  entries_have_rids_from first [] fit = tt
  entries_have_rids_from first (None ∷ slots) fit = entries_have_rids_from (first + 1) slots (λ at h. omega (arith, fit (suc at) h))
  entries_have_rids_from first (Some p ∷ slots) fit =
      (omega (arith, fit 0 refl), entries_have_rids_from (first + 1) slots (λ at h. omega (arith, fit (suc at) h)))

  pub entries_have_rids : (slab : Slab (Place R)) → AreRids slab → HaveRids (entries slab)
  entries_have_rids slab rids = entries_have_rids_from 0 slab.slots (λ at h. omega (arith, rids.fit at h))
