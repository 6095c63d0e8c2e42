-- One cleanable changes: it is neither Armed nor Pending from now on, and has no referent.
use Rattle.std.proofs.Common.{◌≡◌, ℕ, true, false, List, [], ◌++◌, refl, sym, ◌∙◌, ap, subst, ◌⊎◌, inl, inr, Some, None, is_some, IsTrue}
use Rattle.std.proofs.Common.{option_and_then, option_to_list}
use Rattle.std.specs.List.{flat_map}
use Rattle.std.proofs.lemmas.Bool.{cases_eq, both_ways}
use Rattle.jlr_machine.specs.declared.object.Object.{Object}
use Rattle.jlr_machine.specs.declared.object.Object.TheVariants.{Reference, Queue, Cleanable, Guard}
use Rattle.jlr_machine.specs.declared.object.Cleanable.{Cleanable as CleanableOf}
use Rattle.jlr_machine.specs.declared.object.CleanState.TheVariants.{Armed}
use Rattle.jlr_machine.specs.declared.machine.Machine.{Machine}
use Rattle.jlr_machine.specs.declared.machine.ResourceState.TheVariants.{Opening}
use Rattle.jlr_machine.specs.Objects.{Heap, at, ◌∈◌, as_reference, as_cleanable}
use Rattle.jlr_machine.specs.Edges.{edges, edges_from, is_own_root, is_active}
use Rattle.jlr_machine.specs.WellFormed.{IsQueueAt, IsCleanableAt, IsObjectAt, HasResource, AreReferences, IsPrivate, state_at}
use Rattle.jlr_machine.specs.WellFormed.{clean_state_at}
use Rattle.jlr_machine.specs.Edges.Chain.{UpToPhantom}
use Rattle.jlr_laws.proofs.Sets.{nothing}
use Rattle.jlr_laws.proofs.Frames.{no_some, some_same}
use Rattle.jlr_laws.proofs.Changes.{cleanable_same}

pub record IsRetouched (old_heap heap : Heap) (s : ℕ) (old new : CleanableOf) : Type 0 where
  pub there : at old_heap s ≡ Some (Cleanable old)
  pub here : at heap s ≡ Some (Cleanable new)
  pub others : (t : ℕ) → (t ≡ s → ⊥) → at heap t ≡ at old_heap t
  pub action : new.action ≡ old.action
  pub work : new.work ≡ old.work
  pub referent : new.referent ≡ None
  pub passive : is_active new.state ≡ false

module _ (m : Machine) (heap : Heap) (s : ℕ) (old new : CleanableOf) (x : IsRetouched m.objects heap s old new) where
  abbrev n : Machine
  n = record m { objects = heap }

  pub not_armed : new.state ≡ Armed → ⊥
  not_armed e = absurd (cc (ap is_active e, x.passive))

  -- what is no cleanable is as it was
  pub back : (t : ℕ) (o : Object) → as_cleanable o ≡ None → at heap t ≡ Some o → at m.objects t ≡ Some o
  back t o k e = elim (cases_eq t s) [
    | inl p ↦
        let both : Some (Cleanable new) ≡ Some o = sym x.here ∙ subst (λ z. at heap z ≡ Some o) p e in
        no_some new (sym k ∙ ap as_cleanable (sym (some_same (Cleanable new) o both)))
    | inr d ↦ sym (x.others t d) ∙ e
  ]

  pub over : (t : ℕ) (o : Object) → as_cleanable o ≡ None → at m.objects t ≡ Some o → at heap t ≡ Some o
  over t o k e = elim (cases_eq t s) [
    | inl p ↦
        let both : Some (Cleanable old) ≡ Some o = sym x.there ∙ subst (λ z. at m.objects z ≡ Some o) p e in
        no_some old (sym k ∙ ap as_cleanable (sym (some_same (Cleanable old) o both)))
    | inr d ↦ x.others t d ∙ e
  ]

  pub cleanable_cases : (t : ℕ) (d : CleanableOf) → at heap t ≡ Some (Cleanable d) → ((t ≡ s) × (d ≡ new))
      ⊎ ((t ≡ s → ⊥) × IsCleanableAt m t d)
  cleanable_cases t d e = elim (cases_eq t s) [
    | inl p ↦ inl (p, cleanable_same n s d new (subst (λ z. at heap z ≡ Some (Cleanable d)) p e) x.here)
    | inr p ↦ inr (p, sym (x.others t p) ∙ e)
  ]

  pub alive : (t : ℕ) → IsObjectAt m t → IsTrue (is_some (at heap t))
  alive t e = elim (cases_eq t s) [
    | inl p ↦ subst (λ z. IsTrue (is_some (at heap z))) (sym p) (ap is_some x.here)
    | inr p ↦ ap is_some (x.others t p) ∙ e
  ]

  pub edges_back : (t y : ℕ) → y ∈ edges_from UpToPhantom heap t → y ∈ edges_from UpToPhantom m.objects t
  edges_back t y h = elim (cases_eq t s) [
    | inl p ↦ nothing y (subst (λ r. y ∈ (option_to_list r ++ [])) x.referent
        (subst (λ o. y ∈ flat_map (edges UpToPhantom) (option_to_list o)) (ap (at heap) p ∙ x.here) h))
    | inr p ↦ subst (λ o. y ∈ flat_map (edges UpToPhantom) (option_to_list o)) (x.others t p) h
  ]

  pub active_back : (t : ℕ) → is_own_root (at heap t) ≡ true → is_own_root (at m.objects t) ≡ true
  active_back t h = elim (cases_eq t s) [
    | inl p ↦ absurd (both_ways (is_active new.state) x.passive (sym (ap is_own_root (ap (at heap) p ∙ x.here)) ∙ h))
    | inr p ↦ sym (ap is_own_root (x.others t p)) ∙ h
  ]

  pub state_same : (t : ℕ) → state_at n t ≡ state_at m t
  state_same t = elim (cases_eq t s) [
    | inl p ↦
        ap (λ o. option_and_then (λ r. Some r.state) (option_and_then as_reference o)) (ap (at heap) p ∙ x.here)
        ∙ sym (ap (λ o. option_and_then (λ r. Some r.state) (option_and_then as_reference o)) (ap (at m.objects) p ∙ x.there))
    | inr p ↦ ap (λ o. option_and_then (λ r. Some r.state) (option_and_then as_reference o)) (x.others t p)
  ]

  pub clean_state_here : clean_state_at n s ≡ Some new.state
  clean_state_here = ap (λ o. option_and_then (λ c. Some c.state) (option_and_then as_cleanable o)) x.here

  pub clean_state_was : clean_state_at m s ≡ Some old.state
  clean_state_was = ap (λ o. option_and_then (λ c. Some c.state) (option_and_then as_cleanable o)) x.there

  pub clean_state_beside : (t : ℕ) → (t ≡ s → ⊥) → clean_state_at n t ≡ clean_state_at m t
  clean_state_beside t d = ap (λ o. option_and_then (λ c. Some c.state) (option_and_then as_cleanable o)) (x.others t d)

  pub references_kept : AreReferences m → AreReferences n
  references_kept r =
      record {
        states = λ t a e. r.states t a (back t (Reference a) refl e);
        members = λ q t members e h. let y = r.members q t members (back q (Queue members) refl e) h in
            (y.0, over t (Reference y.0) refl y.1, y.2);
        once = λ q members e. r.once q members (back q (Queue members) refl e);
        in_one = λ p q t xs ys e f. r.in_one p q t xs ys (back p (Queue xs) refl e) (back q (Queue ys) refl f);
      }

  pub queue_over : (q : ℕ) → ((members : List ℕ) × IsQueueAt m q members) → (members : List ℕ) × IsQueueAt n q members
  queue_over q y = (y.0, over q (Queue y.0) refl y.1)

  pub cleanable_there : (t : ℕ) → ((c : CleanableOf) × IsCleanableAt m t c) → (c : CleanableOf) × (at heap t ≡ Some (Cleanable c))
  cleanable_there t y = elim (cases_eq t s) [
    | inl p ↦ (new, ap (at heap) p ∙ x.here)
    | inr p ↦ (y.0, x.others t p ∙ y.1)
  ]

  -- what was private is so, and nothing else, where no resource becomes Opening
  pub private_back : (heir : Machine) → ((t : ℕ) → at heir.objects t ≡ at heap t)
      → ((rid action : ℕ) → HasResource heir rid action Opening → HasResource m rid action Opening) → (t : ℕ) → IsPrivate heir t
      → IsPrivate m t
  private_back heir e f t (inl p) = elim (cleanable_cases t p.0 (sym (e t) ∙ p.2)) [
    | inl y ↦ inl (old, p.1, ap (at m.objects) y.0 ∙ x.there, sym x.work ∙ ap (λ z. z.work) (sym y.1) ∙ p.3)
    | inr y ↦ inl (p.0, p.1, y.1, p.3)
  ]
  private_back heir e f t (inr p) = elim (cleanable_cases p.0.cleanable p.1 (sym (e p.0.cleanable) ∙ p.3)) [
    | inl y ↦ absurd (not_armed (ap (λ z. z.state) (sym y.1) ∙ p.4))
    | inr y ↦ inr (p.0, p.1, back t (Guard p.0) refl (sym (e t) ∙ p.2), y.1, p.4, f p.0.rid p.1.action p.5)
  ]
