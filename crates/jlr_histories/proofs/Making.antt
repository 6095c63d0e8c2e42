-- What the asks that make objects leave at each slot.
use Rattle.std.proofs.Common.{◌≡◌, ℕ, ◌+◌, ◌≤◌, false, List, [], ◌∷◌, length, refl, sym, ◌∙◌, subst, inl, inr, arith, Some}
use Rattle.std.proofs.lemmas.Bool.{cases_eq, cases_lt, cases_Bool, both_ways}
use Rattle.std.proofs.lemmas.List.{length-set}
use Rattle.jlr_types.specs.declared.Work.TheVariants.{Resource as WorkOn}
use Rattle.jlr_machine.specs.declared.object.Object.{Object}
use Rattle.jlr_machine.specs.declared.object.Object.TheVariants.{Cleanable, Guard}
use Rattle.jlr_machine.specs.declared.object.CleanState.TheVariants.{Armed}
use Rattle.jlr_machine.specs.declared.machine.Machine.{Machine}
use Rattle.jlr_machine.specs.Objects.{Heap, at, set_at, ◌∋◌}
use Rattle.jlr_machine.specs.Calls.{made, registered, prepared_in}
use Rattle.jlr_laws.proofs.Sets.{in_front, in_rest, in_cons, nothing}
use Rattle.jlr_laws.proofs.Checks.{at_beyond}
use Rattle.jlr_laws.proofs.Frames.{set_same, set_other}
use Rattle.jlr_histories.proofs.Changes.{IsNewAt, IsMaking}

-- ---- Slots that are fresh

not_first : (s x : ℕ) (xs : List ℕ) → ((x ∷ xs) ∋ s) ≡ false → s ≡ x → ⊥
not_first s x xs h e = both_ways ((x ∷ xs) ∋ s) h (in_front s x xs e)

not_later : (s x : ℕ) (xs : List ℕ) → ((x ∷ xs) ∋ s) ≡ false → (xs ∋ s) ≡ false
not_later s x xs h = elim (cases_Bool (xs ∋ s)) [ inl i ↦ absurd (both_ways ((x ∷ xs) ∋ s) h (in_rest s x xs i)) | inr n ↦ n ]

-- what stands in the slot of a new object
placed : (next : ℕ) (heap : Heap) (s t : ℕ) (o : Object) → IsNewAt next (Some o) → t ≡ s → IsNewAt next (at (set_at heap s o) t)
placed next heap s t o h e =
    subst (λ i. IsNewAt next (at (set_at heap s o) i)) (sym e)
    (elim (cases_lt s (length heap)) [
      | inl l ↦ subst (IsNewAt next) (sym (set_same heap s (Some o) l)) h
      | inr b ↦
          let long : length (set_at heap s o) ≤ s = subst (λ k. k ≤ s) (sym (length-set heap s (Some o))) b in
          subst (IsNewAt next) (sym (at_beyond (set_at heap s o) s long)) tt
    ])

-- ---- One new object

pub made_making : (m : Machine) (k : ℕ) (fresh : List ℕ) (o : Object) → length fresh ≡ 1 → IsNewAt m.next_action (Some o)
    → IsMaking m (made m k fresh o) fresh
made_making m k [] o one h = absurd (omega (arith, one))
made_making m k (x ∷ []) o one h =
    record {
      others = λ s d. set_other m.objects x s (Some o) (not_first s x [] d);
      new = λ s i. elim (in_cons s x [] i) [ inl e ↦ placed m.next_action m.objects x s o h e | inr j ↦ nothing s j ];
      next = omega arith;
    }
made_making m k (x ∷ y ∷ rest) o one h = absurd (omega (arith, one))

-- ---- A cleanable that is registered, and a guard with its cleanable

pub registered_making : (m : Machine) (k h note : ℕ) (fresh : List ℕ) → length fresh ≡ 1
    → IsMaking m (record (made m k fresh (registered m k h note)) { next_action = m.next_action + 1 }) fresh
registered_making m k h note fresh one =
    let a = made_making m k fresh (registered m k h note) one (refl, refl) in
    record { others = a.others; new = a.new; next = omega arith }

pub prepared_making : (m : Machine) (k : ℕ) (fresh : List ℕ) (rid : ℕ) → length fresh ≡ 2 → IsMaking m (prepared_in m k fresh rid) fresh
prepared_making m k [] rid two = absurd (omega (arith, two))
prepared_making m k (g ∷ []) rid two = absurd (omega (arith, two))
prepared_making m k (g ∷ c ∷ []) rid two =
    let guard : Object = Guard (record { rid = rid; cleanable = c }) in
    let cleanable : Object = Cleanable (record { referent = Some g; action = m.next_action; work = WorkOn rid; state = Armed }) in
    let first : Heap = set_at m.objects g guard in
    record {
      others = λ s d. set_other first c s (Some cleanable) (not_first s c [] (not_later s g (c ∷ []) d))
          ∙ set_other m.objects g s (Some guard) (not_first s g (c ∷ []) d);
      new = λ s i. elim (cases_eq s c) [
        | inl e ↦ placed m.next_action first c s cleanable (refl, refl) e
        | inr d ↦ elim (in_cons s g (c ∷ []) i) [
          | inl e ↦ subst (IsNewAt m.next_action) (sym (set_other first c s (Some cleanable) d))
              (placed m.next_action m.objects g s guard tt e)
          | inr j ↦ elim (in_cons s c [] j) [ inl e ↦ absurd (d e) | inr z ↦ nothing s z ]
        ]
      ];
      next = omega arith;
    }
prepared_making m k (g ∷ c ∷ x ∷ rest) rid two = absurd (omega (arith, two))
