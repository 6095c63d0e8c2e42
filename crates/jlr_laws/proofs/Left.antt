-- What a collection keeps, and what it hands over, in the heap before it.
use Rattle.std.proofs.Common.{◌≡◌, ℕ, true, false, not, List, refl, sym, ◌∙◌, ap, subst, inl, inr, IsTrue, Some, None, is_some}
use Rattle.std.proofs.lemmas.Bool.{both_ways, cases_Bool, not-true}
use Rattle.jlr_machine.specs.declared.object.Object.{Object}
use Rattle.jlr_machine.specs.declared.object.Object.TheVariants.{Plain, Reference, Queue, Cleaner, Cleanable, Guard}
use Rattle.jlr_machine.specs.Objects.{Heap, at, some_and, ◌∋◌, ◌∈◌, is_distinct, any_referent}
use Rattle.jlr_machine.specs.Edges.{strong_edges}
use Rattle.jlr_machine.specs.Collection.{IsCollection, without_referent, has_referent, is_ready}
use Rattle.jlr_machine.specs.Edges.Chain.{UpToPhantom}
use Rattle.jlr_laws.proofs.Paths.{AreEdgesWithin}
use Rattle.jlr_laws.proofs.Clearing.{strong_without}
use Rattle.jlr_laws.proofs.Agree.{one_edge_more, at_base, either, keeps_referent, loses_referent}

pub record IsLeft (heap : Heap) (B kept pending : List ℕ) : Type 0 where
  pub base : (s : ℕ) → s ∈ B → s ∈ kept
  pub strong : (s x : ℕ) (o : Object) → s ∈ kept → at heap s ≡ Some o → x ∈ strong_edges o → x ∈ kept
  -- what is handed over was ready, and lost its referent
  pub lost : (s : ℕ) → s ∈ pending → (o : Object) × (x : ℕ) × (s ∈ kept) × (at heap s ≡ Some o) × (is_ready o ≡ true)
      × (any_referent o ≡ Some x) × ((kept ∋ x) ≡ false)
  pub pended : (s x : ℕ) (o : Object) → s ∈ kept → at heap s ≡ Some o → is_ready o ≡ true → any_referent o ≡ Some x → (kept ∋ x) ≡ false
      → s ∈ pending
  pub once : IsTrue (is_distinct pending)

has_none : (o : Object) → is_some (any_referent (without_referent o)) ≡ false
has_none (Plain fields) = refl
has_none (Reference r) = refl
has_none (Queue members) = refl
has_none Cleaner = refl
has_none (Cleanable c) = refl
has_none (Guard g) = refl

module _ (heap : Heap) (B kept pending : List ℕ) (c : IsCollection heap B kept pending) (within : AreEdgesWithin UpToPhantom heap) where
  strong_kept : (s x : ℕ) (o : Object) → s ∈ kept → at heap s ≡ Some o → x ∈ strong_edges o → x ∈ kept
  strong_kept s x o m e h =
      let r = (c.exact s).0 m in
      elim (either heap B kept pending c within s o e) [
        | inl same ↦ (c.exact x).1 (one_edge_more UpToPhantom c.phantom_left B s x r (inl (o, same, h)))
        | inr without ↦ (c.exact x).1 (one_edge_more UpToPhantom c.phantom_left B s x r
            (inl (without_referent o, without, subst (λ l. x ∈ l) (sym (strong_without o)) h)))
      ]

  abbrev Loses : ℕ → Object → Type 0
  Loses s o = (x : ℕ) × (any_referent o ≡ Some x) × ((kept ∋ x) ≡ false)

  loses : (s : ℕ) (o : Object) → at heap s ≡ Some o → is_some (any_referent o) ≡ true → not (has_referent (at c.phantom_left s)) ≡ true
      → Loses s o
  loses s o e had none =
      elim (any_referent o) as (λ r. any_referent o ≡ r → is_some r ≡ true → Loses s o) [
        | None ↦ λ f h. absurd (both_ways false refl h)
        | Some x ↦ λ f h. elim (cases_Bool (kept ∋ x)) [
          | inl m ↦
              let stays : at c.phantom_left s ≡ Some o = keeps_referent heap B kept pending c within s x o e f m in
              absurd (both_ways (has_referent (at c.phantom_left s)) (not-true (has_referent (at c.phantom_left s)) none)
              (ap has_referent stays ∙ had))
          | inr n ↦ (x, f, n)
        ]
      ] refl had

  pub is_left : IsLeft heap B kept pending
  is_left =
      record {
        base = λ s m. (c.exact s).1 (at_base UpToPhantom c.phantom_left B s m);
        strong = strong_kept;
        lost = λ s m.
            let h = (c.pended s).0 m in
            elim (at heap s) as (λ o. at heap s ≡ o → some_and is_ready o ≡ true → has_referent o ≡ true → (o : Object) × (x : ℕ)
            × (s ∈ kept) × (at heap s ≡ Some o) × (is_ready o ≡ true) × (any_referent o ≡ Some x) × ((kept ∋ x) ≡ false)) [
              | None ↦ λ e f g. absurd (both_ways false refl f)
              | Some o ↦ λ e f g. let r = loses s o e g h.3 in (o, r.0, h.0, e, f, r.1, r.2)
            ] refl h.1 h.2;
        pended = λ s x o m e ready f n.
            let gone = loses_referent heap B kept pending c within s x o m e f n in
            (c.pended s).1 (
              m,
              ap (some_and is_ready) e ∙ ready,
              ap has_referent e ∙ ap is_some f,
              ap (λ p. not (has_referent p)) gone
                  ∙ ap not (has_none o),
            );
        once = c.once;
      }
