-- Walks over a list, one item after another.
use Rattle.std.proofs.Common.{◌≡◌, ℕ, suc, ◌+◌, ◌<◌, ◌⊎◌, inl, inr, List, [], ◌∷◌, ◌++◌, Option, Some, None, length, take, slice_index_or}
use Rattle.std.proofs.Common.{filter_map, refl, sym, ◌∙◌, ap, subst, add-one, arith, zero}
use Rattle.std.specs.List.{cons_option}
use Rattle.std.proofs.Math.Seq.{take-suc}
use Rattle.std.proofs.lemmas.List.Elements.{filter_map-append}
use Rattle.std.proofs.lemmas.Option.{same_Some}
use Rattle.jlr_machine.specs.Objects.{◌∈◌}
use Rattle.jlr_links.proofs.Places.{took}
use Rattle.jlr_laws.proofs.Sets.{nothing, in_front, in_cons}
use Rattle.jlr_laws.proofs.Clearing.{in_append, in_left, in_right}

one_gives : (o : Option ℕ) (x : ℕ) → x ∈ cons_option o [] → o ≡ Some x
one_gives None x h = nothing x h
one_gives (Some y) x h = elim (in_cons x y [] h) [ inl e ↦ ap (λ z. Some z) (sym e) | inr n ↦ nothing x n ]

one_from : (o : Option ℕ) (x : ℕ) → o ≡ Some x → x ∈ cons_option o []
one_from o x e = subst (λ o. x ∈ cons_option o []) (sym e) (in_front x x [] refl)

module _ {A : Type 0} (f : A → Option ℕ) (items : List A) (i : ℕ) (d : A) (l : i < length items) where
  abbrev before : List ℕ
  before = filter_map f (take i items)

  abbrev here : List ℕ
  here = filter_map f (slice_index_or items i d ∷ [])

  one_more : filter_map f (take (i + 1) items) ≡ before ++ here
  one_more = ap (λ n. filter_map f (take n items)) (add-one i) ∙ ap (filter_map f) (take-suc items i d l)
      ∙ filter_map-append f (take i items) (slice_index_or items i d ∷ [])

  pub walk_gives : (x : ℕ) → x ∈ filter_map f (take (i + 1) items) → (x ∈ before) ⊎ (f (slice_index_or items i d) ≡ Some x)
  walk_gives x h = elim (in_append x before here (subst (λ l. x ∈ l) one_more h)) [
    | inl o ↦ inl o
    | inr n ↦
        inr (one_gives (f (slice_index_or items i d)) x n)
  ]

  pub walk_from : (x : ℕ) → (x ∈ before) ⊎ (f (slice_index_or items i d) ≡ Some x) → x ∈ filter_map f (take (i + 1) items)
  walk_from x h = subst (λ l. x ∈ l) (sym one_more)
      (elim h [ inl o ↦ in_left x before here o | inr n ↦ in_right x before here (one_from (f (slice_index_or items i d)) x n) ])

-- an item's slot is among those of the whole list
pub item_in : {A : Type 0} (f : A → Option ℕ) (items : List A) (i : ℕ) (d : A) (x : ℕ) → i < length items
    → f (slice_index_or items i d) ≡ Some x → x ∈ filter_map f items
item_in f [] i d x l e = absurd (omega (arith, l))
item_in f (y ∷ items) zero d x l e = subst (λ o. x ∈ cons_option o (filter_map f items)) (sym e) (in_front x x (filter_map f items) refl)
item_in f (y ∷ items) (suc i) d x l e =
    let rest : x ∈ filter_map f items = item_in f items i d x (omega (arith, l)) e in
    elim (f y) as (λ o. x ∈ cons_option o (filter_map f items)) [ None ↦ rest | Some z ↦ in_right x (z ∷ []) (filter_map f items) rest ]

-- ---- The same for a list of slots

module _ (items : List ℕ) (i d : ℕ) (l : i < length items) where
  pub took_gives : (x : ℕ) → x ∈ take (i + 1) items → (x ∈ take i items) ⊎ (Some (slice_index_or items i d) ≡ Some x)
  took_gives x h = elim (in_append x (take i items) (slice_index_or items i d ∷ []) (subst (λ l. x ∈ l) (took items i d l) h)) [
    | inl o ↦ inl o
    | inr n ↦ elim (in_cons x (slice_index_or items i d) [] n) [ inl e ↦ inr (ap (λ y. Some y) (sym e)) | inr none ↦ nothing x none ]
  ]

  pub took_from : (x : ℕ) → (x ∈ take i items) ⊎ (Some (slice_index_or items i d) ≡ Some x) → x ∈ take (i + 1) items
  took_from x h = subst (λ l. x ∈ l) (sym (took items i d l)) (elim h [
    | inl o ↦ in_left x (take i items) (slice_index_or items i d ∷ []) o
    | inr e ↦ in_right x (take i items) (slice_index_or items i d ∷ [])
        (in_front x (slice_index_or items i d) [] (sym (same_Some (slice_index_or items i d) x e)))
  ])
