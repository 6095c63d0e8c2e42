-- The labels of slots, and where the kinds that they stand for are found.
use Rattle.std.proofs.Common.{◌≡◌, ◌<◌, ℕ, zero, suc, inl, inr, Bool, true, List, ◌∷◌, Option, Some, None, length, replicate, set, refl}
use Rattle.std.proofs.Common.{sym, ap, ◌∙◌, subst, length-set, get_or-set_same, get_or-set_other}
use Rattle.std.proofs.lemmas.Bool.{cases_eq}
use Rattle.std.proofs.lemmas.List.{length-replicate}
use Rattle.std.specs.Prelude.{map, slice_index_or}
use Rattle.jlr_sets.specs.SlotSets.{is_in}
use Rattle.jlr_cells.specs.Kinds.{AreFound, shown_kind}
use Rattle.jlr_cells.specs.declared.kinds.Label.TheVariants.{Nothing}
use Rattle.jlr_cells.specs.declared.shape.Kind.{Kind}
use Rattle.jlr_cells.specs.declared.shape.Kind.TheVariants.{Array, Cleanable}

-- at first there is nothing at any slot
pub no_kinds_shown : (count : ℕ) → map shown_kind (replicate count Nothing) ≡ replicate count None
no_kinds_shown zero = refl
no_kinds_shown (suc n) = ap (λ l. None ∷ l) (no_kinds_shown n)

none_there : (count s : ℕ) (kind : Kind) → slice_index_or (replicate count None) s None ≡ Some kind → ⊥
none_there zero s kind e = absurd (cc)
none_there (suc n) zero kind e = absurd (cc)
none_there (suc n) (suc s) kind e = none_there n s kind e

pub none_found : (count : ℕ) (cleanables arrays : List Bool) → length cleanables ≡ count → length arrays ≡ count
    → AreFound (replicate count None) cleanables arrays
none_found count cleanables arrays places array_places =
    record {
      places = places ∙ sym (length-replicate {A = Option Kind} count None);
      array_places = array_places ∙ sym (length-replicate {A = Option Kind} count None);
      found = λ s e. absurd (none_there count s Cleanable e);
      array_found = λ s e. absurd (none_there count s Array e);
    }

-- what a kind that changed is, and that the others stay
kind_here :
    (kinds : List (Option Kind)) (s : ℕ) (kind : Option Kind) {k : Option Kind} (t : ℕ)
    → s < length kinds → t ≡ s → slice_index_or (set kinds s kind) t None ≡ k → kind ≡ k
kind_here kinds s kind t within same e = sym (get_or-set_same kinds s kind None within)
    ∙ ap (λ x. slice_index_or (set kinds s kind) x None) (sym same) ∙ e

kind_there :
    (kinds : List (Option Kind)) (s : ℕ) (kind : Option Kind) {k : Option Kind} (t : ℕ)
    → (t ≡ s → ⊥) → slice_index_or (set kinds s kind) t None ≡ k → slice_index_or kinds t None ≡ k
kind_there kinds s kind t other e = sym (get_or-set_other kinds s t kind None other) ∙ e

-- a kind changes, and both sets with it
pub found_set :
    (kinds : List (Option Kind)) (cleanables arrays cleanables' arrays' : List Bool) (s : ℕ) (kind : Option Kind)
    → AreFound kinds cleanables arrays → s < length kinds
    → (kind ≡ Some Cleanable → is_in cleanables' s ≡ true)
    → ((t : ℕ) → (t ≡ s → ⊥) → is_in cleanables' t ≡ is_in cleanables t)
    → length cleanables' ≡ length cleanables
    → (kind ≡ Some Array → is_in arrays' s ≡ true)
    → ((t : ℕ) → (t ≡ s → ⊥) → is_in arrays' t ≡ is_in arrays t)
    → length arrays' ≡ length arrays
    → AreFound (set kinds s kind) cleanables' arrays'
found_set kinds cleanables arrays cleanables' arrays' s kind found within cleanable others places array array_others array_places =
    record {
      places = places ∙ found.places ∙ sym (length-set kinds s kind);
      array_places = array_places ∙ found.array_places ∙ sym (length-set kinds s kind);
      found = λ t e. elim (cases_eq t s) [
        | inl same ↦ subst (λ x. is_in cleanables' x ≡ true) (sym same) (cleanable (kind_here kinds s kind t within same e))
        | inr other ↦ others t other ∙ found.found t (kind_there kinds s kind t other e)
      ];
      array_found = λ t e. elim (cases_eq t s) [
        | inl same ↦ subst (λ x. is_in arrays' x ≡ true) (sym same) (array (kind_here kinds s kind t within same e))
        | inr other ↦ array_others t other ∙ found.array_found t (kind_there kinds s kind t other e)
      ];
    }
