-- Lemmas on the fields of a new object.
use Rattle.std.proofs.Common.{◌≡◌, ℕ, ◌+◌, ◌<◌, List, [], ◌∷◌, ◌++◌, length, take, map, sym, ◌∙◌, ap, Some, None}
use Rattle.std.specs.Prelude.{slice_get}
use Rattle.std.proofs.lemmas.List.{take_more, map-append}
use Rattle.std.proofs.lemmas.Option.{slice_get_within, slice_get-get_or, get_or_from_slice_get}
use Rattle.jlr_types.specs.declared.FieldKind.{FieldKind}
use Rattle.jlr_types.specs.declared.FieldKind.TheVariants.{Int}
use Rattle.jlr_types.specs.declared.FieldValue.{FieldValue}
use Rattle.jlr_machine.specs.Lookups.{blank}

-- one more field
pub blank_more : (xs : List FieldKind) (i : ℕ) (k : FieldKind) (now new : List FieldValue) → slice_get xs i ≡ Some k
    → now ≡ map blank (take i xs) → new ≡ now ++ blank k ∷ [] → new ≡ map blank (take (i + 1) xs)
blank_more xs i k now new e n a =
    a ∙ ap {A = List FieldValue} {B = List FieldValue} (λ l. l ++ blank k ∷ []) n
    ∙ sym (ap {A = List FieldKind} {B = List FieldValue} (map blank)
    (take_more xs i k (slice_get_within xs i k e) ∙ ap {A = FieldKind} {B = List FieldKind} (λ y. take i xs ++ y ∷ [])
    (get_or_from_slice_get xs i k k e)) ∙ map-append blank (take i xs) (k ∷ []))

-- there is one at each index
pub never_none : {A : Type 0} (xs : List FieldKind) (i : ℕ) → i < length xs → slice_get xs i ≡ None → A
never_none xs i h e = let f = slice_get-get_or xs i Int h in absurd (cc (e, f))
