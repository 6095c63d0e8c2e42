-- Splitting at spaces.
use Rattle.std.proofs.Common.{◌≡◌, ℕ, ◌<◌, false, List, [], ◌∷◌, ◌++◌, length, None, refl, ap, ◌∙◌, arith, rules}
use Rattle.std.specs.List.{All, slice_split}
use Rattle.std.proofs.lemmas.List.Splits.{slice_split_none, slice_split_at, length-slice_split}
use Rattle.jlr_wire.specs.Lines.{IsWithout}
use Rattle.jlr_wire.specs.Fields.{is_space}
use Rattle.jlr_wire.specs.Reading.{reading}

not_space : (xs : List ℕ) → IsWithout 32 xs → All (λ x. is_space x ≡ false) xs
not_space xs h = λ k d lt. let n = h k d lt in search (rules, n)

pub split_last : (xs : List ℕ) → IsWithout 32 xs → slice_split is_space xs ≡ xs ∷ []
split_last xs h = slice_split_none is_space xs (not_space xs h)

pub split_first : (xs ys : List ℕ) → IsWithout 32 xs → slice_split is_space (xs ++ 32 ∷ ys) ≡ xs ∷ slice_split is_space ys
split_first xs ys h = slice_split_at is_space xs 32 ys (not_space xs h) refl

-- one field, and those of what stands after its space
pub split_next : (line field rest : List ℕ) (fields : List (List ℕ)) → IsWithout 32 field → line ≡ field ++ 32 ∷ rest
    → slice_split is_space rest ≡ fields
    → slice_split is_space line ≡ field ∷ fields
split_next line field rest fields h cut whole = ap (slice_split is_space) cut ∙ split_first field rest h ∙ ap (λ xs. field ∷ xs) whole

-- five fields or more are no command
reading_over : (word a b c : List ℕ) (fields : List (List ℕ)) → 0 < length fields → reading (word ∷ a ∷ b ∷ c ∷ fields) ≡ None
unfolding reading
reading_over word a b c [] lt = absurd (omega (arith, lt))
reading_over word a b c (d ∷ fields) lt = refl

pub over_is_none : (word a b c rest : List ℕ) → reading (word ∷ a ∷ b ∷ c ∷ slice_split is_space rest) ≡ None
over_is_none word a b c rest = reading_over word a b c (slice_split is_space rest) (omega (arith, length-slice_split is_space rest))
