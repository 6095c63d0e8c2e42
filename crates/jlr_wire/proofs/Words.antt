-- Words that are compared one byte after the other.
use Rattle.std.proofs.Common.{◌≡◌, ℕ, ◌+◌, ◌<◌, ◌≤◌, true, List, [], ◌∷◌, length, drop, slice_index_or, refl, ap, ◌∙◌, arith}
use Rattle.std.specs.Str.{bytes_eq}
use Rattle.std.proofs.lemmas.Bool.{eq-eqb}
use Rattle.std.proofs.lemmas.List.{drop_all, drop_more}

-- equal heads leave what is behind them to decide
same_heads : (a b : ℕ) (xs ys : List ℕ) → a ≡ b → bytes_eq (a ∷ xs) (b ∷ ys) ≡ bytes_eq xs ys
same_heads a b xs ys e = rw (eq-eqb a b e) refl

pub one_more : (field word : List ℕ) (i : ℕ) → i < length field → length field ≡ length word
    → slice_index_or field i 0 ≡ slice_index_or word i 0
    → bytes_eq (drop i field) (drop i word) ≡ bytes_eq (drop (i + 1) field) (drop (i + 1) word)
one_more field word i lt count e =
    ap (λ xs. bytes_eq xs (drop i word)) (drop_more field i 0 lt)
    ∙ ap (λ ys. bytes_eq (slice_index_or field i 0 ∷ drop (i + 1) field) ys) (drop_more word i 0 (omega (arith, lt, count)))
    ∙ same_heads (slice_index_or field i 0) (slice_index_or word i 0) (drop (i + 1) field) (drop (i + 1) word) e

pub none_left : (field word : List ℕ) (i : ℕ) → length field ≤ i → length field ≡ length word → bytes_eq (drop i field) (drop i word) ≡ true
none_left field word i le count =
    ap (λ xs. bytes_eq xs (drop i word)) (drop_all i field le) ∙ ap (λ ys. bytes_eq [] ys) (drop_all i word (omega (arith, le, count)))
