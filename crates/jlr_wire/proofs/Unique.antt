-- Bytes have one list of lines.
use Rattle.std.proofs.Common.{◌≡◌, ℕ, Bool, false, eqb, List, [], ◌∷◌, ◌++◌, length, refl, sym, ap, ◌∙◌, arith, rules, append_assoc}
use Rattle.std.proofs.Common.{length-append}
use Rattle.std.specs.List.{All, slice_split}
use Rattle.std.proofs.lemmas.List.Elements.{All-head, All-tail}
use Rattle.std.proofs.lemmas.List.Splits.{slice_split_none, slice_split_at}
use Rattle.jlr_wire.specs.Lines.{AreLines, IsInLine, ended_lines}

is_end : ℕ → Bool
is_end b = eqb b 10

no_end : (xs : List ℕ) → IsInLine xs → All (λ x. is_end x ≡ false) xs
unfolding is_end
no_end xs h = λ k d lt. let n = h k d lt in search (rules, n)

-- the parts between the ends are the lines and what comes after the last end
apart : (lines : List (List ℕ)) (last : List ℕ) → All IsInLine lines → IsInLine last
    → slice_split is_end (ended_lines lines ++ last) ≡ lines ++ last ∷ []
unfolding is_end
apart [] last each open_end = slice_split_none is_end last (no_end last open_end)
apart (line ∷ lines) last each open_end =
    let joined : ended_lines (line ∷ lines) ++ last ≡ line ++ 10 ∷ (ended_lines lines ++ last)
    = append_assoc (line ++ 10 ∷ []) (ended_lines lines) last ∙ append_assoc line (10 ∷ []) (ended_lines lines ++ last) in
    ap (slice_split is_end) joined
    ∙ slice_split_at is_end line 10 (ended_lines lines ++ last) (no_end line (All-head IsInLine line lines each)) refl
    ∙ ap (λ xs. line ∷ xs) (apart lines last (All-tail IsInLine line lines each) open_end)

same_parts : (xs ys : List (List ℕ)) (x y : List ℕ) → xs ++ x ∷ [] ≡ ys ++ y ∷ [] → (xs ≡ ys) × (x ≡ y)
same_parts [] [] x y e = (refl, cc)
same_parts [] (b ∷ ys) x y e = absurd (omega (arith, ap length e, length-append ys (y ∷ [])))
same_parts (a ∷ xs) [] x y e = absurd (omega (arith, ap length e, length-append xs (x ∷ [])))
same_parts (a ∷ xs) (b ∷ ys) x y e =
    let tails : xs ++ x ∷ [] ≡ ys ++ y ∷ [] = cc in
    let heads : a ≡ b = cc in
    let rest = same_parts xs ys x y tails in
    (rw (heads, rest.0) refl, rest.1)

pub unique : (bytes : List ℕ) (lines other : List (List ℕ)) (last other_last : List ℕ)
    → AreLines bytes lines last → AreLines bytes other other_last → (lines ≡ other) × (last ≡ other_last)
unique bytes lines other last other_last h k =
    same_parts lines other last other_last
    (sym (apart lines last h.each h.open_end) ∙ ap (slice_split is_end) (sym h.joined ∙ k.joined)
    ∙ apart other other_last k.each k.open_end)
