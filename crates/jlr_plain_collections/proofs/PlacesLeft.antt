-- Lemmas on the places that a collection leaves.
use Rattle.std.proofs.Common.{◌≡◌, ℕ, zero, suc, ◌+◌, ◌<◌, List, [], ◌∷◌, ◌++◌, length, take, drop, set, ◌∙◌, ap, subst, arith}
use Rattle.std.proofs.Common.{slice_index_or, Option, None, cond, option_map}
use Rattle.jlr_machine.specs.declared.object.Object.{Object}
use Rattle.jlr_machine.specs.Objects.{Heap, ◌∋◌}
use Rattle.jlr_machine.specs.Collection.{left_of, places_left}

-- what is left at one place
abbrev pub place_left : List ℕ → List ℕ → ℕ → Option Object → Option Object
place_left kept pending n o = cond (kept ∋ n) (option_map (left_of kept (pending ∋ n)) o) None

settled_next : (kept pending : List ℕ) (n : ℕ) (xs : Heap) (i k : ℕ) (x y : Option Object) → k ≡ n + i → i < length xs
    → x ≡ slice_index_or (places_left kept pending n (take i xs) ++ drop i xs) i x → y ≡ place_left kept pending k x
    → set (places_left kept pending n (take i xs) ++ drop i xs) i y ≡ places_left kept pending n (take (suc i) xs) ++ drop (suc i) xs
settled_next kept pending n [] i k x y f h e p = absurd (omega (arith, h))
settled_next kept pending n (o ∷ xs) zero k x y f h e p =
    let same : k ≡ n = omega (arith, f) in
    ap {A = Option Object} {B = Heap} (λ z. z ∷ xs) (p ∙ ap {A = ℕ} {B = Option Object} (λ m. place_left kept pending m x) same
    ∙ ap {A = Option Object} {B = Option Object} (place_left kept pending n) e)
settled_next kept pending n (o ∷ xs) (suc i) k x y f h e p =
    ap {A = Heap} {B = Heap} (λ l. place_left kept pending n o ∷ l)
    (settled_next kept pending (suc n) xs i k x y (omega (arith, f)) (omega (arith, h)) e p)

-- one place more is as the collection leaves it
pub place_settled : (kept pending : List ℕ) (xs : Heap) (i : ℕ) (x y : Option Object) (now new : Heap) → i < length xs
    → now ≡ places_left kept pending 0 (take i xs) ++ drop i xs → x ≡ slice_index_or now i x → y ≡ place_left kept pending i x
    → new ≡ set now i y → new ≡ places_left kept pending 0 (take (i + 1) xs) ++ drop (i + 1) xs
place_settled kept pending xs i x y now new h n e p a =
    let next : suc i ≡ i + 1 = omega arith in
    a ∙ ap {A = Heap} {B = Heap} (λ l. set l i y) n
    ∙ subst (λ m. set (places_left kept pending 0 (take i xs) ++ drop i xs) i y ≡ places_left kept pending 0 (take m xs) ++ drop m xs) next
    (settled_next kept pending 0 xs i i x y (omega arith) h (subst {A = Heap} (λ l. x ≡ slice_index_or l i x) n e) p)
