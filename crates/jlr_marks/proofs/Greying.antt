-- Grey cells, one more and one less.
use Rattle.std.proofs.Common.{◌≡◌, ◌<◌, ◌∷◌, ◌++◌, ℕ, inl, inr, ◌-◌, Bool, true, false, List, [], Option, Some, None, length, get_or, set}
use Rattle.std.proofs.Common.{refl, sym, ◌∙◌, ap, subst, arith}
use Rattle.std.specs.Prelude.{IfSome, IsPermutation, MatchOption, nat_eq, option_to_list, slice_get}
use Rattle.std.proofs.lemmas.List.{append-nil}
use Rattle.std.proofs.lemmas.Option.{slice_get-get_or, slice_get_past}
use Rattle.std.specs.List.{IsDistinct, AllByRecursion}
use Rattle.std.proofs.lemmas.Bool.{both_ways, eq-eqb, eqb-true, false_from_ne_true}
use Rattle.std.proofs.lemmas.List.Sorted.{IsPermutation-sym, IsPermutation-to_front, list_any-IsPermutation}
use Rattle.std.proofs.lemmas.Map.Keys.{IsDistinct-IsPermutation}
use Rattle.jlr_machine.specs.Objects.{◌∈◌}
use Rattle.jlr_laws.proofs.Sets.{nothing, in_front, in_rest, in_cons}
use Rattle.jlr_laws.proofs.Clearing.{in_append}
use Rattle.jlr_marks.specs.Marking.{AreGrey}
use Rattle.jlr_marks.proofs.Shading.{marked_here, set_keeps}

-- ---- Lists without repeats

apart : (x : ℕ) (ys : List ℕ) → (x ∈ ys → ⊥) → AllByRecursion (λ y. nat_eq x y ≡ false) ys
apart x [] h = tt
apart x (y ∷ ys) h = (false_from_ne_true (nat_eq x y) (λ e. h (in_front x y ys (eqb-true x y e))), apart x ys (λ i. h (in_rest x y ys i)))

not_again : {P : Type 0} (x : ℕ) (ys : List ℕ) → AllByRecursion (λ y. nat_eq x y ≡ false) ys → x ∈ ys → P
not_again x [] all h = nothing x h
not_again x (y ∷ ys) all h =
    elim (in_cons x y ys h) [ inl e ↦ absurd (both_ways (nat_eq x y) all.0 (eq-eqb x y e)) | inr i ↦ not_again x ys all.1 i ]

flipped : (x y : ℕ) (b : Bool) → nat_eq y x ≡ b → nat_eq x y ≡ b
flipped x y true e = eq-eqb x y (sym (eqb-true y x e))
flipped x y false e = false_from_ne_true (nat_eq x y) (λ t. both_ways (nat_eq y x) e (eq-eqb y x (sym (eqb-true x y t))))

one_before : (x : ℕ) (xs : List ℕ) → (x ∈ xs → ⊥) → IsDistinct nat_eq xs → IsDistinct nat_eq (x ∷ xs)
unfolding IsDistinct
one_before x xs out once = (apart x xs out, once)

front_once : {P : Type 0} (x : ℕ) (xs : List ℕ) → IsDistinct nat_eq (x ∷ xs) → x ∈ xs → P
unfolding IsDistinct
front_once x xs once h = not_again x xs once.0 h

rest_once : (x : ℕ) (xs : List ℕ) → IsDistinct nat_eq (x ∷ xs) → IsDistinct nat_eq xs
unfolding IsDistinct
rest_once x xs once = once.1

-- ---- Grey cells

pub none_grey : (bits : List Bool) → AreGrey bits []
unfolding IsDistinct
none_grey bits = record { marked = λ x h. nothing x h; once = tt }

-- a cell is marked, and none is grey but those before
pub grey_still : (bits : List Bool) (grey : List ℕ) (y : ℕ) → y < length bits → AreGrey bits grey → AreGrey (set bits y true) grey
grey_still bits grey y inside g = record { marked = λ x h. set_keeps bits y x inside (g.marked x h); once = g.once }

-- a white cell is shaded
pub grey_more : (bits : List Bool) (grey : List ℕ) (y : ℕ) → y < length bits → get_or bits y false ≡ false → AreGrey bits grey
    → AreGrey (set bits y true) (grey ++ y ∷ [])
grey_more bits grey y inside white g =
    let out : y ∈ grey → ⊥ = λ h. both_ways (get_or bits y false) white (g.marked y h) in
    record {
      marked = λ x h. elim (in_append x grey (y ∷ []) h) [
        | inl o ↦ set_keeps bits y x inside (g.marked x o)
        | inr n ↦ elim (in_cons x y [] n) [
          | inl e ↦ subst (λ z. get_or (set bits y true) z false ≡ true) (sym e) (marked_here bits y inside)
          | inr z ↦ nothing x z
        ]
      ];
      once = IsDistinct-IsPermutation nat_eq (λ a b. flipped a b (nat_eq b a) refl) (y ∷ grey) (grey ++ y ∷ [])
          (IsPermutation-sym (grey ++ y ∷ []) (y ∷ grey) (IsPermutation-to_front grey y)) (one_before y grey out g.once);
    }

module _ (bits : List Bool) (old new : List ℕ) (x : ℕ) (g : AreGrey bits old) (taken : IsPermutation old (x ∷ new)) where
  only_once : IsDistinct nat_eq (x ∷ new)
  only_once = IsDistinct-IsPermutation nat_eq (λ a b. flipped a b (nat_eq b a) refl) old (x ∷ new) taken g.once

  -- a cell is grey no more
  pub taken_once : x ∈ new → ⊥
  taken_once h = front_once x new only_once h

  pub grey_less : AreGrey bits new
  grey_less = record {
    marked =
        λ z h. g.marked z (list_any-IsPermutation (nat_eq z) old (x ∷ new) taken ∙ in_rest z x new h);
    once = rest_once x new only_once;
  }

-- ---- The last grey slot is taken

module _ (bits : List Bool) (old new : List ℕ) (g : AreGrey bits old) where
  pub popped : (r : Option ℕ) → old ≡ new ++ option_to_list r → IfSome r (λ slot. IsPermutation old (slot ∷ new))
  popped None e = tt
  popped (Some slot) e = subst (λ l. IsPermutation l (slot ∷ new)) (sym e) (IsPermutation-to_front new slot)

  pub popped_once : (r : Option ℕ) → old ≡ new ++ option_to_list r → IfSome r (λ slot. ¬ (slot ∈ new))
  popped_once None e = tt
  popped_once (Some slot) e = taken_once bits old new slot g (popped (Some slot) e)

  pub still_grey : (r : Option ℕ) → old ≡ new ++ option_to_list r → AreGrey bits new
  still_grey None e = subst (AreGrey bits) (e ∙ append-nil new) g
  still_grey (Some slot) e = grey_less bits old new slot g (popped (Some slot) e)

pub last_is : (r : Option ℕ) (items : List ℕ) (n : ℕ) → n ≡ length items → MatchOption r (n ≡ 0) (λ _. 0 < n)
    → ((d : ℕ) → 0 < n → r ≡ Some (get_or items (n - 1) d)) → r ≡ slice_get items (length items - 1)
last_is None items n e h value = sym (slice_get_past items (length items - 1) (omega (arith, e, h)))
last_is (Some x) items n e h value =
    let within : n - 1 < length items = omega (arith, e, h) in
    value x h ∙ sym (slice_get-get_or items (n - 1) x within) ∙ ap (λ k. slice_get items (k - 1)) e

-- a cell is grey again, before all others
pub grey_again : (bits : List Bool) (grey : List ℕ) (y : ℕ) → get_or bits y false ≡ true → (y ∈ grey → ⊥) → AreGrey bits grey
    → AreGrey bits (y ∷ grey)
grey_again bits grey y on out g =
    record {
      marked = λ x h. elim (in_cons x y grey h) [ inl e ↦ subst (λ z. get_or bits z false ≡ true) (sym e) on | inr o ↦ g.marked x o ];
      once = one_before y grey out g.once;
    }

-- the first is grey no more
pub first_once : (bits : List Bool) (grey : List ℕ) (y : ℕ) → AreGrey bits (y ∷ grey) → y ∈ grey → ⊥
first_once bits grey y g h = front_once y grey g.once h

pub grey_rest : (bits : List Bool) (grey : List ℕ) (y : ℕ) → AreGrey bits (y ∷ grey) → AreGrey bits grey
grey_rest bits grey y g = record { marked = λ z h. g.marked z (in_rest z y grey h); once = rest_once y grey g.once }
