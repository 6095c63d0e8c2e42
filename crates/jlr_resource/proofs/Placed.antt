-- What places hold, by their numbers.
use Rattle.std.proofs.Common.{◌≡◌, ◌≢◌, ℕ, zero, suc, ◌+◌, ◌<◌, List, [], ◌∷◌, ◌++◌, length, get_or, set, cond, refl, sym, ◌∙◌, ap, subst}
use Rattle.std.proofs.Common.{arith, ◌==◌, Option, Some, None, find, is_some, count_by, append_assoc}
use Rattle.std.specs.Option.{option_to_list, option_map}
use Rattle.std.specs.List.Sorted.{IsPermutation}
use Rattle.std.proofs.lemmas.Bool.{cond-true, cond-false, ne_eqb, eq-eqb, lt-ltb, le-ltb}
use Rattle.std.proofs.lemmas.List.Sums.{sum_by-cons}
use Rattle.std.proofs.lemmas.List.Sorted.{IsPermutation-trans, IsPermutation-append_left, IsPermutation-append_right}
use Rattle.std.proofs.lemmas.List.Sorted.{IsPermutation-append_comm}
use Rattle.jlr_resource.specs.declared.place.Kept.{Kept}
use Rattle.jlr_resource.specs.declared.place.Place.{Place}
use Rattle.jlr_resource.specs.Resources.{HeldResource, value_of, values_in, with_held, with_kept, without_held}
use Rattle.jlr_resource.specs.Places.{held_from}
use Rattle.jlr_resource.proofs.Listed.{values-cons}

-- the first two of three lists change places
swapped : {X : Type 0} (xs ys zs : List X) → IsPermutation (xs ++ (ys ++ zs)) (ys ++ (xs ++ zs))
swapped {X} xs ys zs =
    let p : IsPermutation ((xs ++ ys) ++ zs) ((ys ++ xs) ++ zs) =
    IsPermutation-append_left zs (xs ++ ys) (ys ++ xs) (IsPermutation-append_comm xs ys) in
    let P : List X → List X → Type 0 = λ a b. IsPermutation a b in
    subst (λ a. P a (ys ++ (xs ++ zs))) (append_assoc xs ys zs) (subst (λ b. P ((xs ++ ys) ++ zs) b) (append_assoc ys xs zs) p)

module _ {R : Type 0} where
  abbrev pub as_held : ℕ → Place R → HeldResource R
  as_held rid p = record { rid = rid; action = p.action; kept = p.kept }

  -- ---- Below the first number there is nothing

  found_below : (first : ℕ) (places : List (Option (Place R))) (rid : ℕ) → rid < first
      → ◌≡◌ {A = Option (HeldResource R)} (find (λ h. h.rid == rid) (held_from first places)) None
  found_below first [] rid below = refl
  found_below first (None ∷ places) rid below = found_below (first + 1) places rid (omega arith)
  found_below first (Some p ∷ places) rid below =
      cond-false (first == rid) _ _ (ne_eqb first rid (omega arith)) ∙ found_below (first + 1) places rid (omega arith)

  kept_below : (first : ℕ) (places : List (Option (Place R))) (rid : ℕ) (kept : Kept R) → rid < first
      → with_kept (held_from first places) rid kept ≡ held_from first places
  kept_below first [] rid kept below = refl
  kept_below first (None ∷ places) rid kept below = kept_below (first + 1) places rid kept (omega arith)
  kept_below first (Some p ∷ places) rid kept below =
      rw (ne_eqb first rid (omega arith), kept_below (first + 1) places rid kept (omega arith)) refl

  without_below : (first : ℕ) (places : List (Option (Place R))) (rid : ℕ) → rid < first
      → without_held (held_from first places) rid ≡ held_from first places
  without_below first [] rid below = refl
  without_below first (None ∷ places) rid below = without_below (first + 1) places rid (omega arith)
  without_below first (Some p ∷ places) rid below =
      rw (ne_eqb first rid (omega arith), without_below (first + 1) places rid (omega arith)) refl

  put_below : (first : ℕ) (places : List (Option (Place R))) (new : HeldResource R) → new.rid < first
      → with_held (held_from first places) new ≡ new ∷ held_from first places
  put_below first [] new below = refl
  put_below first (None ∷ places) new below = put_below (first + 1) places new (omega arith)
  put_below first (Some p ∷ places) new below = rw (lt-ltb new.rid first below) refl

  -- ---- One place

  pub found_from : (first at : ℕ) (places : List (Option (Place R))) (rid : ℕ)
      → rid ≡ first + at → find (λ h. h.rid == rid) (held_from first places) ≡ option_map (as_held rid) (get_or places at None)
  found_from first at [] rid e = refl
  found_from first zero (None ∷ places) rid e = found_below (first + 1) places rid (omega arith)
  found_from first (suc at) (None ∷ places) rid e = found_from (first + 1) at places rid (omega arith)
  found_from first zero (Some p ∷ places) rid e =
      let same : first ≡ rid = omega arith in
      cond-true (first == rid) _ _ (eq-eqb first rid same) ∙ ap (λ n. Some (as_held n p)) same
  found_from first (suc at) (Some p ∷ places) rid e =
      cond-false (first == rid) _ _ (ne_eqb first rid (omega arith)) ∙ found_from (first + 1) at places rid (omega arith)

  pub changed_from : (first at : ℕ) (places : List (Option (Place R))) (rid : ℕ) (p : Place R) (kept : Kept R)
      → rid ≡ first + at → get_or places at None ≡ Some p
      → held_from first (set places at (Some (record p { kept = kept }))) ≡ with_kept (held_from first places) rid kept
  changed_from first at [] rid p kept e read = absurd (cc)
  changed_from first zero (None ∷ places) rid p kept e read = absurd (cc)
  changed_from first (suc at) (None ∷ places) rid p kept e read = changed_from (first + 1) at places rid p kept (omega arith) read
  changed_from first zero (Some q ∷ places) rid p kept e read =
      let same : q ≡ p = cc in
      rw (eq-eqb first rid (omega arith), kept_below (first + 1) places rid kept (omega arith), same) refl
  changed_from first (suc at) (Some q ∷ places) rid p kept e read =
      rw (ne_eqb first rid (omega arith), changed_from (first + 1) at places rid p kept (omega arith) read) refl

  pub removed_from : (first at : ℕ) (places : List (Option (Place R))) (rid : ℕ)
      → rid ≡ first + at → held_from first (set places at None) ≡ without_held (held_from first places) rid
  removed_from first at [] rid e = refl
  removed_from first zero (None ∷ places) rid e = sym (without_below (first + 1) places rid (omega arith))
  removed_from first (suc at) (None ∷ places) rid e = removed_from (first + 1) at places rid (omega arith)
  removed_from first zero (Some q ∷ places) rid e =
      rw (eq-eqb first rid (omega arith), without_below (first + 1) places rid (omega arith)) refl
  removed_from first (suc at) (Some q ∷ places) rid e =
      rw (ne_eqb first rid (omega arith), removed_from (first + 1) at places rid (omega arith)) refl

  -- ---- A new place

  pub same_from : (first : ℕ) (olds news : List (Option (Place R))) → ((j : ℕ) → get_or news j None ≡ get_or olds j None)
      → held_from first news ≡ held_from first olds
  same_from first [] [] same = refl
  same_from first [] (None ∷ news) same = same_from (first + 1) [] news (λ j. same (suc j))
  same_from first [] (Some p ∷ news) same = absurd (let e = same 0 in cc)
  same_from first (None ∷ olds) [] same = same_from (first + 1) olds [] (λ j. same (suc j))
  same_from first (None ∷ olds) (None ∷ news) same = same_from (first + 1) olds news (λ j. same (suc j))
  same_from first (None ∷ olds) (Some p ∷ news) same = absurd (let e = same 0 in cc)
  same_from first (Some q ∷ olds) [] same = absurd (let e = same 0 in cc)
  same_from first (Some q ∷ olds) (None ∷ news) same = absurd (let e = same 0 in cc)
  same_from first (Some q ∷ olds) (Some p ∷ news) same =
      let head : p ≡ q = (let e = same 0 in cc) in
      rw (head, same_from (first + 1) olds news (λ j. same (suc j))) refl

  -- the places but one are as they were
  abbrev pub SameBut : ℕ → List (Option (Place R)) → List (Option (Place R)) → Type 0
  SameBut at olds news = (j : ℕ) → j ≢ at → get_or news j None ≡ get_or olds j None

  tails : (at : ℕ) (x y : Option (Place R)) (olds news : List (Option (Place R))) → SameBut (suc at) (x ∷ olds) (y ∷ news)
      → SameBut at olds news
  tails at x y olds news same j apart = same (suc j) (λ e. apart (omega arith))

  pub inserted_from : (first at : ℕ) (olds news : List (Option (Place R))) (rid : ℕ) (p : Place R)
      → rid ≡ first + at → get_or olds at None ≡ None → get_or news at None ≡ Some p → SameBut at olds news
      → held_from first news ≡ with_held (held_from first olds) (as_held rid p)
  inserted_from first at olds [] rid p e none here same = absurd (cc)
  inserted_from first zero [] (x ∷ news) rid p e none here same =
      let first_is : first ≡ rid = omega arith in
      let rest = same_from (first + 1) [] news (λ j. same (suc j) (omega arith)) in
      rw (here, rest, first_is) refl
  inserted_from first (suc at) [] (None ∷ news) rid p e none here same =
      let later : SameBut at [] news = λ j apart. same (suc j) (λ e. apart (omega arith)) in
      inserted_from (first + 1) at [] news rid p (omega arith) refl here later
  inserted_from first (suc at) [] (Some q ∷ news) rid p e none here same = absurd (let h = same 0 (omega arith) in cc)
  inserted_from first zero (None ∷ olds) (x ∷ news) rid p e none here same =
      let first_is : first ≡ rid = omega arith in
      let rest = same_from (first + 1) olds news (λ j. same (suc j) (omega arith)) in
      rw (here, rest, put_below (first + 1) olds (as_held rid p) (omega arith), first_is) refl
  inserted_from first zero (Some q ∷ olds) (x ∷ news) rid p e none here same = absurd (cc)
  inserted_from first (suc at) (None ∷ olds) (None ∷ news) rid p e none here same =
      inserted_from (first + 1) at olds news rid p (omega arith) none here (tails at None None olds news same)
  inserted_from first (suc at) (None ∷ olds) (Some q ∷ news) rid p e none here same = absurd (let h = same 0 (omega arith) in cc)
  inserted_from first (suc at) (Some r ∷ olds) (None ∷ news) rid p e none here same = absurd (let h = same 0 (omega arith) in cc)
  inserted_from first (suc at) (Some r ∷ olds) (Some q ∷ news) rid p e none here same =
      let head : q ≡ r = (let h = same 0 (omega arith) in cc) in
      rw (
        head,
        le-ltb rid first (omega arith),
        inserted_from (first + 1) at olds news rid p (omega arith) none here
            (tails at (Some r) (Some q) olds news same),
      ) refl

  -- ---- Values

  pub values_changed : (first at : ℕ) (places : List (Option (Place R))) (p : Place R) (kept : Kept R) → get_or places at None ≡ Some p
      → IsPermutation (option_to_list (value_of kept) ++ values_in (held_from first places))
      (option_to_list (value_of p.kept) ++ values_in (held_from first (set places at (Some (record p { kept = kept })))))
  values_changed first at [] p kept read = absurd (cc)
  values_changed first zero (None ∷ places) p kept read = absurd (cc)
  values_changed first (suc at) (None ∷ places) p kept read = values_changed (first + 1) at places p kept read
  values_changed first zero (Some q ∷ places) p kept read =
      let same : q ≡ p = cc in
      rw (
        same,
        values-cons (as_held first p) (held_from (first + 1) places),
        values-cons (record { rid = first; action = p.action; kept = kept }) (held_from (first + 1) places),
      )
      (swapped (option_to_list (value_of kept)) (option_to_list (value_of p.kept)) (values_in (held_from (first + 1) places)))
  values_changed first (suc at) (Some q ∷ places) p kept read =
      let a = option_to_list (value_of kept) in
      let b = option_to_list (value_of p.kept) in
      let o = option_to_list (value_of q.kept) in
      let later = set places at (Some (record p { kept = kept })) in
      rw (values-cons (as_held first q) (held_from (first + 1) places), values-cons (as_held first q) (held_from (first + 1) later))
      (IsPermutation-trans _ _ _ (swapped a o (values_in (held_from (first + 1) places)))
      (IsPermutation-trans _ _ _ (IsPermutation-append_right o _ _ (values_changed (first + 1) at places p kept read))
      (swapped o b (values_in (held_from (first + 1) later)))))

  pub values_gone : (first at : ℕ) (places : List (Option (Place R))) (p : Place R) → get_or places at None ≡ Some p
      → value_of p.kept ≡ None → values_in (held_from first (set places at None)) ≡ values_in (held_from first places)
  values_gone first at [] p read none = absurd (cc)
  values_gone first zero (None ∷ places) p read none = absurd (cc)
  values_gone first (suc at) (None ∷ places) p read none = values_gone (first + 1) at places p read none
  values_gone first zero (Some q ∷ places) p read none =
      let same : q ≡ p = cc in
      rw (same, values-cons (as_held first p) (held_from (first + 1) places), none) refl
  values_gone first (suc at) (Some q ∷ places) p read none =
      let later = set places at None in
      rw (
        values-cons (as_held first q) (held_from (first + 1) places),
        values-cons (as_held first q) (held_from (first + 1) later),
        values_gone (first + 1) at places p read none,
      ) refl

  -- there is one for each place that holds something
  pub count_from : (first : ℕ) (places : List (Option (Place R))) → length (held_from first places) ≡ count_by is_some places
  count_from first [] = refl
  count_from first (None ∷ places) = omega (arith, count_from (first + 1) places, sum_by-cons (λ o. cond (is_some o) 1 0) None places)
  count_from first (Some p ∷ places) = omega (arith, count_from (first + 1) places, sum_by-cons (λ o. cond (is_some o) 1 0) (Some p) places)
