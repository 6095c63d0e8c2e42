-- Slots leave one list, and the others stay.
use Rattle.std.proofs.Common.{◌≡◌, ℕ, zero, suc, ◌-◌, ◌<◌, inl, inr, not, IsTrue, List, [], ◌∷◌, ◌++◌, drop, take, length}
use Rattle.std.proofs.Common.{slice_index_or, slice_set, replicate, refl, sym, subst, ap, ◌∙◌, arith, length-set, get_or-set_same}
use Rattle.std.proofs.Common.{get_or-set_other}
use Rattle.std.proofs.lemmas.List.{get_or_read}
use Rattle.std.proofs.lemmas.Bool.{cases_eq, and_parts}
use Rattle.jlr_machine.specs.Objects.{◌∈◌, ◌∋◌, is_distinct}
use Rattle.jlr_laws.proofs.Sets.{nothing, in_front, in_rest}
use Rattle.jlr_links.specs.declared.links.Ends.{Ends}
use Rattle.jlr_links.specs.Lists.{list_at}
use Rattle.jlr_links.specs.Walks.{AreLinked, ends_at, no_ends, link, list_in, lists_in, members, walk, end_of}
use Rattle.jlr_links.proofs.Appending.{at_mapped, long_mapped, same_lists, positive}

-- ---- What is left, said list by list: in list k stand slots that stood there

module _ (next : List ℕ) (ends : List Ends) (k : ℕ) (e : Ends) (linked : AreLinked next ends) (inside : k < length ends)
    (fewer : (x : ℕ) → x ∈ list_in next e → x ∈ members next ends k)
    (once : IsTrue (is_distinct (list_in next e)))
    (ends_here : (n : ℕ) → e.count ≡ suc n → end_of next n e.first ≡ e.last) where
  abbrev other : List Ends
  other = slice_set ends k e

  ends_k : ends_at other k ≡ e
  ends_k = get_or-set_same ends k e no_ends inside

  ends_j : (j : ℕ) → (j ≡ k → ⊥) → ends_at other j ≡ ends_at ends j
  ends_j j d = get_or-set_other ends k j e no_ends d

  was : (j x : ℕ) → x ∈ members next other j → x ∈ members next ends j
  was j x h = elim (cases_eq j k) [
    | inl p ↦
        let here : members next other j ≡ list_in next e = ap (members next other) p ∙ ap (list_in next) ends_k in
        subst (λ z. x ∈ members next ends z) (sym p) (fewer x (subst (λ l. x ∈ l) here h))
    | inr d ↦ subst (λ l. x ∈ l) (ap (list_in next) (ends_j j d)) h
  ]

  pub left_linked : AreLinked next other
  left_linked = record {
    small = linked.small;
    within = λ j x h. linked.within j x (was j x h);
    last = λ j n c. elim (cases_eq j k) [
      | inl p ↦
          let same : ends_at other j ≡ e = ap (ends_at other) p ∙ ends_k in
          subst (λ (z : Ends). end_of next n z.first ≡ z.last) (sym same) (ends_here n (subst (λ (z : Ends). z.count ≡ suc n) same c))
      | inr d ↦
          let same : ends_at other j ≡ ends_at ends j = ends_j j d in
          subst (λ (z : Ends). end_of next n z.first ≡ z.last) (sym same) (linked.last j n (subst (λ (z : Ends). z.count ≡ suc n) same c))
    ];
    once = λ j. elim (cases_eq j k) [
      | inl p ↦ subst (λ l. IsTrue (is_distinct l)) (sym (ap (members next other) p ∙ ap (list_in next) ends_k)) once
      | inr d ↦ subst (λ l. IsTrue (is_distinct l)) (sym (ap (list_in next) (ends_j j d))) (linked.once j)
    ];
    in_one = λ i j x h g. linked.in_one i j x (was i x h) (was j x g);
  }

  pub left_lists : lists_in next other ≡ slice_set (lists_in next ends) k (list_in next e)
  left_lists =
      let now : List (List ℕ) = slice_set (lists_in next ends) k (list_in next e) in
      same_lists (lists_in next other) now
      (long_mapped next other ∙ length-set ends k e ∙ sym (length-set (lists_in next ends) k (list_in next e) ∙ long_mapped next ends))
      (λ j. at_mapped next other j ∙ elim (cases_eq j k) [
        | inl p ↦
            ap (members next other) p ∙ ap (list_in next) ends_k
            ∙ sym (ap (list_at now) p ∙ get_or-set_same (lists_in next ends) k (list_in next e) []
            (subst (λ n. k < n) (sym (long_mapped next ends)) inside))
        | inr d ↦ ap (list_in next) (ends_j j d) ∙ sym (get_or-set_other (lists_in next ends) k j (list_in next e) [] d
            ∙ at_mapped next ends j)
      ])

-- ---- All slots

module _ (next : List ℕ) (ends : List Ends) (k : ℕ) (linked : AreLinked next ends) (inside : k < length ends) where
  pub cleared_lists : lists_in next (slice_set ends k no_ends) ≡ slice_set (lists_in next ends) k []
  cleared_lists = left_lists next ends k no_ends linked inside (λ x h. nothing x h) refl (λ n c. absurd (omega (arith, c)))

  -- ---- The first

  module _ (n : ℕ) (c : (ends_at ends k).count ≡ suc n) where
    abbrev old : Ends
    old = ends_at ends k

    abbrev later : Ends
    later = record { first = link next old.first; last = old.last; count = n }

    whole : members next ends k ≡ old.first ∷ list_in next later
    whole = ap (λ i. walk next i old.first) c

    pub first_within : old.first < length next
    first_within =
        linked.within k old.first (subst (λ l. old.first ∈ l) (sym whole) (in_front old.first old.first (list_in next later) refl))

    distinct : IsTrue (is_distinct (list_in next later))
    distinct = (and_parts (not (list_in next later ∋ old.first)) (is_distinct (list_in next later))
        (subst (λ l. IsTrue (is_distinct l)) whole (linked.once k))).1

    fewer : (x : ℕ) → x ∈ list_in next later → x ∈ members next ends k
    fewer x h = subst (λ l. x ∈ l) (sym whole) (in_rest x old.first (list_in next later) h)

    end_later : (i : ℕ) → n ≡ suc i → end_of next i (link next old.first) ≡ old.last
    end_later i e = linked.last k (suc i) (c ∙ ap suc e)

    pub dropped_linked : AreLinked next (slice_set ends k later)
    dropped_linked = left_linked next ends k later linked inside fewer distinct end_later

    pub dropped_lists : lists_in next (slice_set ends k later) ≡ slice_set (lists_in next ends) k (drop 1 (members next ends k))
    dropped_lists = left_lists next ends k later linked inside fewer distinct end_later
        ∙ ap (λ l. slice_set (lists_in next ends) k (drop 1 l)) (sym whole)

-- ---- As the code says it

module _ (next : List ℕ) (ends : List Ends) (k : ℕ) (linked : AreLinked next ends) (inside : k < length ends)
    (some : (ends_at ends k).count ≡ 0 → ⊥) where
  abbrev rest : Ends
  rest = record { first = link next (ends_at ends k).first; last = (ends_at ends k).last; count = (ends_at ends k).count - 1 }

  by_count : (ends_at ends k).count ≡ suc (positive (ends_at ends k).count some).0
  by_count = (positive (ends_at ends k).count some).1

  same_rest : later next ends k linked inside (positive (ends_at ends k).count some).0 by_count ≡ rest
  same_rest = let wide : ℕ → Ends = λ n. record { first = link next (ends_at ends k).first; last = (ends_at ends k).last; count = n } in
      ap wide (omega (arith, by_count))

  pub first_below : (ends_at ends k).first < length next
  first_below = first_within next ends k linked inside (positive (ends_at ends k).count some).0 by_count

  pub rest_linked : AreLinked next (slice_set ends k rest)
  rest_linked = subst (λ z. AreLinked next (slice_set ends k z)) same_rest
      (dropped_linked next ends k linked inside (positive (ends_at ends k).count some).0 by_count)

  pub rest_lists : lists_in next (slice_set ends k rest) ≡ slice_set (lists_in next ends) k (drop 1 (members next ends k))
  rest_lists = subst (λ z. lists_in next (slice_set ends k z) ≡ slice_set (lists_in next ends) k (drop 1 (members next ends k))) same_rest
      (dropped_lists next ends k linked inside (positive (ends_at ends k).count some).0 by_count)

-- what was read behind the first is its link
pub read_first :
    (next : List ℕ) (ends : List Ends) (k x : ℕ) → AreLinked next ends → k < length ends → ((ends_at ends k).count ≡ 0 → ⊥)
    → x ≡ slice_index_or next (ends_at ends k).first x → x ≡ link next (ends_at ends k).first
read_first next ends k x linked inside some read =
    get_or_read next (ends_at ends k).first x (first_below next ends k linked inside some) read 0

-- ---- No slots yet

no_ends_at : (n k : ℕ) → ends_at (replicate n no_ends) k ≡ no_ends
no_ends_at zero k = refl
no_ends_at (suc n) zero = refl
no_ends_at (suc n) (suc k) = no_ends_at n k

pub empty_lists : (next : List ℕ) (n : ℕ) → lists_in next (replicate n no_ends) ≡ replicate n []
empty_lists next zero = refl
empty_lists next (suc n) = ap (λ l. [] ∷ l) (empty_lists next n)

take_nothing : (n : ℕ) (rest : List Ends) → take n [] ++ rest ≡ rest
take_nothing zero rest = refl
take_nothing (suc n) rest = refl

pub made_empty : (next : List ℕ) (ends none : List Ends) (n len : ℕ) → ends ≡ take n none ++ replicate (n - len) no_ends → none ≡ []
    → len ≡ 0 → lists_in next ends ≡ replicate n []
made_empty next ends none n len made empty zero_long =
    ap (lists_in next) (made ∙ ap (λ l. take n l ++ replicate (n - len) no_ends) empty ∙ take_nothing n (replicate (n - len) no_ends)
    ∙ ap (λ i. replicate i no_ends) (omega (arith, zero_long))) ∙ empty_lists next n
