-- A slot is appended to one list, and the others stay.
use Rattle.std.proofs.Common.{◌≡◌, ℕ, zero, suc, ◌+◌, ◌<◌, ◌^◌, ◌⊎◌, inl, inr, not, IsTrue, List, [], ◌∷◌, ◌++◌, length, slice_set, refl}
use Rattle.std.proofs.Common.{sym, subst, ap, ◌∙◌, arith, length-set, get_or-set_same, get_or-set_other}
use Rattle.std.proofs.lemmas.Bool.{both_ways, cases_eq, and_parts, and_from, not-true, not_from_false, false_from_ne_true}
use Rattle.jlr_machine.specs.Objects.{◌∈◌, ◌∋◌, is_distinct}
use Rattle.jlr_laws.proofs.Sets.{nothing, in_front, in_rest, in_cons}
use Rattle.jlr_laws.proofs.Clearing.{in_append}
use Rattle.jlr_links.specs.declared.links.Ends.{Ends}
use Rattle.jlr_links.specs.Lists.{list_at}
use Rattle.jlr_links.specs.Walks.{AreLinked, ends_at, no_ends, link, list_in, lists_in, members, walk, end_of}
use Rattle.jlr_links.proofs.Rooms.{short}
use Rattle.jlr_links.proofs.Walking.{same_walk, longer_walk, new_end, same_end, end_in}

-- ---- Lists of lists

pub same_lists : (xs ys : List (List ℕ)) → length xs ≡ length ys → ((j : ℕ) → list_at xs j ≡ list_at ys j) → xs ≡ ys
same_lists [] [] l h = refl
same_lists [] (y ∷ ys) l h = absurd (omega (arith, l))
same_lists (x ∷ xs) [] l h = absurd (omega (arith, l))
same_lists (x ∷ xs) (y ∷ ys) l h = ap (λ z. z ∷ xs) (h 0) ∙ ap (λ zs. y ∷ zs) (same_lists xs ys (omega (arith, l)) (λ j. h (suc j)))

pub at_mapped : (next : List ℕ) (ends : List Ends) (j : ℕ) → list_at (lists_in next ends) j ≡ members next ends j
at_mapped next [] j = refl
at_mapped next (e ∷ ends) zero = refl
at_mapped next (e ∷ ends) (suc j) = at_mapped next ends j

pub long_mapped : (next : List ℕ) (ends : List Ends) → length (lists_in next ends) ≡ length ends
long_mapped next [] = refl
long_mapped next (e ∷ ends) = ap suc (long_mapped next ends)

distinct_after : (xs : List ℕ) (s : ℕ) → IsTrue (is_distinct xs) → (s ∈ xs → ⊥) → IsTrue (is_distinct (xs ++ s ∷ []))
distinct_after [] s h d = refl
distinct_after (x ∷ xs) s h d =
    let p = and_parts (not (xs ∋ x)) (is_distinct xs) h in
    let apart : x ∈ (xs ++ s ∷ []) → ⊥ = λ i. elim (in_append x xs (s ∷ []) i) [
      | inl j ↦ both_ways (xs ∋ x) (not-true (xs ∋ x) p.0) j
      | inr j ↦ elim (in_cons x s [] j) [ inl e ↦ d (in_front s x xs (sym e)) | inr k ↦ nothing x k ]
    ] in
    and_from (not ((xs ++ s ∷ []) ∋ x)) (is_distinct (xs ++ s ∷ []))
    (not_from_false ((xs ++ s ∷ []) ∋ x) (false_from_ne_true ((xs ++ s ∷ []) ∋ x) apart))
    (distinct_after xs s p.1 (λ i. d (in_rest s x xs i)))

-- ---- What is left, said list by list

module _ (next new : List ℕ) (ends : List Ends) (k s : ℕ) (e : Ends) (linked : AreLinked next ends) (inside : k < length ends)
    (slot : s < length next) (apart : (j : ℕ) → s ∈ members next ends j → ⊥)
    (long : length new ≡ length next)
    (here : list_in new e ≡ members next ends k ++ s ∷ [])
    (ends_here : (n : ℕ) → e.count ≡ suc n → end_of new n e.first ≡ e.last)
    (beside : (j : ℕ) → (j ≡ k → ⊥) → members new ends j ≡ members next ends j)
    (ends_beside : (j n : ℕ) → (j ≡ k → ⊥) → (ends_at ends j).count ≡ suc n
    → end_of new n (ends_at ends j).first ≡ (ends_at ends j).last) where
  abbrev other : List Ends
  other = slice_set ends k e

  ends_k : ends_at other k ≡ e
  ends_k = get_or-set_same ends k e no_ends inside

  ends_j : (j : ℕ) → (j ≡ k → ⊥) → ends_at other j ≡ ends_at ends j
  ends_j j d = get_or-set_other ends k j e no_ends d

  members_k : members new other k ≡ members next ends k ++ s ∷ []
  members_k = ap (list_in new) ends_k ∙ here

  members_j : (j : ℕ) → (j ≡ k → ⊥) → members new other j ≡ members next ends j
  members_j j d = ap (list_in new) (ends_j j d) ∙ beside j d

  -- a member is one that was, or the new one of this list
  was : (j x : ℕ) → x ∈ members new other j → (x ∈ members next ends j) ⊎ ((x ≡ s) × (j ≡ k))
  was j x h = elim (cases_eq j k) [
    | inl p ↦ elim (in_append x (members next ends k) (s ∷ []) (subst (λ l. x ∈ l) members_k (subst (λ z. x ∈ members new other z) p h))) [
      | inl i ↦ inl (subst (λ z. x ∈ members next ends z) (sym p) i)
      | inr i ↦ elim (in_cons x s [] i) [ inl q ↦ inr (q, p) | inr z ↦ nothing x z ]
    ]
    | inr d ↦ inl (subst (λ l. x ∈ l) (members_j j d) h)
  ]

  pub appended_linked : AreLinked new other
  appended_linked = record {
    small = subst (λ n. n < 2 ^ 32) (sym long) linked.small;
    within = λ j x h. subst (λ n. x < n) (sym long) (elim
        (was j x h) [ inl i ↦ linked.within j x i | inr p ↦ subst (λ z. z < length next) (sym p.0) slot ]);
    last = λ j n c. elim (cases_eq j k) [
      | inl p ↦
          let same : ends_at other j ≡ e = ap (ends_at other) p ∙ ends_k in
          subst (λ (z : Ends). end_of new n z.first ≡ z.last) (sym same) (ends_here n (subst (λ (z : Ends). z.count ≡ suc n) same c))
      | inr d ↦
          let same : ends_at other j ≡ ends_at ends j = ends_j j d in
          subst (λ (z : Ends). end_of new n z.first ≡ z.last) (sym same) (ends_beside j n d (subst (λ (z : Ends). z.count ≡ suc n) same c))
    ];
    once = λ j. elim (cases_eq j k) [
      | inl p ↦ subst (λ l. IsTrue (is_distinct l)) (sym (ap (members new other) p ∙ members_k))
          (distinct_after (members next ends k) s (linked.once k) (apart k))
      | inr d ↦ subst (λ l. IsTrue (is_distinct l)) (sym (members_j j d)) (linked.once j)
    ];
    in_one = λ i j x h g. elim (was i x h) [
      | inl a ↦ elim (was j x g) [ inl b ↦ linked.in_one i j x a b | inr b ↦ absurd (apart i (subst (λ z. z ∈ members next ends i) b.0 a)) ]
      | inr a ↦ elim (was j x g) [ inl b ↦ absurd (apart j (subst (λ z. z ∈ members next ends j) a.0 b)) | inr b ↦ a.1 ∙ sym b.1 ]
    ];
  }

  pub appended_lists : lists_in new other ≡ slice_set (lists_in next ends) k (members next ends k ++ s ∷ [])
  appended_lists =
      let now : List (List ℕ) = slice_set (lists_in next ends) k (members next ends k ++ s ∷ []) in
      same_lists (lists_in new other) now
      (long_mapped new other ∙ length-set ends k e ∙ sym
      (length-set (lists_in next ends) k (members next ends k ++ s ∷ []) ∙ long_mapped next ends))
      (λ j. at_mapped new other j ∙ elim (cases_eq j k) [
        | inl p ↦
            ap (members new other) p ∙ members_k
            ∙ sym (ap (list_at now) p ∙ get_or-set_same (lists_in next ends) k (members next ends k ++ s ∷ []) []
            (subst (λ n. k < n) (sym (long_mapped next ends)) inside))
        | inr d ↦ members_j j d ∙ sym (get_or-set_other (lists_in next ends) k j (members next ends k ++ s ∷ []) [] d
            ∙ at_mapped next ends j)
      ])

-- ---- To an empty list, and to one that has members

module _ (next : List ℕ) (ends : List Ends) (k s : ℕ) (linked : AreLinked next ends) (inside : k < length ends) (slot : s < length next)
    (apart : (j : ℕ) → s ∈ members next ends j → ⊥) where
  abbrev first_ends : Ends
  first_ends = record { first = s; last = s; count = 1 }

  empty_members : (ends_at ends k).count ≡ 0 → members next ends k ≡ []
  empty_members c = ap (λ n. walk next n (ends_at ends k).first) c

  only_end : (n : ℕ) → first_ends.count ≡ suc n → end_of next n s ≡ s
  only_end zero c = refl
  only_end (suc n) c = absurd (omega (arith, c))

  pub first_lists : (ends_at ends k).count ≡ 0 → lists_in next (slice_set ends k first_ends) ≡ slice_set (lists_in next ends) k
      (members next ends k ++ s ∷ [])
  first_lists c = appended_lists next next ends k s first_ends linked inside slot apart refl (ap (λ l. l ++ s ∷ []) (sym (empty_members c)))
      only_end (λ j d. refl) (λ j n d q. linked.last j n q)

  module _ (n : ℕ) (c : (ends_at ends k).count ≡ suc n) where
    abbrev old : Ends
    old = ends_at ends k

    abbrev wider : Ends
    wider = record { first = old.first; last = s; count = suc (suc n) }

    abbrev new : List ℕ
    new = slice_set next old.last s

    ends_at_last : end_of next n old.first ≡ old.last
    ends_at_last = linked.last k n c

    walk_is : walk next (suc n) old.first ≡ members next ends k
    walk_is = ap (λ i. walk next i old.first) (sym c)

    last_in : old.last ∈ members next ends k
    last_in = subst (λ l. old.last ∈ l) walk_is (subst (λ x. x ∈ walk next (suc n) old.first) ends_at_last (end_in next n old.first))

    pub last_within : old.last < length next
    last_within = linked.within k old.last last_in

    distinct : IsTrue (is_distinct (walk next (suc n) old.first))
    distinct = subst (λ l. IsTrue (is_distinct l)) (sym walk_is) (linked.once k)

    here : list_in new wider ≡ members next ends k ++ s ∷ []
    here = longer_walk next old.last s n old.first last_within ends_at_last distinct ∙ ap (λ l. l ++ s ∷ []) walk_is

    wider_end : (i : ℕ) → wider.count ≡ suc i → end_of new i wider.first ≡ wider.last
    wider_end i q = let same : i ≡ suc n = omega (arith, q) in ap (λ z. end_of new z old.first) same
        ∙ new_end next old.last s n old.first last_within ends_at_last distinct

    not_beside : (j : ℕ) → (j ≡ k → ⊥) → old.last ∈ members next ends j → ⊥
    not_beside j d h = d (linked.in_one j k old.last h last_in)

    beside : (j : ℕ) → (j ≡ k → ⊥) → members new ends j ≡ members next ends j
    beside j d = same_walk next old.last s (ends_at ends j).count (ends_at ends j).first (not_beside j d)

    ends_beside : (j i : ℕ) → (j ≡ k → ⊥) → (ends_at ends j).count ≡ suc i → end_of new i (ends_at ends j).first ≡ (ends_at ends j).last
    ends_beside j i d q =
        same_end next old.last s i (ends_at ends j).first
        (λ h. not_beside j d (subst (λ z. old.last ∈ walk next z (ends_at ends j).first) (sym q) h))
        ∙ linked.last j i q

    pub longer_linked : AreLinked new (slice_set ends k wider)
    longer_linked =
        appended_linked next new ends k s wider linked inside slot apart (length-set next old.last s) here wider_end beside ends_beside

    pub longer_lists : lists_in new (slice_set ends k wider) ≡ slice_set (lists_in next ends) k (members next ends k ++ s ∷ [])
    longer_lists =
        appended_lists next new ends k s wider linked inside slot apart (length-set next old.last s) here wider_end beside ends_beside

pub long_walk : (next : List ℕ) (n s : ℕ) → length (walk next n s) ≡ n
long_walk next zero s = refl
long_walk next (suc n) s = ap suc (long_walk next n (link next s))

pub positive : (m : ℕ) → (m ≡ 0 → ⊥) → (n : ℕ) × (m ≡ suc n)
positive zero h = absurd (h refl)
positive (suc n) h = (n, refl)

-- ---- As the code says it

module _ (next : List ℕ) (ends : List Ends) (k s : ℕ) (linked : AreLinked next ends) (inside : k < length ends) (slot : s < length next)
    (apart : (j : ℕ) → s ∈ members next ends j → ⊥) (some : (ends_at ends k).count ≡ 0 → ⊥) where
  abbrev more : Ends
  more = record { first = (ends_at ends k).first; last = s; count = (ends_at ends k).count + 1 }

  by_count : (ends_at ends k).count ≡ suc (positive (ends_at ends k).count some).0
  by_count = (positive (ends_at ends k).count some).1

  same_ends : record { first = (ends_at ends k).first; last = s; count = suc (suc (positive (ends_at ends k).count some).0) } ≡ more
  same_ends = let wide : ℕ → Ends = λ n. record { first = (ends_at ends k).first; last = s; count = n } in ap wide (omega (arith, by_count))

  pub last_below : (ends_at ends k).last < length next
  last_below = last_within next ends k s linked inside slot apart (positive (ends_at ends k).count some).0 by_count

  pub more_linked : AreLinked (slice_set next (ends_at ends k).last s) (slice_set ends k more)
  more_linked = subst (λ z. AreLinked (slice_set next (ends_at ends k).last s) (slice_set ends k z)) same_ends
      (longer_linked next ends k s linked inside slot apart (positive (ends_at ends k).count some).0 by_count)

  pub more_lists : lists_in (slice_set next (ends_at ends k).last s) (slice_set ends k more)
      ≡ slice_set (lists_in next ends) k (members next ends k ++ s ∷ [])
  more_lists = subst (λ z. lists_in (slice_set next (ends_at ends k).last s) (slice_set ends k z)
      ≡ slice_set (lists_in next ends) k (members next ends k ++ s ∷ [])) same_ends
      (longer_lists next ends k s linked inside slot apart (positive (ends_at ends k).count some).0 by_count)

-- a slot that stands in no list has room in each
pub count_fits : (next : List ℕ) (ends : List Ends) (k s : ℕ) → AreLinked next ends → s < length next → (s ∈ members next ends k → ⊥)
    → (ends_at ends k).count + 1 < 2 ^ 32
count_fits next ends k s linked slot apart =
    let all : List ℕ = s ∷ members next ends k in
    let once : IsTrue (is_distinct all) = and_from (not (members next ends k ∋ s)) (is_distinct (members next ends k))
    (not_from_false (members next ends k ∋ s) (false_from_ne_true (members next ends k ∋ s) apart)) (linked.once k) in
    let few = short all (length next) once (λ x h. elim (in_cons x s (members next ends k) h) [
      | inl e ↦
          subst (λ z. z < length next) (sym e) slot
      | inr i ↦ linked.within k x i
    ]) in
    omega (arith, linked.small, few, long_walk next (ends_at ends k).count (ends_at ends k).first)

pub kept_apart : (next old : List ℕ) (ends older : List Ends) (s t : ℕ) → next ≡ old → ends ≡ older → t ≡ s
    → ((k : ℕ) → s ∈ list_at (lists_in old older) k → ⊥) → (k : ℕ) → t ∈ members next ends k → ⊥
kept_apart next old ends older s t en ee es apart k h =
    apart k (subst (λ l. s ∈ l) (ap (λ x. members x ends k) en ∙ ap (λ x. members old x k) ee ∙ sym (at_mapped old older k))
    (subst (λ z. z ∈ members next ends k) es h))
