-- The members of a set of slots, and what one more makes of its list.
use Rattle.std.proofs.Common.{◌≡◌, ℕ, zero, suc, ◌+◌, ◌<◌, Bool, true, false, List, [], ◌∷◌, ◌++◌, length, replicate, set, refl, sym, ◌∙◌}
use Rattle.std.proofs.Common.{◌||◌, ap, subst, ◌⊎◌, inl, inr, arith, nat_eq, length-set, get_or-set_same, get_or-set_other}
use Rattle.std.proofs.lemmas.Bool.{cases_eq, cases_lt, cases_Bool, false≢true, eqb-true, eq-eqb, or_cases, or_left, or_right, both_ways}
use Rattle.std.proofs.lemmas.List.{length-replicate, get_or-replicate, get_or_past}
use Rattle.std.proofs.lemmas.List.Folds.{list_any-append}
use Rattle.jlr_machine.specs.Objects.{◌∈◌, ◌∋◌}
use Rattle.jlr_sets.specs.SlotSets.{is_in, slots_of, slots_below, NoneFrom}
use Rattle.jlr_sets.proofs.Below.{within_places, slots_below-zero, slots_below_same, slots_below_set, slots_below_clear, slots_below_agree}

in_front_part : (xs ys : List ℕ) (s : ℕ) → s ∈ xs → s ∈ (xs ++ ys)
in_front_part xs ys s h = list_any-append (nat_eq s) xs ys ∙ or_left (xs ∋ s) (ys ∋ s) h

in_last : (xs : List ℕ) (s : ℕ) → s ∈ (xs ++ s ∷ [])
in_last xs s = list_any-append (nat_eq s) xs (s ∷ []) ∙ or_right (xs ∋ s) ((s ∷ []) ∋ s) (or_left (nat_eq s s) ([] ∋ s) (eq-eqb s s refl))

in_longer : (xs : List ℕ) (x s : ℕ) → s ∈ (xs ++ x ∷ []) → (s ∈ xs) ⊎ (s ≡ x)
in_longer xs x s h = elim (or_cases (xs ∋ s) ((x ∷ []) ∋ s) (sym (list_any-append (nat_eq s) xs (x ∷ [])) ∙ h)) [
  | inl before ↦ inl before
  | inr last ↦ elim (or_cases (nat_eq s x) ([] ∋ s) last) [
    | inl same ↦ inr (eqb-true s x same)
    | inr none ↦
        absurd (both_ways false refl none)
  ]
]

nothing_in : (slot : ℕ) → slot ∈ [] → ⊥
nothing_in slot h = both_ways false refl h

member_is : (n : ℕ) (places : List Bool) (slot : ℕ) → slot ∈ slots_below n places → (slot < n) × (is_in places slot ≡ true)
member_is zero places slot h = absurd (nothing_in slot (subst (λ l. slot ∈ l) (slots_below-zero places) h))
member_is (suc n) places slot h = elim (cases_Bool (is_in places n)) [
  | inl set ↦
      elim (in_longer (slots_below n places) n slot (subst (λ l. slot ∈ l) (slots_below_set n (suc n) places (omega arith) set) h)) [
        | inl before ↦ (let so = member_is n places slot before in (omega (arith, so.0), so.1))
        | inr same ↦ (omega arith, ap (is_in places) same ∙ set)
      ]
  | inr clear ↦ let so = member_is n places slot (subst (λ l. slot ∈ l) (slots_below_clear n places clear) h) in (omega (arith, so.0), so.1)
]

is_member : (n : ℕ) (places : List Bool) (slot : ℕ) → slot < n → is_in places slot ≡ true → slot ∈ slots_below n places
is_member zero places slot l set = absurd (omega arith)
is_member (suc n) places slot l set = elim (cases_Bool (is_in places n)) [
  | inl last ↦
      subst (λ l. slot ∈ l) (sym (slots_below_set n (suc n) places (omega arith) last))
      (elim (cases_eq slot n) [
        | inl same ↦ subst (λ x. slot ∈ (slots_below n places ++ x ∷ [])) same (in_last (slots_below n places) slot)
        | inr other ↦ in_front_part (slots_below n places) (n ∷ []) slot (is_member n places slot (omega arith) set)
      ])
  | inr clear ↦
      subst (λ l. slot ∈ l) (sym (slots_below_clear n places clear))
      (is_member n places slot (elim (cases_eq slot n) [
        | inl same ↦ absurd (false≢true (sym clear ∙ ap (is_in places) (sym same) ∙ set))
        | inr other ↦ omega arith
      ]) set)
]

-- the list of the slots holds a slot just where its place is set
pub slots_hold : (places : List Bool) (slot : ℕ) → (slots_of places ∋ slot) ≡ is_in places slot
slots_hold places slot = elim (cases_Bool (is_in places slot)) [
  | inl set ↦ is_member (length places) places slot (within_places places slot set) set ∙ sym set
  | inr clear ↦ elim (cases_Bool (slots_of places ∋ slot)) [
    | inl member ↦ absurd (false≢true (sym clear ∙ (member_is (length places) places slot member).1))
    | inr none ↦ none ∙ sym clear
  ]
]

-- a slot with a place that is set is among these slots and others
pub set_is_among : (places : List Bool) (others : List ℕ) (slot : ℕ) (inside : Bool) → inside ≡ is_in places slot → inside ≡ true
    → inside ≡ ((slots_of places ++ others) ∋ slot)
set_is_among places others slot inside is true_here =
    true_here ∙ sym (list_any-append (nat_eq slot) (slots_of places) others
    ∙ or_left (slots_of places ∋ slot) (others ∋ slot) (slots_hold places slot ∙ sym is ∙ true_here))

-- a slot whose place is not set is among them if it is one of the others
pub clear_is_among : (places : List Bool) (others : List ℕ) (slot : ℕ) (inside other : Bool) → inside ≡ is_in places slot → inside ≡ false
    → other ≡ (others ∋ slot) → other ≡ ((slots_of places ++ others) ∋ slot)
clear_is_among places others slot inside other is false_here one =
    one ∙ sym (list_any-append (nat_eq slot) (slots_of places) others
    ∙ ap (λ b. b || (others ∋ slot)) (slots_hold places slot ∙ sym is ∙ false_here))

-- a slot above all others becomes the last
pub inserted_above_is_last : (places : List Bool) (slot : ℕ) → slot < length places → NoneFrom places slot
    → slots_of (set places slot true) ≡ slots_of places ++ slot ∷ []
inserted_above_is_last places slot within none =
    let long : length (set places slot true) ≡ length places = length-set places slot true in
    let here : is_in (set places slot true) slot ≡ true = get_or-set_same places slot true false within in
    slots_below_same (slot + 1) (length (set places slot true)) (set places slot true) (omega (arith, long))
    (λ k a b. get_or-set_other places slot k true false (omega arith) ∙ none k (omega arith))
    ∙ slots_below_set slot (slot + 1) (set places slot true) refl here
    ∙ ap {A = List ℕ} {B = List ℕ} (λ l. l ++ slot ∷ [])
    (slots_below_agree slot (set places slot true) places (λ k h. get_or-set_other places slot k true false (omega arith))
    ∙ sym (slots_below_same slot (length places) places (omega arith) (λ k a b. none k a)))

pub none_after_insert : (places : List Bool) (slot next : ℕ) → next ≡ slot + 1 → NoneFrom places slot → NoneFrom (set places slot true) next
none_after_insert places slot next e none k high = get_or-set_other places slot k true false (omega arith) ∙ none k (omega arith)

-- ---- No place is set

pub none_set : (places : List Bool) → NoneFrom places 0 → slots_of places ≡ []
none_set places none = slots_below_same 0 (length places) places (omega arith) (λ k a b. none k a) ∙ slots_below-zero places

pub none_in_empty : (n from : ℕ) → NoneFrom (replicate n false) from
none_in_empty n from k high = elim (cases_lt k n) [
  | inl low ↦ get_or-replicate n k false false low
  | inr past ↦ get_or_past (replicate n false) k false (omega (arith, length-replicate {A = Bool} n false))
]

pub empty_slots : (n : ℕ) → slots_of (replicate n false) ≡ []
empty_slots n = none_set (replicate n false) (none_in_empty n 0)
