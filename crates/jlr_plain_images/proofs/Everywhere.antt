-- Lemmas on tests at each place of a table, and at each number below another.
use Rattle.std.proofs.Common.{◌≡◌, ℕ, zero, suc, ◌+◌, ◌<◌, ◌≤◌, Bool, true, false, not, ◌&&◌, ◌||◌, Decides, List, [], ◌∷◌, length, refl}
use Rattle.std.proofs.Common.{sym, ◌∙◌, ap, subst, inl, inr, arith, Option, Some, None, nat_eq, nat_le, nat_lt, is_none, map, filter_map}
use Rattle.std.specs.List.{list_all, list_any, range_with_len, cons_option, AllByRecursion}
use Rattle.std.proofs.lemmas.List.Folds.{list_all-map}
use Rattle.std.proofs.lemmas.Bool.{both_ways, and_parts, and_from, or_cases, or_left, or_right, eqb-true, eq-eqb, leb-true, le-leb}
use Rattle.std.proofs.lemmas.Bool.{ltb-true, lt-ltb, cases_eq, not-true, not_from_false, false_from_ne_true}
use Rattle.jlr_types.specs.declared.FieldValue.{FieldValue}
use Rattle.jlr_machine.specs.declared.object.Contents.{Contents}
use Rattle.jlr_machine.specs.declared.object.Contents.TheVariants.{Typed, Elements}
use Rattle.jlr_machine.specs.declared.object.Object.{Object}
use Rattle.jlr_machine.specs.declared.object.Object.TheVariants.{Plain, Reference, Queue, Cleaner, Cleanable, Guard}
use Rattle.jlr_machine.specs.declared.object.Reference.{Reference as ReferenceOf}
use Rattle.jlr_machine.specs.declared.object.Cleanable.{Cleanable as CleanableOf}
use Rattle.jlr_machine.specs.declared.object.Guard.{Guard as GuardOf}
use Rattle.jlr_machine.specs.declared.machine.Binding.{Binding}
use Rattle.jlr_machine.specs.Objects.{Table, Heap, at, some_and, ◌∈◌, is_above, is_rising}
use Rattle.jlr_machine.specs.Edges.{slot_in, slots_in}
use Rattle.jlr_laws.proofs.Sets.{in_front, in_rest, all_gives}
use Rattle.jlr_laws.proofs.Frames.{no_some, some_same, place_within}
use Rattle.jlr_laws.proofs.Keyed.{by_key, key_found, all_found}
use Rattle.jlr_plain_images.specs.Places.{none_or, each_slot, each_number, rising_by, is_only_key, keys_are_apart, on_plain, on_reference}
use Rattle.jlr_plain_images.specs.Places.{on_queue, on_cleanable, on_guard}

-- ---- Bools

pub implied : (a c : Bool) → (not a || c) ≡ true → a ≡ true → c ≡ true
implied true c h p = h
implied false c h p = absurd (both_ways false refl p)

pub implies : (a c : Bool) → (a ≡ true → c ≡ true) → (not a || c) ≡ true
implies true c h = h refl
implies false c h = refl

-- both tests
pub also : {P Q : Type 0} {x y : Bool} → Decides x P → Decides y Q → Decides (x && y) (P × Q)
also {P} {Q} {x} {y} p q = (
  (λ h. let r = and_parts x y h in (p.0 r.0, q.0 r.1)),
  (λ r. and_from x y (p.1 r.0) (q.1 r.1)),
)

pub turned : {P Q : Type 0} {x : Bool} → Decides x P → (P → Q) → (Q → P) → Decides x Q
turned d f g = ((λ h. f (d.0 h)), (λ q. d.1 (g q)))

pub Decides-none : {A : Type 0} (o : Option A) → Decides (is_none o) (o ≡ None)
Decides-none None = ((λ h. refl), (λ e. refl))
Decides-none (Some x) = ((λ h. absurd (both_ways false refl h)), (λ e. no_some x (sym e)))

pub Decides-equal : (a b : ℕ) → Decides (nat_eq a b) (a ≡ b)
Decides-equal a b = (eqb-true a b, eq-eqb a b)

pub Decides-most : (a b : ℕ) → Decides (nat_le a b) (a ≤ b)
Decides-most a b = (leb-true a b, le-leb a b)

pub Decides-less : (a b : ℕ) → Decides (nat_lt a b) (a < b)
Decides-less a b = (ltb-true a b, lt-ltb a b)

-- ---- Lists

pub all_from : (q : ℕ → Bool) (xs : List ℕ) → ((s : ℕ) → s ∈ xs → q s ≡ true) → list_all q xs ≡ true
all_from q [] h = refl
all_from q (x ∷ xs) h = and_from (q x) (list_all q xs) (h x (in_front x x xs refl)) (all_from q xs (λ s m. h s (in_rest s x xs m)))

pub Decides-all : (q : ℕ → Bool) (P : ℕ → Type 0) (xs : List ℕ) → ((s : ℕ) → Decides (q s) (P s))
    → Decides (list_all q xs) ((s : ℕ) → s ∈ xs → P s)
Decides-all q P xs each = (
  (λ h s m. (each s).0 (all_gives q xs s h m)),
  (λ h. all_from q xs (λ s m. (each s).1 (h s m))),
)

pub Decides-true : (b : Bool) → Decides b (b ≡ true)
Decides-true b = ((λ h. h), (λ h. h))

pub Decides-any : {A : Type 0} (test : A → Bool) (P : A → Type 0) (o : Option A) → ((x : A) → Decides (test x) (P x))
    → Decides (none_or test o) ((x : A) → o ≡ Some x → P x)
Decides-any test P None each = ((λ h x e. no_some x e), (λ h. refl))
Decides-any test P (Some y) each = ((λ h x e. subst P (some_same y x e) ((each y).0 h)), (λ h. (each y).1 (h y refl)))

each_named : (test : ℕ → Bool) (o : Option ℕ) (xs : List ℕ) → list_all test (cons_option o xs) ≡ (none_or test o && list_all test xs)
each_named test None xs = refl
each_named test (Some x) xs = refl

fields_named : (test : ℕ → Bool) (fields : List FieldValue)
    → list_all test (filter_map slot_in fields) ≡ list_all (λ f. none_or test (slot_in f)) fields
fields_named test [] = refl
fields_named test (f ∷ fields) = each_named test (slot_in f) (filter_map slot_in fields)
    ∙ ap (λ b. none_or test (slot_in f) && b) (fields_named test fields)

Decides-fields : (test : ℕ → Bool) (P : ℕ → Type 0) (fields : List FieldValue) → ((s : ℕ) → Decides (test s) (P s))
    → Decides (list_all (λ f. none_or test (slot_in f)) fields) ((s : ℕ) → s ∈ filter_map slot_in fields → P s)
Decides-fields test P fields each = subst (λ b. Decides b ((s : ℕ) → s ∈ filter_map slot_in fields → P s)) (fields_named test fields)
    (Decides-all test P (filter_map slot_in fields) each)

elements_named : (test : ℕ → Bool) (elements : List (Option ℕ))
    → list_all test (filter_map (λ s. s) elements) ≡ list_all (none_or test) elements
elements_named test [] = refl
elements_named test (s ∷ elements) = each_named test s (filter_map (λ s. s) elements)
    ∙ ap (λ b. none_or test s && b) (elements_named test elements)

Decides-elements : (test : ℕ → Bool) (P : ℕ → Type 0) (elements : List (Option ℕ)) → ((s : ℕ) → Decides (test s) (P s))
    → Decides (list_all (none_or test) elements) ((s : ℕ) → s ∈ filter_map (λ s. s) elements → P s)
Decides-elements test P elements each = subst (λ b. Decides b ((s : ℕ) → s ∈ filter_map (λ s. s) elements → P s))
    (elements_named test elements) (Decides-all test P (filter_map (λ s. s) elements) each)

pub Decides-contents : (test : ℕ → Bool) (P : ℕ → Type 0) (contents : Contents) → ((s : ℕ) → Decides (test s) (P s))
    → Decides (each_slot test contents) ((s : ℕ) → s ∈ slots_in contents → P s)
Decides-contents test P (Typed fields) each = Decides-fields test P fields each
Decides-contents test P (Elements elements) each = Decides-elements test P elements each

pub Decides-bound : (test : ℕ → Bool) (P : ℕ → Type 0) (names : List Binding) → ((s : ℕ) → Decides (test s) (P s))
    → Decides (list_all (λ b. test b.slot) names) ((s : ℕ) → s ∈ map (λ b. b.slot) names → P s)
Decides-bound test P names each = subst (λ b. Decides b ((s : ℕ) → s ∈ map (λ b. b.slot) names → P s))
    (list_all-map test (λ b. b.slot) names) (Decides-all test P (map (λ b. b.slot) names) each)

pub Decides-each : {A : Type 0} (test : A → Bool) (P : A → Type 0) (xs : List A) → ((x : A) → Decides (test x) (P x))
    → Decides (list_all test xs) (AllByRecursion P xs)
Decides-each test P [] each = ((λ h. tt), (λ u. refl))
Decides-each test P (x ∷ xs) each = also (each x) (Decides-each test P xs each)

-- each key less than the later ones
above_all : {A : Type 0} (key : A → ℕ) (a : ℕ) (xs : List A) → list_all (λ y. nat_lt a (key y)) xs ≡ is_above a (map key xs)
above_all key a [] = refl
above_all key a (x ∷ xs) = ap (λ b. nat_lt a (key x) && b) (above_all key a xs)

pub rises : {A : Type 0} (key : A → ℕ) (xs : List A) → rising_by key xs ≡ is_rising (map key xs)
rises key [] = refl
rises key (x ∷ xs) =
    ap (λ b. b && rising_by key xs) (above_all key (key x) xs)
    ∙ ap (λ b. is_above (key x) (map key xs) && b) (rises key xs)

pub Decides-rising : {A : Type 0} (key : A → ℕ) (xs : List A) → Decides (rising_by key xs) (is_rising (map key xs) ≡ true)
Decides-rising key xs = ((λ h. sym (rises key xs) ∙ h), (λ h. rises key xs ∙ h))

-- ---- Numbers

numbers_give : (a n : ℕ) (test : ℕ → Bool) → list_all test (range_with_len a n) ≡ true → (i : ℕ) → a ≤ i → i < a + n → test i ≡ true
numbers_give a zero test h i l u = absurd (omega (arith, l, u))
numbers_give a (suc n) test h i l u =
    let p = and_parts (test a) (list_all test (range_with_len (a + 1) n)) h in
    elim (cases_eq i a) [
      | inl same ↦ subst (λ x. test x ≡ true) (sym same) p.0
      | inr other ↦ numbers_give (a + 1) n test p.1 i (grind (arith, other, l)) (omega (arith, u))
    ]

numbers_from : (a n : ℕ) (test : ℕ → Bool) → ((i : ℕ) → i < a + n → test i ≡ true) → list_all test (range_with_len a n) ≡ true
numbers_from a zero test h = refl
numbers_from a (suc n) test h = and_from (test a) (list_all test (range_with_len (a + 1) n)) (h a (omega arith))
    (numbers_from (a + 1) n test (λ i l. h i (omega (arith, l))))

pub Decides-numbers : (n : ℕ) (test : ℕ → Bool) → Decides (each_number n test) ((i : ℕ) → i < n → test i ≡ true)
Decides-numbers n test =
    ((λ h i l. numbers_give 0 n test h i (omega arith) (omega (arith, l))), (λ h. numbers_from 0 n test (λ i l. h i (omega (arith, l)))))

-- ---- Places of a table

pub places_give : {A : Type 0} (test : A → Bool) (table : Table A) (k : ℕ) (x : A) → list_all (none_or test) table ≡ true
    → at table k ≡ Some x → test x ≡ true
places_give test [] k x h e = no_some x e
places_give test (o ∷ table) zero x h e =
    subst (λ p. none_or test p ≡ true) e (and_parts (none_or test o) (list_all (none_or test) table) h).0
places_give test (o ∷ table) (suc k) x h e = places_give test table k x (and_parts (none_or test o) (list_all (none_or test) table) h).1 e

pub places_from : {A : Type 0} (test : A → Bool) (table : Table A) → ((k : ℕ) (x : A) → at table k ≡ Some x → test x ≡ true)
    → list_all (none_or test) table ≡ true
places_from test [] h = refl
places_from test (None ∷ table) h = places_from test table (λ k x e. h (suc k) x e)
places_from test (Some x ∷ table) h =
    and_from (test x) (list_all (none_or test) table) (h 0 x refl) (places_from test table (λ k x e. h (suc k) x e))

pub Decides-places : {A : Type 0} (test : A → Bool) (P : A → Type 0) (table : Table A) → ((x : A) → Decides (test x) (P x))
    → Decides (list_all (none_or test) table) ((k : ℕ) (x : A) → at table k ≡ Some x → P x)
Decides-places test P table each = (
  (λ h k x e. (each x).0 (places_give test table k x h e)),
  (λ h. places_from test table (λ k x e. (each x).1 (h k x e))),
)

-- some place
pub some_place_gives : {A : Type 0} (test : A → Bool) (table : Table A) → list_any (some_and test) table ≡ true → (k : ℕ) × (x : A)
    × (at table k ≡ Some x) × (test x ≡ true)
some_place_gives test [] h = absurd (both_ways false refl h)
some_place_gives test (None ∷ table) h = let r = some_place_gives test table h in (suc r.0, r.1, r.2, r.3)
some_place_gives test (Some x ∷ table) h = elim (or_cases (test x) (list_any (some_and test) table) h) [
  | inl here ↦ (0, x, refl, here)
  | inr later ↦ let r = some_place_gives test table later in (suc r.0, r.1, r.2, r.3)
]

pub some_place_from : {A : Type 0} (test : A → Bool) (table : Table A) (k : ℕ) (x : A) → at table k ≡ Some x → test x ≡ true
    → list_any (some_and test) table ≡ true
some_place_from test [] k x e h = no_some x e
some_place_from test (o ∷ table) zero x e h = or_left (some_and test o) (list_any (some_and test) table) (ap (some_and test) e ∙ h)
some_place_from test (o ∷ table) (suc k) x e h =
    or_right (some_and test o) (list_any (some_and test) table) (some_place_from test table k x e h)

-- what there is at one place
pub there_gives : {A : Type 0} (test : A → Bool) (o : Option A) → some_and test o ≡ true → (x : A) × (o ≡ Some x) × (test x ≡ true)
there_gives test None h = absurd (both_ways false refl h)
there_gives test (Some x) h = (x, refl, h)

pub there_from : {A : Type 0} (test : A → Bool) (o : Option A) (x : A) → o ≡ Some x → test x ≡ true → some_and test o ≡ true
there_from test o x e h = ap (some_and test) e ∙ h

-- ---- Objects of one kind

pub Decides-references : (test : ReferenceOf → Bool) (P : ReferenceOf → Type 0) (heap : Heap) → ((r : ReferenceOf) → Decides (test r) (P r))
    → Decides (list_all (none_or (on_reference test)) heap) ((s : ℕ) (r : ReferenceOf) → at heap s ≡ Some (Reference r) → P r)
Decides-references test P heap each = (
  (λ h s r e. (each r).0 (places_give (on_reference test) heap s (Reference r) h e)),
  (λ h. places_from (on_reference test) heap (λ s o. elim o as (λ o. at heap s ≡ Some o → on_reference test o ≡ true) [
    | Reference r ↦ λ e. (each r).1 (h s r e)
    | _ ↦ λ e. refl
  ])),
)

pub Decides-queues : (test : List ℕ → Bool) (P : List ℕ → Type 0) (heap : Heap) → ((r : List ℕ) → Decides (test r) (P r))
    → Decides (list_all (none_or (on_queue test)) heap) ((s : ℕ) (r : List ℕ) → at heap s ≡ Some (Queue r) → P r)
Decides-queues test P heap each = (
  (λ h s r e. (each r).0 (places_give (on_queue test) heap s (Queue r) h e)),
  (λ h. places_from (on_queue test) heap (λ s o. elim o as (λ o. at heap s ≡ Some o → on_queue test o ≡ true) [
    | Queue r ↦ λ e. (each r).1 (h s r e)
    | _ ↦ λ e. refl
  ])),
)

pub Decides-cleanables : (test : CleanableOf → Bool) (P : CleanableOf → Type 0) (heap : Heap) → ((r : CleanableOf) → Decides (test r) (P r))
    → Decides (list_all (none_or (on_cleanable test)) heap) ((s : ℕ) (r : CleanableOf) → at heap s ≡ Some (Cleanable r) → P r)
Decides-cleanables test P heap each = (
  (λ h s r e. (each r).0 (places_give (on_cleanable test) heap s (Cleanable r) h e)),
  (λ h. places_from (on_cleanable test) heap (λ s o. elim o as (λ o. at heap s ≡ Some o → on_cleanable test o ≡ true) [
    | Cleanable r ↦ λ e. (each r).1 (h s r e)
    | _ ↦ λ e. refl
  ])),
)

pub Decides-guards : (test : GuardOf → Bool) (P : GuardOf → Type 0) (heap : Heap) → ((r : GuardOf) → Decides (test r) (P r))
    → Decides (list_all (none_or (on_guard test)) heap) ((s : ℕ) (r : GuardOf) → at heap s ≡ Some (Guard r) → P r)
Decides-guards test P heap each = (
  (λ h s r e. (each r).0 (places_give (on_guard test) heap s (Guard r) h e)),
  (λ h. places_from (on_guard test) heap (λ s o. elim o as (λ o. at heap s ≡ Some o → on_guard test o ≡ true) [
    | Guard r ↦ λ e. (each r).1 (h s r e)
    | _ ↦ λ e. refl
  ])),
)

pub Decides-plain : (test : Contents → Bool) (P : Contents → Type 0) (heap : Heap) → ((r : Contents) → Decides (test r) (P r))
    → Decides (list_all (none_or (on_plain test)) heap) ((s : ℕ) (r : Contents) → at heap s ≡ Some (Plain r) → P r)
Decides-plain test P heap each = (
  (λ h s r e. (each r).0 (places_give (on_plain test) heap s (Plain r) h e)),
  (λ h. places_from (on_plain test) heap (λ s o. elim o as (λ o. at heap s ≡ Some o → on_plain test o ≡ true) [
    | Plain r ↦ λ e. (each r).1 (h s r e)
    | _ ↦ λ e. refl
  ])),
)

-- ---- Keys apart

pub Decides-number : (a : ℕ) (o : Option ℕ) → Decides (some_and (nat_eq a) o) (o ≡ Some a)
Decides-number a None = ((λ h. absurd (both_ways false refl h)), (λ e. no_some a e))
Decides-number a (Some x) = ((λ h. ap (λ n. Some n) (sym (eqb-true a x h))), (λ e. eq-eqb a x (sym (some_same x a e))))

-- other numbers than s fail the test
pub Decides-others : (n s : ℕ) (test : ℕ → Bool) → Decides (each_number n (λ t. nat_eq s t || not (test t)))
    ((t : ℕ) → t < n → test t ≡ true → s ≡ t)
Decides-others n s test =
    let all = Decides-numbers n (λ t. nat_eq s t || not (test t)) in (
      (λ h t l e. elim (or_cases (nat_eq s t) (not (test t)) (all.0 h t l)) [
        | inl same ↦ eqb-true s t same
        | inr other ↦ absurd (both_ways (test t) (not-true (test t) other) e)
      ]),
      (λ w. all.1 (λ t l. elim (cases_eq s t) [
        | inl same ↦ or_left (nat_eq s t) (not (test t)) (eq-eqb s t same)
        | inr other ↦ or_right (nat_eq s t) (not (test t)) (not_from_false (test t) (false_from_ne_true (test t) (λ e. other (w t l e))))
      ])),
    )

abbrev pub AreApart : (Option Object → Option ℕ) → Heap → Type 0
AreApart key heap = (s t a : ℕ) → key (at heap s) ≡ Some a → key (at heap t) ≡ Some a → s ≡ t

key_within : (key : Option Object → Option ℕ) (heap : Heap) (s a : ℕ) → key None ≡ None → key (at heap s) ≡ Some a → s < length heap
key_within key heap s a n e =
    elim (at heap s) as (λ o. at heap s ≡ o → key o ≡ Some a → s < length heap) [
      | None ↦ λ f e. no_some a (sym n ∙ e)
      | Some o ↦ λ f e. place_within heap s o f
    ] refl e

Decides-only : (key : Option Object → Option ℕ) (heap : Heap) → key None ≡ None → (s a : ℕ)
    → Decides (is_only_key key heap s a) ((t : ℕ) → key (at heap t) ≡ Some a → s ≡ t)
Decides-only key heap n s a =
    turned (Decides-others (length heap) s (λ t. some_and (nat_eq a) (key (at heap t))))
    (λ w t e. w t (key_within key heap t a n e) ((Decides-number a (key (at heap t))).1 e))
    (λ w t l h. w t ((Decides-number a (key (at heap t))).0 h))

pub Decides-apart : (key : Option Object → Option ℕ) (heap : Heap) → key None ≡ None → Decides (keys_are_apart key heap) (AreApart key heap)
Decides-apart key heap n =
    let all = Decides-numbers (length heap) (λ s. none_or (is_only_key key heap s) (key (at heap s))) in
    let one = λ (s : ℕ). Decides-any (is_only_key key heap s) (λ a. (t : ℕ) → key (at heap t) ≡ Some a → s ≡ t) (key (at heap s))
    (Decides-only key heap n s) in (
      (λ h s t a e f. (one s).0 (all.0 h s (key_within key heap s a n e)) a e t f),
      (λ w. all.1 (λ s _. (one s).1 (λ a e t f. w s t a e f))),
    )

-- ---- What is found by a key

all_of : {A : Type 0} (P : A → Type 0) (xs : List A) → ((x : A) → P x) → AllByRecursion P xs
all_of P [] h = tt
all_of P (x ∷ xs) h = (h x, all_of P xs h)

pub Decides-found : {A : Type 0} (key : A → ℕ) (test : A → Bool) (P : A → Type 0) (xs : List A) → ((x : A) → Decides (test x) (P x))
    → Decides (list_all (λ x. none_or test (by_key key xs (key x))) xs) ((a : ℕ) (x : A) → by_key key xs a ≡ Some x → P x)
Decides-found {A} key test P xs each =
    let found = λ (x : A). Decides-any test P (by_key key xs (key x)) each in
    let all = Decides-each (λ x. none_or test (by_key key xs (key x))) (λ x. (y : A) → by_key key xs (key x) ≡ Some y → P y) xs found in (
      (λ h a x e. all_found key (λ x. (y : A) → by_key key xs (key x) ≡ Some y → P y) xs a x (all.0 h) e x
          (ap (by_key key xs) (key_found key xs a x e) ∙ e)),
      (λ w. all.1 (all_of (λ x. (y : A) → by_key key xs (key x) ≡ Some y → P y) xs (λ x y e. w (key x) y e))),
    )

-- ---- Slots and what is there

pub Decides-slots : {A : Type 0} (test : ℕ → A → Bool) (P : ℕ → A → Type 0) (table : Table A)
    → ((s : ℕ) (x : A) → Decides (test s x) (P s x))
    → Decides (each_number (length table) (λ s. none_or (test s) (at table s))) ((s : ℕ) (x : A) → at table s ≡ Some x → P s x)
Decides-slots test P table each =
    let all = Decides-numbers (length table) (λ s. none_or (test s) (at table s)) in (
      (λ h s x e. (Decides-any (test s) (P s) (at table s) (each s)).0 (all.0 h s (place_within table s x e)) x e),
      (λ w. all.1 (λ s _. (Decides-any (test s) (P s) (at table s) (each s)).1 (λ x e. w s x e))),
    )

pub Decides-on_cleanable : (test : CleanableOf → Bool) (P : CleanableOf → Type 0) (o : Object)
    → ((c : CleanableOf) → Decides (test c) (P c)) → Decides (on_cleanable test o) ((c : CleanableOf) → o ≡ Cleanable c → P c)
Decides-on_cleanable test P (Cleanable d) each =
    ((λ h c e. let same : d ≡ c = cc e in subst P same ((each d).0 h)), (λ w. (each d).1 (w d refl)))
Decides-on_cleanable test P (Plain x) each = ((λ h c e. absurd (cc e)), (λ w. refl))
Decides-on_cleanable test P (Reference x) each = ((λ h c e. absurd (cc e)), (λ w. refl))
Decides-on_cleanable test P (Queue x) each = ((λ h c e. absurd (cc e)), (λ w. refl))
Decides-on_cleanable test P Cleaner each = ((λ h c e. absurd (cc e)), (λ w. refl))
Decides-on_cleanable test P (Guard x) each = ((λ h c e. absurd (cc e)), (λ w. refl))

pub Decides-on_guard : (test : GuardOf → Bool) (P : GuardOf → Type 0) (o : Object) → ((g : GuardOf) → Decides (test g) (P g))
    → Decides (on_guard test o) ((g : GuardOf) → o ≡ Guard g → P g)
Decides-on_guard test P (Guard d) each = ((λ h c e. let same : d ≡ c = cc e in subst P same ((each d).0 h)), (λ w. (each d).1 (w d refl)))
Decides-on_guard test P (Plain x) each = ((λ h c e. absurd (cc e)), (λ w. refl))
Decides-on_guard test P (Reference x) each = ((λ h c e. absurd (cc e)), (λ w. refl))
Decides-on_guard test P (Queue x) each = ((λ h c e. absurd (cc e)), (λ w. refl))
Decides-on_guard test P Cleaner each = ((λ h c e. absurd (cc e)), (λ w. refl))
Decides-on_guard test P (Cleanable x) each = ((λ h c e. absurd (cc e)), (λ w. refl))

pub Decides-on_queue : (test : List ℕ → Bool) (P : List ℕ → Type 0) (o : Object) → ((members : List ℕ) → Decides (test members) (P members))
    → Decides (on_queue test o) ((members : List ℕ) → o ≡ Queue members → P members)
Decides-on_queue test P (Queue d) each = ((λ h c e. let same : d ≡ c = cc e in subst P same ((each d).0 h)), (λ w. (each d).1 (w d refl)))
Decides-on_queue test P (Plain x) each = ((λ h c e. absurd (cc e)), (λ w. refl))
Decides-on_queue test P (Reference x) each = ((λ h c e. absurd (cc e)), (λ w. refl))
Decides-on_queue test P Cleaner each = ((λ h c e. absurd (cc e)), (λ w. refl))
Decides-on_queue test P (Cleanable x) each = ((λ h c e. absurd (cc e)), (λ w. refl))
Decides-on_queue test P (Guard x) each = ((λ h c e. absurd (cc e)), (λ w. refl))
