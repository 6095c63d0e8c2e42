-- The elements of arrays, and the parts of objects that ticks follow.
use Rattle.std.proofs.Common.{◌≡◌, ℕ, zero, suc, ◌+◌, ◌-◌, ◌*◌, ◌/◌, ◌<◌, ◌≤◌, inl, inr, true, false, cond, List, [], ◌∷◌, ◌++◌, Option}
use Rattle.std.proofs.Common.{Some, None, option_and_then, refl, sym, subst, ap, ◌∙◌, length, take, drop, arith}
use Rattle.std.specs.Prelude.{filter_map, nat_lt, option_to_list}
use Rattle.std.specs.List.{flat_map}
use Rattle.std.proofs.lemmas.Bool.{cases_lt, le-ltb, lt-ltb}
use Rattle.std.proofs.lemmas.List.{get_or-drop, get_or-take}
use Rattle.jlr_types.specs.declared.RefKind.TheVariants.{Soft}
use Rattle.jlr_machine.specs.declared.object.Contents.TheVariants.{Typed, Elements}
use Rattle.jlr_machine.specs.declared.object.Object.{Object}
use Rattle.jlr_machine.specs.declared.object.Object.TheVariants.{Plain, Reference, Queue, Cleaner, Cleanable, Guard}
use Rattle.jlr_machine.specs.Objects.{Table, at, ◌∈◌}
use Rattle.jlr_machine.specs.Edges.{edges, referent}
use Rattle.jlr_machine.specs.Edges.Chain.{Strong}
use Rattle.jlr_laws.proofs.Clearing.{in_append, in_left}
use Rattle.jlr_laws.proofs.Frames.{from_places, in_places, no_some, some_same}
use Rattle.jlr_laws.proofs.Sets.{nothing, in_cons}
use Rattle.jlr_barrier.specs.Parts.{edges_part, next_place, ticks_in}
use Rattle.jlr_marker.specs.Spending.{elements_in}

-- ---- Elements from a place on

in_taken : (n : ℕ) (l : Table ℕ) (y : ℕ) → y ∈ filter_map (λ s. s) (take n l) → (i : ℕ) × (i < n) × (at l i ≡ Some y)
in_taken zero l y h = nothing y h
in_taken (suc n) [] y h = nothing y h
in_taken (suc n) (None ∷ l) y h = let r = in_taken n l y h in (suc r.0, omega (arith, r.1), r.2)
in_taken (suc n) (Some z ∷ l) y h = elim (in_cons y z (filter_map (λ s. s) (take n l)) h) [
  | inl e ↦ (0, omega arith, ap (λ v. Some v) (sym e))
  | inr later ↦ let r = in_taken n l y later in (suc r.0, omega (arith, r.1), r.2)
]

in_part : (e : Table ℕ) (from n y : ℕ) → y ∈ filter_map (λ s. s) (take n (drop from e)) → (i : ℕ) × (from ≤ i) × (i < from + n)
    × (at e i ≡ Some y)
in_part e from n y h = let r = in_taken n (drop from e) y h in
    (from + r.0, omega arith, omega (arith, r.1), sym (get_or-drop from e r.0 None) ∙ r.2)

from_part : (e : Table ℕ) (from n i y : ℕ) → from ≤ i → i < from + n → at e i ≡ Some y → y ∈ filter_map (λ s. s) (take n (drop from e))
from_part e from n i y low high h =
    let k = i - from in
    let below : k < n = omega (arith, low, high) in
    let back : from + k ≡ i = omega (arith, low) in
    from_places (take n (drop from e)) k y (get_or-take n (drop from e) k None below ∙ get_or-drop from e k None ∙ ap (at e) back ∙ h)

-- ---- Arrays, and other objects

array_is : (o : Option Object) (e : List (Option ℕ)) → elements_in o ≡ Some e → o ≡ Some (Plain (Elements e))
array_is None e h = no_some e h
array_is (Some (Plain (Typed fields))) e h = no_some e h
array_is (Some (Plain (Elements elements))) e h = ap (λ v. Some (Plain (Elements v))) (some_same elements e h)
array_is (Some (Reference r)) e h = no_some e h
array_is (Some (Queue members)) e h = no_some e h
array_is (Some Cleaner) e h = no_some e h
array_is (Some (Cleanable c)) e h = no_some e h
array_is (Some (Guard g)) e h = no_some e h

-- an array has no referent
pub array_no_soft : {P : Type 0} (o : Option Object) (e : List (Option ℕ)) (y : ℕ) → elements_in o ≡ Some e
    → option_and_then (referent Soft) o ≡ Some y → P
array_no_soft o e y h soft = no_some y (subst (λ v. option_and_then (referent Soft) v ≡ Some y) (array_is o e h) soft)

-- the strong edges of an array are its elements
pub array_edge : (o : Option Object) (e : List (Option ℕ)) (y : ℕ) → elements_in o ≡ Some e → y ∈ flat_map (edges Strong) (option_to_list o)
    → (i : ℕ) × (at e i ≡ Some y)
array_edge o e y h strong =
    let there : y ∈ filter_map (λ s. s) e ++ [] = subst (λ v. y ∈ flat_map (edges Strong) (option_to_list v)) (array_is o e h) strong in
    elim (in_append y (filter_map (λ s. s) e) [] there) [ inl k ↦ in_places e y k | inr n ↦ nothing y n ]

-- a part of them is at most 64
pub array_gives : (o : Option Object) (e : List (Option ℕ)) (from y : ℕ) → elements_in o ≡ Some e
    → y ∈ flat_map (edges_part from) (option_to_list o) → (i : ℕ) × (from ≤ i) × (i < from + 64) × (at e i ≡ Some y)
array_gives o e from y h part =
    let l = filter_map (λ s. s) (take 64 (drop from e)) in
    let there : y ∈ l ++ [] = subst (λ v. y ∈ flat_map (edges_part from) (option_to_list v)) (array_is o e h) part in
    elim (in_append y l [] there) [ inl k ↦ in_part e from 64 y k | inr n ↦ nothing y n ]

pub array_from : (o : Option Object) (e : List (Option ℕ)) (from i y : ℕ) → elements_in o ≡ Some e → from ≤ i → i < from + 64
    → at e i ≡ Some y → y ∈ flat_map (edges_part from) (option_to_list o)
array_from o e from i y h low high element =
    subst (λ v. y ∈ flat_map (edges_part from) (option_to_list v)) (sym (array_is o e h))
    (in_left y (filter_map (λ s. s) (take 64 (drop from e))) [] (from_part e from 64 i y low high element))

-- of all other objects a part is all strong edges
pub other_part : (o : Option Object) (from : ℕ) → elements_in o ≡ None
    → flat_map (edges_part from) (option_to_list o) ≡ flat_map (edges Strong) (option_to_list o)
other_part None from h = refl
other_part (Some (Plain (Typed fields))) from h = refl
other_part (Some (Plain (Elements elements))) from h = no_some elements (sym h)
other_part (Some (Reference r)) from h = refl
other_part (Some (Queue members)) from h = refl
other_part (Some Cleaner) from h = refl
other_part (Some (Cleanable c)) from h = refl
other_part (Some (Guard g)) from h = refl

array_edge_from : (o : Option Object) (e : List (Option ℕ)) (i y : ℕ) → elements_in o ≡ Some e → at e i ≡ Some y
    → y ∈ flat_map (edges Strong) (option_to_list o)
array_edge_from o e i y h element = subst (λ v. y ∈ flat_map (edges Strong) (option_to_list v)) (sym (array_is o e h))
    (in_left y (filter_map (λ s. s) e) [] (from_places e i y element))

pub part_is_edge : (o : Option Object) (from y : ℕ) → y ∈ flat_map (edges_part from) (option_to_list o)
    → y ∈ flat_map (edges Strong) (option_to_list o)
part_is_edge o from y h =
    elim (elements_in o) as (λ k. elements_in o ≡ k → y ∈ flat_map (edges Strong) (option_to_list o)) [
      | None ↦ λ e. subst (λ l. y ∈ l) (other_part o from e) h
      | Some elements ↦ λ e. let r = array_gives o elements from y e h in array_edge_from o elements r.0 y e r.3
    ] refl

-- ---- Places

after : (n from p : ℕ) → cond (nat_lt (from + 64) n) (Some (from + 64)) None ≡ Some p → p ≡ from + 64
after n from p h = elim (nat_lt (from + 64) n) as (λ b. cond b (Some (from + 64)) None ≡ Some p → p ≡ from + 64) [
  | true ↦
      λ h. sym (some_same (from + 64) p h)
  | false ↦ λ h. no_some p h
] h

not_after : (n from : ℕ) → cond (nat_lt (from + 64) n) (Some (from + 64)) None ≡ None → n ≤ from + 64
not_after n from h = elim (cases_lt (from + 64) n) [
  | inl below ↦ no_some (from + 64) (sym h ∙ ap (λ b. cond b (Some (from + 64)) None) (lt-ltb (from + 64) n below))
  | inr past ↦ omega (arith, past)
]

-- the next place is 64 elements further on
pub next_is : (o : Option Object) (from p : ℕ) → option_and_then (next_place from) o ≡ Some p → p ≡ from + 64
next_is None from p h = no_some p h
next_is (Some (Plain (Typed fields))) from p h = no_some p h
next_is (Some (Plain (Elements elements))) from p h = after (length elements) from p h
next_is (Some (Reference r)) from p h = no_some p h
next_is (Some (Queue members)) from p h = no_some p h
next_is (Some Cleaner) from p h = no_some p h
next_is (Some (Cleanable c)) from p h = no_some p h
next_is (Some (Guard g)) from p h = no_some p h

-- a next place is below what all ticks of the object follow
within_parts : (n from q : ℕ) → cond (nat_lt (from + 64) n) (Some (from + 64)) None ≡ Some q → q < 64 * (1 + (n - 1) / 64)
within_parts n from q h = elim (cases_lt (from + 64) n) [
  | inl below ↦ omega (arith, after n from q h, below)
  | inr past ↦ no_some q (sym (ap (λ b. cond b (Some (from + 64)) None) (le-ltb (from + 64) n past)) ∙ h)
]

pub next_below : (o : Option Object) (from q : ℕ) → option_and_then (next_place from) o ≡ Some q → q < 64 * ticks_in o
next_below None from q h = no_some q h
next_below (Some (Plain (Typed fields))) from q h = no_some q h
next_below (Some (Plain (Elements elements))) from q h = within_parts (length elements) from q h
next_below (Some (Reference r)) from q h = no_some q h
next_below (Some (Queue members)) from q h = no_some q h
next_below (Some Cleaner) from q h = no_some q h
next_below (Some (Cleanable c)) from q h = no_some q h
next_below (Some (Guard g)) from q h = no_some q h

-- with no next place, there are no more elements
pub none_next : (o : Option Object) (e : List (Option ℕ)) (from : ℕ) → elements_in o ≡ Some e → option_and_then (next_place from) o ≡ None
    → length e ≤ from + 64
none_next o e from h none = not_after (length e) from (subst (λ v. option_and_then (next_place from) v ≡ None) (array_is o e h) none)

-- what is no array has none
pub other_next : (o : Option Object) (from : ℕ) → elements_in o ≡ None → option_and_then (next_place from) o ≡ None
other_next None from h = refl
other_next (Some (Plain (Typed fields))) from h = refl
other_next (Some (Plain (Elements elements))) from h = no_some elements (sym h)
other_next (Some (Reference r)) from h = refl
other_next (Some (Queue members)) from h = refl
other_next (Some Cleaner) from h = refl
other_next (Some (Cleanable c)) from h = refl
other_next (Some (Guard g)) from h = refl

-- where whole parts were followed and one is left, that one is the last
pub last_part : (o : Option Object) (from k : ℕ) → from ≡ 64 * k → k < ticks_in o → option_and_then (next_place from) o ≡ None
    → ticks_in o ≡ from / 64 + 1
last_part None from k whole left none = absurd (omega (arith, left))
last_part (Some (Plain (Typed fields))) from k whole left none = omega (arith, whole, left)
last_part (Some (Plain (Elements elements))) from k whole left none = omega (arith, whole, left, not_after (length elements) from none)
last_part (Some (Reference r)) from k whole left none = omega (arith, whole, left)
last_part (Some (Queue members)) from k whole left none = omega (arith, whole, left)
last_part (Some Cleaner) from k whole left none = omega (arith, whole, left)
last_part (Some (Cleanable c)) from k whole left none = omega (arith, whole, left)
last_part (Some (Guard g)) from k whole left none = omega (arith, whole, left)
