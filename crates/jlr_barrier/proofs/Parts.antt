-- The edges ahead of a place, in parts.
use Rattle.std.proofs.Common.{◌≡◌, Bool, IsTrue, ℕ, zero, suc, ◌+◌, ◌-◌, ◌<◌, ◌≤◌, ◌⊎◌, inl, inr, true, false, cond, List, [], ◌∷◌, ◌++◌}
use Rattle.std.proofs.Common.{Option, Some, None, refl, sym, subst, ap, ◌∙◌, length, take, drop, option_and_then, arith}
use Rattle.std.specs.Prelude.{nat_lt, nat_eq, option_to_list, is_some}
use Rattle.std.specs.List.{flat_map}
use Rattle.std.proofs.lemmas.List.{append-nil, length-drop, take-append-drop, take_all, drop_all}
use Rattle.std.proofs.Math.Seq.{drop-nil}
use Rattle.std.proofs.lemmas.List.Elements.{filter_map-append}
use Rattle.std.proofs.lemmas.Bool.{cases_lt, lt-ltb, ltb-true, false_from_ne_true, eq-eqb, eqb-true, both_ways}
use Rattle.jlr_machine.specs.declared.object.Contents.TheVariants.{Typed, Elements}
use Rattle.jlr_machine.specs.declared.object.Object.{Object}
use Rattle.jlr_machine.specs.declared.object.Object.TheVariants as object
use Rattle.jlr_machine.specs.Objects.{Heap, at, some_and, ◌∈◌}
use Rattle.jlr_machine.specs.Refusals.{is_record}
use Rattle.jlr_machine.specs.Edges.{edges, edges_from, strong_edges}
use Rattle.jlr_machine.specs.Edges.Chain.{Strong}
use Rattle.jlr_laws.proofs.Sets.{nothing, in_rest}
use Rattle.jlr_laws.proofs.Clearing.{in_append, in_left}
use Rattle.jlr_laws.proofs.Frames.{no_some, some_same}
use Rattle.jlr_cells.specs.Links.{linked}
use Rattle.jlr_cells.specs.Visits.{elements_of}
use Rattle.jlr_marks.specs.declared.part.Part.{Part}
use Rattle.jlr_marks.specs.Marking.{IsMarked, Marking, Shaded, place_in}
use Rattle.jlr_barrier.specs.Snapshots.{IsEdge}
use Rattle.jlr_barrier.specs.Parts.{IsBegun, IsInProgress, ahead_at, edges_ahead, edges_part, next_at, next_place, part_at, parts_of}
use Rattle.jlr_barrier.specs.Parts.{place_after, ticks_at, ticks_in}

-- ---- Lists

drop_more : (l : List (Option ℕ)) (from n : ℕ) → drop n (drop from l) ≡ drop (from + n) l
drop_more l zero n = let e : n ≡ 0 + n = omega arith in ap (λ k. drop k l) e
drop_more [] (suc from) n = drop-nil n ∙ sym (drop-nil (suc from + n))
drop_more (x ∷ l) (suc from) n = let e : suc (from + n) ≡ suc from + n = omega arith in drop_more l from n ∙ ap (λ k. drop k (x ∷ l)) e

in_more_links : (o : Option ℕ) (x : ℕ) (l : List (Option ℕ)) → x ∈ linked l → x ∈ linked (o ∷ l)
in_more_links None x l h = h
in_more_links (Some y) x l h = in_rest x y (linked l) h

elements_all : (e : List (Option ℕ)) (from x : ℕ) → x ∈ linked (drop from e) → x ∈ linked e
elements_all e zero x h = h
elements_all [] (suc from) x h = h
elements_all (o ∷ e) (suc from) x h = in_more_links o x e (elements_all e from x h)

elements_split : (e : List (Option ℕ)) (from x : ℕ) → x ∈ linked (drop from e) → (x ∈ linked (take 64 (drop from e)))
    ⊎ (x ∈ linked (drop (from + 64) e))
elements_split e from x h =
    in_append x (linked (take 64 (drop from e))) (linked (drop (from + 64) e))
    (subst (λ l. x ∈ l) (ap linked (sym (take-append-drop 64 (drop from e)))
    ∙ filter_map-append (λ (l : Option ℕ). l) (take 64 (drop from e)) (drop 64 (drop from e))
    ∙ ap (λ l. linked (take 64 (drop from e)) ++ linked l) (drop_more e from 64)) h)

elements_part : (e : List (Option ℕ)) (from x : ℕ) → x ∈ linked (take 64 (drop from e)) → x ∈ linked e
elements_part e from x h =
    elements_all e from x
    (subst (λ l. x ∈ l) (sym (filter_map-append (λ (l : Option ℕ). l) (take 64 (drop from e)) (drop 64 (drop from e)))
    ∙ ap linked (take-append-drop 64 (drop from e)))
    (in_left x (linked (take 64 (drop from e))) (linked (drop 64 (drop from e))) h))

-- ---- Objects

-- from the front on all edges are ahead
pub all_ahead : (o : Object) → edges_ahead 0 o ≡ strong_edges o
all_ahead (object.Plain (Typed fields)) = refl
all_ahead (object.Plain (Elements elements)) = refl
all_ahead (object.Reference r) = refl
all_ahead (object.Queue members) = refl
all_ahead object.Cleaner = refl
all_ahead (object.Cleanable c) = refl
all_ahead (object.Guard g) = refl

-- what is ahead is in the next part, or ahead of the place behind it
ahead_split : (o : Object) (from x : ℕ) → x ∈ edges_ahead from o → (x ∈ edges_part from o)
    ⊎ ((p : ℕ) × (next_place from o ≡ Some p) × (x ∈ edges_ahead p o))
ahead_split (object.Plain (Typed fields)) from x h = inl h
ahead_split (object.Plain (Elements e)) from x h = elim (elements_split e from x h) [
  | inl a ↦ inl a
  | inr b ↦ elim (cases_lt (from + 64) (length e)) [
    | inl below ↦ inr (from + 64, ap (λ b. cond b (Some (from + 64)) None) (lt-ltb (from + 64) (length e) below), b)
    | inr past ↦ nothing x (subst (λ l. x ∈ linked l) (drop_all (from + 64) e past) b)
  ]
]
ahead_split (object.Reference r) from x h = inl h
ahead_split (object.Queue members) from x h = inl h
ahead_split object.Cleaner from x h = inl h
ahead_split (object.Cleanable c) from x h = inl h
ahead_split (object.Guard g) from x h = inl h

-- what is ahead is an edge
ahead_is_edge : (o : Object) (from x : ℕ) → x ∈ edges_ahead from o → x ∈ strong_edges o
ahead_is_edge (object.Plain (Typed fields)) from x h = h
ahead_is_edge (object.Plain (Elements e)) from x h = elements_all e from x h
ahead_is_edge (object.Reference r) from x h = h
ahead_is_edge (object.Queue members) from x h = h
ahead_is_edge object.Cleaner from x h = h
ahead_is_edge (object.Cleanable c) from x h = h
ahead_is_edge (object.Guard g) from x h = h

part_is_edge : (o : Object) (from x : ℕ) → x ∈ edges_part from o → x ∈ strong_edges o
part_is_edge (object.Plain (Typed fields)) from x h = h
part_is_edge (object.Plain (Elements e)) from x h = elements_part e from x h
part_is_edge (object.Reference r) from x h = h
part_is_edge (object.Queue members) from x h = h
part_is_edge object.Cleaner from x h = h
part_is_edge (object.Cleanable c) from x h = h
part_is_edge (object.Guard g) from x h = h

-- ---- What lies at a slot

from_one : (x : ℕ) (f : Object → List ℕ) (o : Object) → x ∈ flat_map f (o ∷ []) → x ∈ f o
from_one x f o h = subst (λ l. x ∈ l) (append-nil (f o)) h

to_one : (x : ℕ) (f : Object → List ℕ) (o : Object) → x ∈ f o → x ∈ flat_map f (o ∷ [])
to_one x f o h = subst (λ l. x ∈ l) (sym (append-nil (f o))) h

split_in : (o : Option Object) (from x : ℕ) → x ∈ flat_map (edges_ahead from) (option_to_list o)
    → (x ∈ flat_map (edges_part from) (option_to_list o))
    ⊎ ((p : ℕ) × (option_and_then (next_place from) o ≡ Some p) × (x ∈ flat_map (edges_ahead p) (option_to_list o)))
split_in None from x h = nothing x h
split_in (Some o) from x h = elim (ahead_split o from x (from_one x (edges_ahead from) o h)) [
  | inl a ↦ inl (to_one x (edges_part from) o a)
  | inr b ↦ inr (b.0, b.1, to_one x (edges_ahead b.0) o b.2)
]

pub split : (heap : Heap) (from s x : ℕ) → x ∈ ahead_at heap from s → (x ∈ part_at heap from s)
    ⊎ ((p : ℕ) × (next_at heap from s ≡ Some p) × (x ∈ ahead_at heap p s))
split heap from s x h = split_in (at heap s) from x h

edge_in : (o : Option Object) (from x : ℕ) → x ∈ flat_map (edges_ahead from) (option_to_list o)
    → x ∈ flat_map (edges Strong) (option_to_list o)
edge_in None from x h = nothing x h
edge_in (Some o) from x h = to_one x (edges Strong) o (ahead_is_edge o from x (from_one x (edges_ahead from) o h))

-- what is ahead is an edge
pub ahead_edge : (heap : Heap) (from s x : ℕ) → x ∈ ahead_at heap from s → IsEdge heap s x
ahead_edge heap from s x h = edge_in (at heap s) from x h

part_in : (o : Option Object) (from x : ℕ) → x ∈ flat_map (edges_part from) (option_to_list o)
    → x ∈ flat_map (edges Strong) (option_to_list o)
part_in None from x h = nothing x h
part_in (Some o) from x h = to_one x (edges Strong) o (part_is_edge o from x (from_one x (edges_part from) o h))

-- what is followed at one tick is an edge
pub part_edge : (heap : Heap) (from s x : ℕ) → x ∈ part_at heap from s → IsEdge heap s x
part_edge heap from s x h = part_in (at heap s) from x h

in_front_of : (o : Option Object) (x : ℕ) → x ∈ flat_map (edges Strong) (option_to_list o) → x ∈ flat_map (edges_ahead 0) (option_to_list o)
in_front_of None x h = nothing x h
in_front_of (Some o) x h = to_one x (edges_ahead 0) o (subst (λ l. x ∈ l) (sym (all_ahead o)) (from_one x (edges Strong) o h))

-- from the front on each edge is ahead
pub edge_ahead : (heap : Heap) (s x : ℕ) → IsEdge heap s x → x ∈ ahead_at heap 0 s
edge_ahead heap s x h = in_front_of (at heap s) x h

-- ---- Places

not_lt : (a b : ℕ) → b ≤ a → nat_lt a b ≡ false
not_lt a b h = false_from_ne_true (nat_lt a b) (λ e. absurd (omega (arith, h, ltb-true a b e)))

pub not_begun : (o : Option Part) (x : ℕ) → ((p : Part) → o ≡ Some p → (p.slot ≡ x → ⊥)) → place_in o x ≡ 0
not_begun None x other = refl
not_begun (Some p) x other = elim (nat_eq p.slot x) as (λ b. nat_eq p.slot x ≡ b → cond b p.place 0 ≡ 0) [
  | true ↦ λ e. absurd (other p refl (eqb-true p.slot x e))
  | false ↦ λ e. refl
] refl

pub at_its_place : (s p : ℕ) → place_in (Some (record { slot = s; place = p })) s ≡ p
at_its_place s p = ap (λ b. cond b p 0) (eq-eqb s s refl)

-- fewer ticks were spent on it than it takes
one_tick : (o : Option Object) → IsTrue (is_some o) → 0 < ticks_in o
one_tick None h = absurd (both_ways false refl h)
one_tick (Some (object.Plain (Typed fields))) h = omega arith
one_tick (Some (object.Plain (Elements elements))) h = omega arith
one_tick (Some (object.Reference r)) h = omega arith
one_tick (Some (object.Queue members)) h = omega arith
one_tick (Some object.Cleaner) h = omega arith
one_tick (Some (object.Cleanable c)) h = omega arith
one_tick (Some (object.Guard g)) h = omega arith

in_progress_begun : (heap : Heap) (p : Part) → IsInProgress heap p → IsBegun heap p.place p.slot
in_progress_begun heap p i =
    (i.parts, i.whole, subst (λ o. i.parts < ticks_in o) (sym i.there) (omega (arith, i.whole, i.more)))

pub begun_by : (heap : Heap) (o : Option Part) (s : ℕ) → ((p : Part) → o ≡ Some p → IsInProgress heap p) → IsTrue (is_some (at heap s))
    → IsBegun heap (place_in o s) s
begun_by heap None s placed there = (0, refl, one_tick (at heap s) there)
begun_by heap (Some p) s placed there = elim (nat_eq p.slot s) as (λ b. nat_eq p.slot s ≡ b → IsBegun heap (cond b p.place 0) s) [
  | true ↦ λ same. subst (IsBegun heap p.place) (eqb-true p.slot s same) (in_progress_begun heap p (placed p refl))
  | false ↦ λ other. (0, refl, one_tick (at heap s) there)
] refl

-- where more is to follow, an array lies there, and it goes on 64 elements further
pub next_gives : (o : Option Object) (from p : ℕ) → option_and_then (next_place from) o ≡ Some p → (e : List (Option ℕ))
    × (o ≡ Some (object.Plain (Elements e))) × (p ≡ from + 64) × (p < length e)
next_gives None from p h = no_some p h
next_gives (Some (object.Plain (Typed fields))) from p h = no_some p h
next_gives (Some (object.Plain (Elements e))) from p h =
    elim (cases_lt (from + 64) (length e)) [
      | inl below ↦
          let is : from + 64 ≡ p =
          some_same (from + 64) p (sym (ap (λ b. cond b (Some (from + 64)) None) (lt-ltb (from + 64) (length e) below)) ∙ h) in
          (e, refl, sym is, subst (λ k. k < length e) is below)
      | inr past ↦ no_some p (sym (ap (λ b. cond b (Some (from + 64)) None) (not_lt (from + 64) (length e) past)) ∙ h)
    ]
next_gives (Some (object.Reference r)) from p h = no_some p h
next_gives (Some (object.Queue members)) from p h = no_some p h
next_gives (Some object.Cleaner) from p h = no_some p h
next_gives (Some (object.Cleanable c)) from p h = no_some p h
next_gives (Some (object.Guard g)) from p h = no_some p h

-- ---- What a visit lends

-- a plain object with fields has no elements
record_is_no_array : (o : Option Object) → some_and is_record o ≡ true → None ≡ option_and_then elements_of o
record_is_no_array None h = refl
record_is_no_array (Some (object.Plain (Typed fields))) h = refl
record_is_no_array (Some (object.Plain (Elements e))) h = cc
record_is_no_array (Some (object.Reference r)) h = refl
record_is_no_array (Some (object.Queue members)) h = refl
record_is_no_array (Some object.Cleaner) h = refl
record_is_no_array (Some (object.Cleanable c)) h = refl
record_is_no_array (Some (object.Guard g)) h = refl

pub no_elements : (heap : Heap) (s : ℕ) {found : Bool} → found ≡ some_and is_record (at heap s) → found ≡ true
    → None ≡ option_and_then elements_of (at heap s)
no_elements heap s plain is = record_is_no_array (at heap s) (sym plain ∙ is)

-- of what is no array one part is all
whole_in : (o : Option Object) (from : ℕ) → option_and_then elements_of o ≡ None
    → flat_map (edges_part from) (option_to_list o) ≡ flat_map (edges Strong) (option_to_list o)
whole_in None from h = refl
whole_in (Some (object.Plain (Typed fields))) from h = refl
whole_in (Some (object.Plain (Elements e))) from h = no_some e (sym h)
whole_in (Some (object.Reference r)) from h = refl
whole_in (Some (object.Queue members)) from h = refl
whole_in (Some object.Cleaner) from h = refl
whole_in (Some (object.Cleanable c)) from h = refl
whole_in (Some (object.Guard g)) from h = refl

pub whole_part : (heap : Heap) (s from : ℕ) → None ≡ option_and_then elements_of (at heap s)
    → part_at heap from s ≡ edges_from Strong heap s
whole_part heap s from h = whole_in (at heap s) from (sym h)

none_after : (o : Option Object) (from : ℕ) → option_and_then elements_of o ≡ None → option_and_then (next_place from) o ≡ None
none_after None from h = refl
none_after (Some (object.Plain (Typed fields))) from h = refl
none_after (Some (object.Plain (Elements e))) from h = no_some e (sym h)
none_after (Some (object.Reference r)) from h = refl
none_after (Some (object.Queue members)) from h = refl
none_after (Some object.Cleaner) from h = refl
none_after (Some (object.Cleanable c)) from h = refl
none_after (Some (object.Guard g)) from h = refl

pub no_next : (heap : Heap) (s from : ℕ) → None ≡ option_and_then elements_of (at heap s) → None ≡ next_at heap from s
no_next heap s from h = sym (none_after (at heap s) from (sym h))

few_in : (o : Option Object) → option_and_then elements_of o ≡ None → ticks_in o ≤ 64
few_in None h = omega arith
few_in (Some (object.Plain (Typed fields))) h = omega arith
few_in (Some (object.Plain (Elements e))) h = no_some e (sym h)
few_in (Some (object.Reference r)) h = omega arith
few_in (Some (object.Queue members)) h = omega arith
few_in (Some object.Cleaner) h = omega arith
few_in (Some (object.Cleanable c)) h = omega arith
few_in (Some (object.Guard g)) h = omega arith

pub few_ticks : (heap : Heap) (s : ℕ) → None ≡ option_and_then elements_of (at heap s) → ticks_at heap s ≤ 64
few_ticks heap s h = few_in (at heap s) (sym h)

array_is : (o : Option Object) (e : List (Option ℕ)) → option_and_then elements_of o ≡ Some e → o ≡ Some (object.Plain (Elements e))
array_is None e h = no_some e h
array_is (Some (object.Plain (Typed fields))) e h = no_some e h
array_is (Some (object.Plain (Elements l))) e h =
    ap {A = List (Option ℕ)} {B = Option Object} (λ z. Some (object.Plain (Elements z))) (some_same l e h)
array_is (Some (object.Reference r)) e h = no_some e h
array_is (Some (object.Queue members)) e h = no_some e h
array_is (Some object.Cleaner) e h = no_some e h
array_is (Some (object.Cleanable c)) e h = no_some e h
array_is (Some (object.Guard g)) e h = no_some e h

module _ (heap : Heap) (s from : ℕ) (e : List (Option ℕ)) (lent : Some e ≡ option_and_then elements_of (at heap s)) where
  there : at heap s ≡ Some (object.Plain (Elements e))
  there = array_is (at heap s) e (sym lent)

  pub array_part : part_at heap from s ≡ linked (take 64 (drop from e))
  array_part = ap (λ o. flat_map (edges_part from) (option_to_list o)) there ∙ append-nil (linked (take 64 (drop from e)))

  pub array_next : place_after from (Elements e) ≡ next_at heap from s
  array_next = sym (ap (option_and_then (next_place from)) there)

  pub array_ticks : parts_of (Elements e) ≤ 64 → ticks_at heap s ≤ 64
  array_ticks few = subst (λ o. ticks_in o ≤ 64) (sym there) few

-- ---- Counts

-- so many elements from a place on are all of them, or 64
pub last_ones : (e : List (Option ℕ)) (from n : ℕ) → n ≡ length e - from → length e ≤ from + 64
    → take n (drop from e) ≡ take 64 (drop from e)
last_ones e from n same few =
    let long : length (drop from e) ≡ length e - from = length-drop from e in
    take_all n (drop from e) (omega (arith, long, same)) ∙ sym (take_all 64 (drop from e) (omega (arith, long, few)))

pub part_within : (e : List (Option ℕ)) (from x : ℕ) → x ∈ linked (drop from e) → x ∈ linked e
part_within e from x h = elements_all e from x h

-- what is marked already may be counted among what was shaded
pub shaded_wider : (T U : ℕ → Type 0) → ((x : ℕ) → T x → U x) → (m n : Marking) → ((x : ℕ) → U x → T x ⊎ IsMarked n x) → Shaded T m n
    → Shaded U m n
shaded_wider T U more m n marked s = record {
  long = s.long;
  kept = s.kept;
  added = λ x h. elim (s.added x h) [
    | inl old ↦ inl old
    | inr new ↦ inr (more x new.0, new.1)
  ];
  grey_kept = s.grey_kept;
  grey_marked = s.grey_marked;
  fresh = s.fresh;
  all = λ x h. elim (marked x h) [
    | inl there ↦ s.all x there
    | inr mark ↦ mark
  ];
  black_same = s.black_same;
  discovered_same = s.discovered_same;
  part_same = s.part_same;
}
