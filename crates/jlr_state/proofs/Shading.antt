-- What asks do to the marks: what they mark is reached from a root or from what is marked, or is a root afterwards.
use Rattle.std.proofs.Common.{◌≡◌, ◌&&◌, not, ◌<◌, ◌+◌, ◌⊎◌, ℕ, suc, inl, inr, true, false, Bool, List, [], ◌∷◌, length, Option, Some, None}
use Rattle.std.proofs.Common.{slice_get, option_and_then, option_map, drop, nat_lt, cond, is_some, refl, sym, subst, ap, ◌∙◌, arith, get_or}
use Rattle.std.proofs.Common.{get_or-set_other}
use Rattle.std.specs.List.{flat_map}
use Rattle.std.specs.Option.{option_to_list}
use Rattle.std.proofs.lemmas.Bool.{both_ways, cases_eq, ltb-true}
use Rattle.std.proofs.lemmas.List.Sums.{sum_by-cons}
use Rattle.jlr_machine.specs.declared.object.Object.{Object}
use Rattle.jlr_machine.specs.declared.object.Object.TheVariants.{Plain, Reference, Queue, Cleaner, Cleanable, Guard}
use Rattle.jlr_machine.specs.declared.object.Cleanable.{Cleanable as CleanableOf}
use Rattle.jlr_machine.specs.declared.machine.Machine.{Machine}
use Rattle.jlr_machine.specs.declared.machine.Session.{Session}
use Rattle.jlr_machine.specs.declared.machine.Call.{Call}
use Rattle.jlr_machine.specs.Chosen.{Chosen}
use Rattle.jlr_machine.specs.Objects.{Table, Heap, at, set_at, change_at, occupied, first_free, some_and, as_members, ◌∈◌}
use Rattle.jlr_machine.specs.Calls.{with_given}
use Rattle.jlr_machine.specs.Choices.{Choosing}
use Rattle.jlr_machine.specs.Lookups.{slot_named, has_free_handle, free_handle, with_handle, with_new}
use Rattle.jlr_machine.specs.Edges.{edges_from, strong_edges, is_active, is_own_root, roots}
use Rattle.jlr_machine.specs.Edges.Chain.{Strong, UpToSoft}
use Rattle.jlr_machine.specs.Refusals.{front}
use Rattle.jlr_machine.specs.Run.{no_choice, with_collection}
use Rattle.jlr_machine.specs.WellFormed.{IsWellFormed}
use Rattle.jlr_laws.proofs.Sets.{in_front}
use Rattle.jlr_laws.proofs.Clearing.{edge_from, edge_gives, in_left}
use Rattle.jlr_laws.proofs.Frames.{no_some, some_same, set_same, place_within, is_queue_there, root_from}
use Rattle.jlr_laws.proofs.Frames.IsRoot.{held, fencing, active, waiting}
use Rattle.jlr_laws.proofs.Allowed.{and_then_gives}
use Rattle.jlr_cells.specs.Contents.{field_at, next_in}
use Rattle.jlr_marks.specs.Marking.{Marking, Blackened, IsMarked, Shaded, marked}
use Rattle.jlr_marker.specs.Marks.{Blackens}
use Rattle.jlr_types.specs.declared.FieldValue.TheVariants.{Ref}
use Rattle.jlr_state.specs.Collecting.{Allocates, FindsNoRoom, MakesRoom}
use Rattle.jlr_state.specs.Marks.{BlackensMade, BlackensOnly, IsFromMarks, MarksNew, MarksStay}
use Rattle.jlr_state.proofs.Hands.{has_session, loads}

-- ---- Where nothing is shaded

pub same_black : (old new : Marking) (fresh : List ℕ) → new ≡ old → fresh ≡ [] → Blackens (length fresh) old new
same_black old new fresh e none = omega (arith, ap marked e, ap (λ (k : Marking). length k.grey) e, ap (λ (l : List ℕ). length l) none)

stays_same : (k : Marking) → MarksStay k k
stays_same k = record { kept = λ x h. h; fresh = λ x h. inl h; part = refl }

pub same_only : (old new : Marking) (fresh : List ℕ) → new ≡ old → fresh ≡ [] → BlackensOnly (length fresh) old new
same_only old new fresh e none = (same_black old new fresh e none, subst (MarksStay old) (sym e) (stays_same old))

shaded_stays : (T : ℕ → Type 0) (old new : Marking) → Shaded T old new → MarksStay old new
shaded_stays T old new s = record { kept = s.kept; fresh = s.fresh; part = s.part_same }

made_stays : (x : ℕ) (old new : Marking) → Blackened x old new → MarksStay old new
made_stays x old new b = record {
  kept = λ s h. elim (cases_eq s x) [
    | inl e ↦ subst (IsMarked new) (sym e) b.marked
    | inr d ↦ subst (λ l. get_or l s false ≡ true) (sym b.bits) (get_or-set_other old.bits x s true false d ∙ h)
  ];
  fresh = λ s h. inl (subst (λ l. s ∈ l) b.grey h);
  part = b.part;
}

stays_then : (old mid new : Marking) → MarksStay old mid → MarksStay mid new → MarksStay old new
stays_then old mid new a b = record {
  kept = λ s h. b.kept s (a.kept s h);
  fresh = λ s h. elim (b.fresh s h) [ inl was ↦ a.fresh s was | inr white ↦ inr (λ on. white (a.kept s on)) ];
  part = b.part ∙ a.part;
}

-- where no cycle is open afterwards, nothing is to be said
pub shut_new : (m n : Machine) (old new : Marking) (chosen : Chosen) → n.cycle_open ≡ false → MarksNew m old chosen n new
shut_new m n old new chosen shut =
    record { reached = λ still. absurd (both_ways n.cycle_open shut still); blackens = λ still. absurd (both_ways n.cycle_open shut still) }

-- ---- Where something is shaded

pub shaded_new : (m n : Machine) (old new : Marking) (T : ℕ → Type 0) → Shaded T old new
    → ((s : ℕ) → T s → IsFromMarks m old s ⊎ (s ∈ roots n)) → MarksNew m old no_choice n new
shaded_new m n old new T shaded from =
    record {
      reached = λ _ s h. elim (shaded.added s h) [ inl was ↦ inl (s, inr was, ([], refl)) | inr t ↦ from s t.0 ];
      blackens = λ _. (omega (arith, shaded.black_same), shaded_stays T old new shaded);
    }

-- ---- What is reached

strong_soft : (heap : Heap) (x y : ℕ) → y ∈ edges_from Strong heap x → y ∈ edges_from UpToSoft heap x
strong_soft heap x y h =
    elim (edge_gives Strong heap x y h) [ inl e ↦ edge_from UpToSoft heap x y (inl e) | inr r ↦ absurd (both_ways false refl r.1) ]

pub by_root : (m : Machine) (k : Marking) (s : ℕ) → s ∈ roots m → IsFromMarks m k s
by_root m k s root = (s, inl root, ([], refl))

pub by_edge : (m : Machine) (k : Marking) (x s : ℕ) → x ∈ roots m → s ∈ edges_from Strong m.objects x → IsFromMarks m k s
by_edge m k x s root e = (x, inl root, (s ∷ [], (strong_soft m.objects x s e, refl)))

pub named_root : (m : Machine) (k h s : ℕ) → slot_named m k h ≡ Some s → s ∈ roots m
named_root m k h s e =
    let session = has_session (at m.mutators k) (λ x. at x.handles h) s e in
    root_from m s (held k h session.0 session.1 session.2)

-- what the field of a named object held
pub by_field : (m : Machine) (marking : Marking) (k h x f s : ℕ) → slot_named m k h ≡ Some x → field_at m.objects x f ≡ Some (Ref (Some s))
    → IsFromMarks m marking s
by_field m marking k h x f s named e = by_edge m marking x s (named_root m k h x named) (loads m.objects x f s e)

-- what a fence held
pub fence_root : (m : Machine) (k s : ℕ) → option_and_then (λ x. x.fence) (at m.mutators k) ≡ Some s → s ∈ roots m
fence_root m k s e =
    let session = has_session (at m.mutators k) (λ x. x.fence) s e in
    root_from m s (fencing k session.0 session.1 session.2)

front_in : (members : List ℕ) (s : ℕ) → front members ≡ Some s → s ∈ members
front_in [] s e = no_some s e
front_in (x ∷ members) s e = in_front s x members (sym (some_same x s e))

-- the front of a queue
pub polled_edge : (heap : Heap) (q s : ℕ) → option_and_then front (option_and_then as_members (at heap q)) ≡ Some s
    → s ∈ edges_from Strong heap q
polled_edge heap q s e =
    let members = and_then_gives front (option_and_then as_members (at heap q)) s e in
    subst (λ o. s ∈ flat_map strong_edges (option_to_list o)) (sym (is_queue_there (at heap q) members.0 members.1))
    (in_left s members.0 [] (front_in members.0 s members.2))

next_there : (o : Option Object) (s : ℕ) → next_in o ≡ Some s → s ∈ flat_map strong_edges (option_to_list o)
next_there None s e = no_some s e
next_there (Some (Plain fields)) s e = no_some s e
next_there (Some (Reference r)) s e =
    in_left s (strong_edges (Reference r)) [] (subst (λ o. s ∈ option_to_list o) (sym e) (in_front s s [] refl))
next_there (Some (Queue members)) s e = no_some s e
next_there (Some Cleaner) s e = no_some s e
next_there (Some (Cleanable c)) s e = no_some s e
next_there (Some (Guard g)) s e = in_front s g.cleanable [] (sym (some_same g.cleanable s e))

-- the queue that is ahead of a reference
pub next_edge : (heap : Heap) (x s : ℕ) → next_in (at heap x) ≡ Some s → s ∈ edges_from Strong heap x
next_edge heap x s e = next_there (at heap x) s e

-- ---- What has a handle afterwards

first_within : (n : ℕ) (table : Table ℕ) → occupied table < length table → first_free n table < n + length table
first_within n [] few = absurd (omega (arith, few))
first_within n (None ∷ places) few = omega arith
first_within n (Some x ∷ places) few =
    omega (arith, first_within (suc n) places (omega (arith, few, sum_by-cons (λ (o : Option ℕ). cond (is_some o) 1 0) (Some x) places)))

handle_within : (handles : Table ℕ) → length handles ≡ 251 → at handles 0 ≡ None → occupied handles < 250
    → first_free 1 (drop 1 handles) < length handles
handle_within [] long null few = absurd (omega (arith, long))
handle_within (None ∷ places) long null few =
    omega (arith, first_within 1 places (omega (arith, long, few, sum_by-cons (λ (o : Option ℕ). cond (is_some o) 1 0) None places)), long)
handle_within (Some x ∷ places) long null few = no_some x (sym null)

room_gives : (o : Option Session) → some_and (λ s. nat_lt (occupied s.handles) 250) o ≡ true → (s : Session) × (o ≡ Some s)
    × (occupied s.handles < 250)
room_gives None e = absurd (both_ways false refl e)
room_gives (Some s) e = (s, refl, ltb-true (occupied s.handles) 250 e)

pub given_root : (m mid : Machine) (k s : ℕ) → IsWellFormed m → mid.mutators ≡ m.mutators → has_free_handle m k ≡ true
    → s ∈ roots (with_handle mid k s)
given_root m mid k s w same room =
    let x = room_gives (at m.mutators k) room in
    let places = w.sessions.places k x.0 x.1 in
    let f : Session → Session = λ session. record session { handles = set_at session.handles (free_handle session) s } in
    let was : at mid.mutators k ≡ Some x.0 = ap (λ (t : Table Session). at t k) same ∙ x.1 in
    let there : at (change_at mid.mutators k f) k ≡ Some (f x.0) =
    set_same mid.mutators k (option_map f (at mid.mutators k)) (place_within mid.mutators k x.0 was) ∙ ap (option_map f) was in
    root_from (with_handle mid k s) s (held k (free_handle x.0) (f x.0) there
    (set_same x.0.handles (free_handle x.0) (Some s) (handle_within x.0.handles places.0 places.1 x.2)))

has_room : (b : Bool) (o : Option ℕ) (s : ℕ) → o ≡ Some s → (is_some o && not b) ≡ false → b ≡ true
has_room true o s e h = refl
has_room false o s e h = absurd (both_ways (is_some o && not false) h (ap (λ x. is_some x && not false) e))

-- what was given by a handle, if anything
pub given_option_root : (m mid n : Machine) (k s : ℕ) (target : Option ℕ) → IsWellFormed m → mid.mutators ≡ m.mutators
    → (is_some target && not (has_free_handle m k)) ≡ false → n ≡ with_given mid k target → target ≡ Some s → s ∈ roots n
given_option_root m mid n k s target w same room left e =
    subst (λ (x : Machine). s ∈ roots x) (sym (left ∙ ap (with_given mid k) e))
    (given_root m mid k s w same (has_room (has_free_handle m k) target s e room))

-- ---- What is made

black_or : (x : ℕ) (old new : Marking) → Blackened x old new → (s : ℕ) → IsMarked new s → IsMarked old s ⊎ (s ≡ x)
black_or x old new b s h = elim (cases_eq s x) [
  | inl e ↦ inr e
  | inr d ↦ inl (sym (get_or-set_other old.bits x s true false d) ∙ subst (λ l. get_or l s false ≡ true) b.bits h)
]

made_new : (m n : Machine) (old new : Marking) (chosen : Chosen) (slot : ℕ) → Blackened slot old new → marked new ≡ marked old + 1
    → chosen.fresh ≡ slot ∷ [] → slot ∈ roots n → MarksNew m old chosen n new
made_new m n old new chosen slot b count fresh root =
    record {
      reached = λ _ s h. elim (black_or slot old new b s h) [
        | inl was ↦ inl (s, inr was, ([], refl))
        | inr e ↦
            inr (subst (λ x. x ∈ roots n) (sym e) root)
      ];
      blackens = λ _. (
        omega (arith, count, ap (λ (l : List ℕ). length l) b.grey, ap (λ (l : List ℕ). length l) fresh),
        made_stays slot old new b,
      );
    }

-- a new object that has a handle afterwards
pub given_new : (m mid held_by n : Machine) (o : Object) (old new : Marking) (choice : Choosing) (k slot : ℕ) → IsWellFormed m
    → Allocates m o choice slot mid → BlackensMade choice.chosen slot old new → has_free_handle m k ≡ true
    → held_by.mutators ≡ mid.mutators → held_by.cycle_open ≡ mid.cycle_open → n ≡ with_handle held_by k slot
    → MarksNew m old choice.chosen n new
given_new m mid held_by n o old new choice k slot w a black room same_mutators same_cycle left =
    elim choice.chosen.collected as (λ x. choice.chosen.collected ≡ x → mid ≡ with_new (with_collection m x) slot o
    → MarksNew m old choice.chosen n new) [
      | None ↦ λ none made.
          let b = black none in
          let mutators : held_by.mutators ≡ m.mutators = same_mutators ∙ ap (λ (x : Machine). x.mutators) made in
          made_new m n old new choice.chosen slot b.0 b.1 a.fresh
          (subst (λ (x : Machine). slot ∈ roots x) (sym left) (given_root m held_by k slot w mutators room))
      | Some c ↦ λ some made. shut_new m n old new choice.chosen
          (ap (λ (x : Machine). x.cycle_open) left ∙ same_cycle ∙ ap (λ (x : Machine). x.cycle_open) made)
    ] refl a.left

-- where too little room was made
pub full_new : (m n : Machine) (cells : ℕ) (old new : Marking) (choice : Choosing) → FindsNoRoom m cells choice n
    → MarksNew m old choice.chosen n new
full_new m n cells old new choice f = shut_new m n old new choice.chosen (ap (λ (x : Machine). x.cycle_open) f.left)

-- a guard and its cleanable
pub placed_new : (m n : Machine) (old mid new : Marking) (chosen : Chosen) (guard place : ℕ) → Blackened place old mid
    → Blackened guard mid new → marked new ≡ marked old + 2 → chosen.fresh ≡ guard ∷ place ∷ []
    → guard ∈ roots n → place ∈ roots n → MarksNew m old chosen n new
placed_new m n old mid new chosen guard place first second count fresh guard_root place_root =
    record {
      reached = λ _ s h. elim (black_or guard mid new second s h) [
        | inr e ↦ inr (subst (λ x. x ∈ roots n) (sym e) guard_root)
        | inl h ↦ elim (black_or place old mid first s h) [
          | inl was ↦ inl (s, inr was, ([], refl))
          | inr e ↦
              inr (subst (λ x. x ∈ roots n) (sym e) place_root)
        ]
      ];
      blackens = λ _. (
        omega (
          arith,
          count,
          ap (λ (l : List ℕ). length l) first.grey,
          ap (λ (l : List ℕ). length l) second.grey,
          ap (λ (l : List ℕ). length l) fresh,
        ),
        stays_then old mid new (made_stays place old mid first) (made_stays guard mid new second),
      );
    }

-- the fence of a mutator that is there is a root
pub fenced_root : (n : Machine) (k s : ℕ) (session : Session) (call : Call) (mutators : Table Session) → at mutators k ≡ Some session
    → n.mutators ≡ change_at mutators k (λ session. record session { fence = Some s; call = call }) → s ∈ roots n
fenced_root n k s session call mutators was left =
    let f : Session → Session = λ session. record session { fence = Some s; call = call } in
    let there : at n.mutators k ≡ Some (f session) = ap (λ (t : Table Session). at t k) left
    ∙ set_same mutators k (option_map f (at mutators k)) (place_within mutators k session was) ∙ ap (option_map f) was in
    root_from n s (fencing k (f session) there refl)

-- so is a cleanable that is Armed or Pending
pub active_root : (n : Machine) (s : ℕ) (c : CleanableOf) → at n.objects s ≡ Some (Cleanable c) → is_active c.state ≡ true → s ∈ roots n
active_root n s c there on = root_from n s (active (subst (λ o. is_own_root o ≡ true) (sym there) on))

-- after room was made, as before it
pub room_new : (m mid n : Machine) (cells : ℕ) (old kept new : Marking) (before after : Choosing) (chosen : Chosen)
    → MakesRoom m cells before after mid → (after.chosen.collected ≡ None → kept ≡ old) → n.cycle_open ≡ mid.cycle_open
    → MarksNew mid kept chosen n new → MarksNew m old chosen n new
room_new m mid n cells old kept new before after chosen made same cycle marks =
    elim after.chosen.collected as (λ x. after.chosen.collected ≡ x → mid ≡ with_collection m x → MarksNew m old chosen n new) [
      | None ↦ λ none left. subst (λ (x : Machine). MarksNew x old chosen n new) left
          (subst (λ k. MarksNew mid k chosen n new) (same none) marks)
      | Some c ↦ λ some left. shut_new m n old new chosen (cycle ∙ ap (λ (x : Machine). x.cycle_open) left)
    ] refl made.left

-- what is at the front of the pending list
front_there : (l : List ℕ) (x : ℕ) → slice_get l 0 ≡ Some x → x ∈ l
front_there [] x e = no_some x e
front_there (y ∷ l) x e = in_front x y l (sym (some_same y x e))

pub pending_queue : (m : Machine) (k : Marking) (s : ℕ) → option_and_then (λ x. next_in (at m.objects x)) (slice_get m.pending 0) ≡ Some s
    → IsFromMarks m k s
pending_queue m k s e =
    let x = and_then_gives (λ x. next_in (at m.objects x)) (slice_get m.pending 0) s e in
    by_edge m k x.0 s (root_from m x.0 (waiting (front_there m.pending x.0 x.1))) (next_edge m.objects x.0 s x.2)
