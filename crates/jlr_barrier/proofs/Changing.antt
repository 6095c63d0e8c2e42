-- More marks, and another object at a slot, keep a heap together.
use Rattle.std.proofs.Common.{◌≡◌, ◌≤◌, ◌<◌, ℕ, ◌⊎◌, inl, inr, Bool, false, IsTrue, List, [], Option, Some, None, length, slice_set}
use Rattle.std.proofs.Common.{is_some, option_and_then, option_map, refl, sym, subst, ap, ◌∙◌, length-set}
use Rattle.std.specs.List.{flat_map}
use Rattle.std.specs.Option.{option_to_list}
use Rattle.std.proofs.lemmas.Bool.{both_ways, cases_eq}
use Rattle.jlr_machine.specs.declared.object.Contents.{Contents}
use Rattle.jlr_machine.specs.declared.object.Contents.TheVariants.{Elements}
use Rattle.jlr_machine.specs.declared.object.Object.{Object}
use Rattle.jlr_machine.specs.declared.object.Object.TheVariants.{Plain, Reference, Queue, Cleaner, Cleanable, Guard}
use Rattle.jlr_machine.specs.Objects.{Heap, any_referent, as_fields, at, change_at, some_and, ◌∈◌}
use Rattle.jlr_machine.specs.Edges.{strong_edges, is_own_root, active_cleanables}
use Rattle.jlr_laws.proofs.Sets.{nothing}
use Rattle.jlr_laws.proofs.Clearing.{in_append, in_left}
use Rattle.jlr_laws.proofs.Frames.{no_some, set_same, set_other, some_same, place_within}
use Rattle.jlr_marks.specs.declared.part.Part.{Part}
use Rattle.jlr_marks.specs.Marking.{Marking, IsMarked, Shaded, place, place_in}
use Rattle.jlr_barrier.specs.Graphs.{Graph, Known, held, with_objects}
use Rattle.jlr_barrier.specs.Parts.{IsInProgress, ahead_at, edges_ahead}
use Rattle.jlr_barrier.specs.Snapshots.{IsEdge, IsObject, RefersTo, IsSafe, IsSnapshot, cycle_of, FitsTogether}
use Rattle.jlr_barrier.proofs.Held.{by_session, by_name, by_pending, by_line, by_itself, held_cases}
use Rattle.jlr_barrier.proofs.OwnRoots.{active_gives, active_from}
use Rattle.jlr_barrier.proofs.Keeping.{snapshot_of_changed, snapshot_of_shaded}
use Rattle.jlr_barrier.proofs.Fitting.{marked_or_not, whole_of}

-- ---- More marks

still_ahead : (heap : Heap) (m n : Marking) (x y : ℕ) → n.part ≡ m.part → y ∈ ahead_at heap (place m x) x → y ∈ ahead_at heap (place n x) x
still_ahead heap m n x y same h = subst (λ q. y ∈ ahead_at heap (place_in q x) x) (sym same) h

pub snapshot_shaded : (T : ℕ → Type 0) (g : Graph) (m n : Marking) → IsSnapshot (cycle_of g m) → Shaded T m n → IsSnapshot (cycle_of g n)
snapshot_shaded T g m n i s =
    snapshot_of_shaded (cycle_of g m) (λ x y. y ∈ ahead_at g.objects (place n x) x) (IsMarked n) (λ x. x ∈ n.grey) (λ x. x ∈ n.discovered) i
    (marked_or_not m) (marked_or_not n) s.kept
    (λ x on. elim (s.added x on) [ inl was ↦ inl was | inr new ↦ inr new.1 ])
    (λ x h. elim (s.grey_marked x h) [ inl was ↦ s.kept x (i.grey x was) | inr on ↦ on ])
    (λ x y h e. inl (s.grey_kept x h, still_ahead g.objects m n x y s.part_same e))
    (λ x y white e. still_ahead g.objects m n x y s.part_same e)
    (λ x d. subst (λ l. x ∈ l) (sym s.discovered_same) d)
    (λ x y h q. inl (s.grey_kept x h))

pub objects_shaded : (T : ℕ → Type 0) (heap : Heap) (m n : Marking) → ((x : ℕ) → IsMarked m x → IsObject heap x)
    → ((x : ℕ) → T x → IsObject heap x) → Shaded T m n → (x : ℕ) → IsMarked n x → IsObject heap x
objects_shaded T heap m n was there s x on = elim (s.added x on) [ inl o ↦ was x o | inr new ↦ there x new.0 ]

pub more_marks : (T : ℕ → Type 0) (k : Known) (a b : ℕ) (n : Marking) → FitsTogether k a b → ((x : ℕ) → T x → IsObject k.graph.objects x)
    → Shaded T k.marking n → FitsTogether (record k { marking = n }) a b
more_marks T k a b n f there s =
    record {
      few = f.few;
      bits = s.long ∙ f.bits;
      ages = f.ages;
      links = f.links;
      two = f.two;
      objects = objects_shaded T k.graph.objects k.marking n f.objects there s;
      started = λ p e. s.grey_kept p.slot (f.started p (sym s.part_same ∙ e));
      placed = λ p e. f.placed p (sym s.part_same ∙ e);
      snapshot = snapshot_shaded T k.graph k.marking n f.snapshot s;
    }

edges_here : (heap : Heap) (x y : ℕ) (o : Object) → at heap x ≡ Some o → IsEdge heap x y → y ∈ strong_edges o
edges_here heap x y o e h = elim (in_append y (strong_edges o) [] (subst (λ z. y ∈ flat_map strong_edges (option_to_list z)) e h)) [
  | inl a ↦
      a
  | inr n ↦ nothing y n
]

edges_there : (heap : Heap) (x y : ℕ) (o : Object) → at heap x ≡ Some o → y ∈ strong_edges o → IsEdge heap x y
edges_there heap x y o e h = subst (λ z. y ∈ flat_map strong_edges (option_to_list z)) (sym e) (in_left y (strong_edges o) [] h)

ahead_here : (heap : Heap) (x y from : ℕ) (o : Object) → at heap x ≡ Some o → y ∈ ahead_at heap from x → y ∈ edges_ahead from o
ahead_here heap x y from o e h = elim (in_append y (edges_ahead from o) []
    (subst (λ z. y ∈ flat_map (edges_ahead from) (option_to_list z)) e h)) [ inl a ↦ a | inr n ↦ nothing y n ]

ahead_there : (heap : Heap) (x y from : ℕ) (o : Object) → at heap x ≡ Some o → y ∈ edges_ahead from o → y ∈ ahead_at heap from x
ahead_there heap x y from o e h =
    subst (λ z. y ∈ flat_map (edges_ahead from) (option_to_list z)) (sym e) (in_left y (edges_ahead from o) [] h)

-- ---- Another object at s

module _ (k : Known) (a b s : ℕ) (o p : Object) (f : FitsTogether k a b) (there : at k.graph.objects s ≡ Some o)
    (gained : (y : ℕ) → y ∈ strong_edges p → (y ∈ strong_edges o) ⊎ IsSafe (cycle_of k.graph k.marking) y)
    (ahead : (from y : ℕ) → y ∈ edges_ahead from o → (y ∈ edges_ahead from p) ⊎ IsMarked k.marking y)
    (array : (e : List (Option ℕ)) → o ≡ Plain (Elements e) → (l : List (Option ℕ)) × (p ≡ Plain (Elements l)) × (length l ≡ length e))
    (refers : (y : ℕ) → any_referent p ≡ Some y → (any_referent o ≡ Some y) ⊎ IsSafe (cycle_of k.graph k.marking) y)
    (own : IsTrue (is_own_root (Some p)) → IsTrue (is_own_root (Some o)) ⊎ IsSafe (cycle_of k.graph k.marking) s) where
  abbrev old : Heap
  old = k.graph.objects

  abbrev pub other : Heap
  other = slice_set old s (Some p)

  here : at other s ≡ Some p
  here = set_same old s (Some p) (place_within old s o there)

  beside : (x : ℕ) → (x ≡ s → ⊥) → at other x ≡ at old x
  beside x d = set_other old s x (Some p) d

  edges_beside : (x y : ℕ) → (x ≡ s → ⊥) → IsEdge other x y → IsEdge old x y
  edges_beside x y d h = subst (λ z. y ∈ flat_map strong_edges (option_to_list z)) (beside x d) h

  edges_gained : (x y : ℕ) → IsEdge other x y → IsEdge old x y ⊎ IsSafe (cycle_of k.graph k.marking) y
  edges_gained x y h = elim (cases_eq x s) [
    | inl e ↦ elim (gained y (edges_here other s y p here (subst (λ z. IsEdge other z y) e h))) [
      | inl was ↦ inl (subst (λ z. IsEdge old z y) (sym e) (edges_there old s y o there was))
      | inr new ↦ inr new
    ]
    | inr d ↦ inl (edges_beside x y d h)
  ]

  ahead_lost : (x y : ℕ) → y ∈ ahead_at old (place k.marking x) x → (y ∈ ahead_at other (place k.marking x) x) ⊎ IsMarked k.marking y
  ahead_lost x y h = elim (cases_eq x s) [
    | inl e ↦ elim (ahead (place k.marking x) y (ahead_here old s y (place k.marking x) o there
        (subst (λ z. y ∈ ahead_at old (place k.marking x) z) e h))) [
          | inl still ↦ inl (subst (λ z. y ∈ ahead_at other (place k.marking x) z) (sym e)
              (ahead_there other s y (place k.marking x) p here still))
          | inr on ↦ inr on
        ]
    | inr d ↦ inl (subst (λ z. y ∈ flat_map (edges_ahead (place k.marking x)) (option_to_list z)) (sym (beside x d)) h)
  ]

  still_placed : (q : Part) → IsInProgress old q → IsInProgress other q
  still_placed q i = elim (cases_eq q.slot s) [
    | inl e ↦
        let was : o ≡ Plain (Elements i.elements) = some_same o (Plain (Elements i.elements)) (sym there ∙ ap (at old) (sym e) ∙ i.there) in
        let now = array i.elements was in
        record {
          elements = now.0;
          there = ap (at other) e ∙ here ∙ ap (λ z. Some z) now.1;
          parts = i.parts;
          whole = i.whole;
          more = subst (λ n. q.place < n) (sym now.2) i.more;
        }
    | inr d ↦ record { elements = i.elements; there = beside q.slot d ∙ i.there; parts = i.parts; whole = i.whole; more = i.more }
  ]

  referents_gained : (x y : ℕ) → RefersTo other x y → RefersTo old x y ⊎ IsSafe (cycle_of k.graph k.marking) y
  referents_gained x y h = elim (cases_eq x s) [
    | inl e ↦ elim (refers y (subst (λ z. option_and_then any_referent z ≡ Some y) (ap (at other) e ∙ here) h)) [
      | inl was ↦ inl (subst (λ z. option_and_then any_referent z ≡ Some y) (sym (ap (at old) e ∙ there)) was)
      | inr safe ↦ inr safe
    ]
    | inr d ↦ inl (subst (λ z. option_and_then any_referent z ≡ Some y) (beside x d) h)
  ]

  abbrev after : Graph
  after = with_objects k.graph other

  own_root : (y : ℕ) → y ∈ active_cleanables 0 other → (y ∈ held k.graph) ⊎ IsSafe (cycle_of k.graph k.marking) y
  own_root y h = elim (cases_eq y s) [
    | inl e ↦ elim (own (subst (λ z. IsTrue (is_own_root z)) (ap (at other) e ∙ here) (active_gives other y h))) [
      | inl was ↦ inl (by_itself k.graph y (active_from old y (subst (λ z. IsTrue (is_own_root z)) (sym (ap (at old) e ∙ there)) was)))
      | inr safe ↦ inr (subst (IsSafe (cycle_of k.graph k.marking)) (sym e) safe)
    ]
    | inr d ↦ inl (by_itself k.graph y (active_from old y (subst (λ z. IsTrue (is_own_root z)) (beside y d) (active_gives other y h))))
  ]

  held_before : (y : ℕ) → y ∈ held after → (y ∈ held k.graph) ⊎ IsSafe (cycle_of k.graph k.marking) y
  held_before y h =
      held_cases after y h
      (λ i. inl (by_session k.graph y i))
      (λ i. inl (by_name k.graph y i))
      (λ i. inl (by_pending k.graph y i))
      (λ i. inl (by_line k.graph y i))
      (own_root y)

  still_objects : (x : ℕ) → IsMarked k.marking x → IsObject other x
  still_objects x on = elim (cases_eq x s) [
    | inl e ↦ subst (λ z. IsTrue (is_some z)) (sym (ap (at other) e ∙ here)) refl
    | inr d ↦ subst (λ z. IsTrue (is_some z)) (sym (beside x d)) (f.objects x on)
  ]

  pub other_object : FitsTogether (record k { graph = after }) a b
  other_object =
      let long : length other ≡ length old = length-set old s (Some p) in
      record {
        few = subst (λ n. n ≤ 65536) (sym long) f.few;
        bits = f.bits ∙ sym long;
        ages = f.ages ∙ sym long;
        links = subst (λ n. n ≡ a) (sym long) f.links;
        two = f.two;
        objects = still_objects;
        started = f.started;
        placed = λ q e. still_placed q (f.placed q e);
        snapshot =
            snapshot_of_changed (cycle_of k.graph k.marking) (IsEdge other) (λ x y. y ∈ ahead_at other (place k.marking x) x)
            (RefersTo other) (λ y. y ∈ held after) f.snapshot (λ x y on e. edges_gained x y e) ahead_lost
            (whole_of other k.marking f.started f.snapshot.grey) (λ x y on q. referents_gained x y q) held_before;
      }

-- ---- The object at s changed by g

-- what a change of an object may do: strong edges and referents that it gains lead to what is safe, strong edges from any place on that it
-- loses led to what is marked, an array has as many elements, and it is a root by itself only if it was one or is safe
pub record Keeps (k : Known) (s : ℕ) (o p : Object) : Type 0 where
  pub gained : (y : ℕ) → y ∈ strong_edges p → (y ∈ strong_edges o) ⊎ IsSafe (cycle_of k.graph k.marking) y
  pub ahead : (from y : ℕ) → y ∈ edges_ahead from o → (y ∈ edges_ahead from p) ⊎ IsMarked k.marking y
  pub array : (e : List (Option ℕ)) → o ≡ Plain (Elements e) → (l : List (Option ℕ)) × (p ≡ Plain (Elements l)) × (length l ≡ length e)
  pub refers : (y : ℕ) → any_referent p ≡ Some y → (any_referent o ≡ Some y) ⊎ IsSafe (cycle_of k.graph k.marking) y
  pub own : IsTrue (is_own_root (Some p)) → IsTrue (is_own_root (Some o)) ⊎ IsSafe (cycle_of k.graph k.marking) s

changed_there : (k : Known) (a b s : ℕ) (g : Object → Object) → FitsTogether k a b
    → ((o : Object) → at k.graph.objects s ≡ Some o → Keeps k s o (g o))
    → (o : Option Object) → at k.graph.objects s ≡ o → IsTrue (is_some o)
    → FitsTogether (record k { graph = with_objects k.graph (change_at k.graph.objects s g) }) a b
changed_there k a b s g f keeps None e h = absurd (both_ways false refl h)
changed_there k a b s g f keeps (Some o) e h =
    let c = keeps o e in
    subst (λ z. FitsTogether (record k { graph = with_objects k.graph (slice_set k.graph.objects s (option_map g z)) }) a b) (sym e)
    (other_object k a b s o (g o) f e c.gained c.ahead c.array c.refers c.own)

pub changed_object : (k : Known) (a b s : ℕ) (g : Object → Object) → FitsTogether k a b
    → ((o : Object) → at k.graph.objects s ≡ Some o → Keeps k s o (g o)) → IsObject k.graph.objects s
    → FitsTogether (record k { graph = with_objects k.graph (change_at k.graph.objects s g) }) a b
changed_object k a b s g f keeps there = changed_there k a b s g f keeps (at k.graph.objects s) refl there

-- ---- An object whose fields or elements are as before, changed by g

plain_is : (p : Object) (c : Contents) → as_fields p ≡ Some c → p ≡ Plain c
plain_is (Plain d) c e = ap {A = Contents} {B = Object} (λ z. Plain z) (some_same d c e)
plain_is (Reference r) c e = no_some c e
plain_is (Queue members) c e = no_some c e
plain_is Cleaner c e = no_some c e
plain_is (Cleanable d) c e = no_some c e
plain_is (Guard g) c e = no_some c e

no_fields_ahead : (p : Object) (from : ℕ) → as_fields p ≡ None → edges_ahead from p ≡ strong_edges p
no_fields_ahead (Plain c) from e = no_some c (sym e)
no_fields_ahead (Reference r) from e = refl
no_fields_ahead (Queue members) from e = refl
no_fields_ahead Cleaner from e = refl
no_fields_ahead (Cleanable c) from e = refl
no_fields_ahead (Guard g) from e = refl

module _ (M : ℕ → Type 0) (p : Object) where
  still_ahead_of : (o : Object) (from y : ℕ) → as_fields p ≡ None → (y ∈ strong_edges p) ⊎ M y → (y ∈ edges_ahead from p) ⊎ M y
  still_ahead_of o from y e (inl still) = inl (subst (λ l. y ∈ l) (sym (no_fields_ahead p from e)) still)
  still_ahead_of o from y e (inr on) = inr on

  lost_ahead : (o : Object) → as_fields p ≡ as_fields o → ((y : ℕ) → y ∈ strong_edges o → (y ∈ strong_edges p) ⊎ M y) → (from y : ℕ)
      → y ∈ edges_ahead from o → (y ∈ edges_ahead from p) ⊎ M y
  lost_ahead (Plain c) e lost from y h = inl (subst (λ z. y ∈ edges_ahead from z) (sym (plain_is p c e)) h)
  lost_ahead (Reference r) e lost from y h = still_ahead_of (Reference r) from y e (lost y h)
  lost_ahead (Queue members) e lost from y h = still_ahead_of (Queue members) from y e (lost y h)
  lost_ahead Cleaner e lost from y h = still_ahead_of Cleaner from y e (lost y h)
  lost_ahead (Cleanable c) e lost from y h = still_ahead_of (Cleanable c) from y e (lost y h)
  lost_ahead (Guard g) e lost from y h = still_ahead_of (Guard g) from y e (lost y h)

pub record Alters (k : Known) (s : ℕ) (o p : Object) : Type 0 where
  pub fields : as_fields p ≡ as_fields o
  pub gained : (y : ℕ) → y ∈ strong_edges p → (y ∈ strong_edges o) ⊎ IsSafe (cycle_of k.graph k.marking) y
  pub lost : (y : ℕ) → y ∈ strong_edges o → (y ∈ strong_edges p) ⊎ IsMarked k.marking y
  pub refers : (y : ℕ) → any_referent p ≡ Some y → (any_referent o ≡ Some y) ⊎ IsSafe (cycle_of k.graph k.marking) y
  pub own : IsTrue (is_own_root (Some p)) → IsTrue (is_own_root (Some o)) ⊎ IsSafe (cycle_of k.graph k.marking) s

pub altered_object : (k : Known) (a b s : ℕ) (g : Object → Object) → FitsTogether k a b
    → ((o : Object) → at k.graph.objects s ≡ Some o → Alters k s o (g o)) → IsObject k.graph.objects s
    → FitsTogether (record k { graph = with_objects k.graph (change_at k.graph.objects s g) }) a b
altered_object k a b s g f alters there =
    changed_object k a b s g f
    (λ o e.
    let c = alters o e in
    record {
      gained = c.gained;
      ahead = lost_ahead (IsMarked k.marking) (g o) o c.fields c.lost;
      array = λ l is. (l, plain_is (g o) (Elements l) (c.fields ∙ ap as_fields is), refl);
      refers = c.refers;
      own = c.own;
    })
    there

-- ---- With the same strong edges, no new referent, and no root by itself that was none

pub record Retouches (g : Object → Object) : Type 0 where
  pub fields : (o : Object) → as_fields (g o) ≡ as_fields o
  pub edges : (o : Object) → strong_edges (g o) ≡ strong_edges o
  pub refers : (o : Object) (y : ℕ) → any_referent (g o) ≡ Some y → any_referent o ≡ Some y
  pub own : (o : Object) → IsTrue (is_own_root (Some (g o))) → IsTrue (is_own_root (Some o))

pub retouched_object : (k : Known) (a b s : ℕ) (g : Object → Object) → FitsTogether k a b → Retouches g → IsObject k.graph.objects s
    → FitsTogether (record k { graph = with_objects k.graph (change_at k.graph.objects s g) }) a b
retouched_object k a b s g f r =
    altered_object k a b s g f
    (λ o e. record {
      fields = r.fields o;
      gained = λ y h. inl (subst (λ l. y ∈ l) (r.edges o) h);
      lost = λ y h. inl (subst (λ l. y ∈ l) (sym (r.edges o)) h);
      refers = λ y h. inl (r.refers o y h);
      own = λ h. inl (r.own o h);
    })

pub there_is : (test : Object → Bool) (o : Option Object) → IsTrue (some_and test o) → IsTrue (is_some o)
there_is test None h = absurd (both_ways false refl h)
there_is test (Some o) h = refl
