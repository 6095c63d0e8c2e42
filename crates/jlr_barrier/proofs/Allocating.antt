-- A new object keeps a heap together.
use Rattle.std.proofs.Common.{◌≡◌, ◌≤◌, ◌<◌, ◌+◌, ℕ, ◌⊎◌, inl, inr, true, false, IsTrue, [], ◌++◌, Some, None, is_some, length}
use Rattle.std.proofs.Common.{option_and_then, slice_set, refl, sym, subst, arith, ap, ◌∙◌, length-set, get_or, get_or-set_same}
use Rattle.std.proofs.Common.{get_or-set_other, count_by}
use Rattle.std.specs.List.{flat_map}
use Rattle.std.specs.Option.{option_to_list}
use Rattle.std.proofs.lemmas.Bool.{both_ways, cases_eq, false_from_ne_true}
use Rattle.jlr_machine.specs.declared.object.Contents.TheVariants.{Elements}
use Rattle.jlr_machine.specs.declared.object.Object.{Object}
use Rattle.jlr_machine.specs.declared.object.Object.TheVariants.{Plain}
use Rattle.jlr_machine.specs.Objects.{Heap, any_referent, at, set_at, ◌∈◌}
use Rattle.jlr_machine.specs.Edges.{edges_from, strong_edges, is_own_root, active_cleanables}
use Rattle.jlr_machine.specs.Edges.Chain.{Strong}
use Rattle.jlr_laws.proofs.Sets.{nothing}
use Rattle.jlr_laws.proofs.Clearing.{in_append, in_left, in_right, option_in}
use Rattle.jlr_laws.proofs.Frames.{no_some, set_same, set_other}
use Rattle.jlr_marks.specs.declared.part.Part.{Part}
use Rattle.jlr_marks.specs.Marking.{Blackened, Marking, IsMarked, is_marked, marked as count, place}
use Rattle.jlr_marks.proofs.MarkCounts.{count_marks}
use Rattle.jlr_barrier.specs.Graphs.{Clock, Graph, Known, held, with_objects}
use Rattle.jlr_barrier.specs.Parts.{IsInProgress, ahead_at, edges_ahead}
use Rattle.jlr_barrier.specs.Snapshots.{IsEdge, IsObject, RefersTo, IsSafe, IsSnapshot, IsInHand, cycle_of, FitsTogether}
use Rattle.jlr_barrier.proofs.Held.{by_session, by_name, by_pending, by_line, by_itself, held_cases}
use Rattle.jlr_barrier.proofs.OwnRoots.{active_gives, active_from}
use Rattle.jlr_barrier.proofs.Keeping.{snapshot_of_new}
use Rattle.jlr_barrier.proofs.Fitting.{marked_or_not, in_hand_safe}

module _ (k : Known) (a b s : ℕ) (p : Object) (clock : Clock) (n : Marking) (f : FitsTogether k a b) (inside : s < length k.graph.objects)
    (free : at k.graph.objects s ≡ None)
    (as_long : length clock.last_gets ≡ length k.clock.last_gets)
    (bits : n.bits ≡ slice_set k.marking.bits s true) (grey : n.grey ≡ k.marking.grey)
    (same_discovered : n.discovered ≡ k.marking.discovered)
    (same_part : n.part ≡ k.marking.part)
    (leads : (y : ℕ) → y ∈ strong_edges p → IsSafe (cycle_of k.graph k.marking) y)
    (refers : (y : ℕ) → any_referent p ≡ Some y → IsSafe (cycle_of k.graph k.marking) y) where
  abbrev old : Heap
  old = k.graph.objects

  abbrev other : Heap
  other = set_at old s p

  abbrev after : Graph
  after = with_objects k.graph other

  here : at other s ≡ Some p
  here = set_same old s (Some p) inside

  beside : (x : ℕ) → (x ≡ s → ⊥) → at other x ≡ at old x
  beside x d = set_other old s x (Some p) d

  edges_beside : (x y : ℕ) → (x ≡ s → ⊥) → y ∈ edges_from Strong other x → y ∈ edges_from Strong old x
  edges_beside x y d h = subst (λ z. y ∈ flat_map strong_edges (option_to_list z)) (beside x d) h

  none_ahead : (y : ℕ) → ¬ (y ∈ ahead_at old (place k.marking s) s)
  none_ahead y h = nothing y (subst (λ z. y ∈ flat_map (edges_ahead (place k.marking s)) (option_to_list z)) free h)

  ahead_stay : (x y : ℕ) → y ∈ ahead_at old (place k.marking x) x → y ∈ ahead_at other (place k.marking x) x
  ahead_stay x y h = elim (cases_eq x s) [
    | inl e ↦ absurd (none_ahead y (subst (λ z. y ∈ ahead_at old (place k.marking z) z) e h))
    | inr d ↦ subst (λ z. y ∈ flat_map (edges_ahead (place k.marking x)) (option_to_list z)) (sym (beside x d)) h
  ]

  still_placed : (q : Part) → IsInProgress old q → IsInProgress other q
  still_placed q i = elim (cases_eq q.slot s) [
    | inl e ↦ no_some (Plain (Elements i.elements)) (sym free ∙ ap (at old) (sym e) ∙ i.there)
    | inr d ↦ record { elements = i.elements; there = beside q.slot d ∙ i.there; parts = i.parts; whole = i.whole; more = i.more }
  ]

  edges_new : (y : ℕ) → y ∈ edges_from Strong other s → IsSafe (cycle_of k.graph k.marking) y
  edges_new y h = elim (in_append y (strong_edges p) [] (subst (λ z. y ∈ flat_map strong_edges (option_to_list z)) here h)) [
    | inl i ↦
        leads y i
    | inr none ↦ nothing y none
  ]

  within : s < length k.marking.bits
  within = omega (arith, inside, f.bits)

  black : IsMarked n s
  black = subst (λ l. get_or l s false ≡ true) (sym bits) (get_or-set_same k.marking.bits s true false within)

  kept : (x : ℕ) → IsMarked k.marking x → IsMarked n x
  kept x h = elim (cases_eq x s) [
    | inl e ↦ subst (IsMarked n) (sym e) black
    | inr d ↦ subst (λ l. get_or l x false ≡ true) (sym bits) (get_or-set_other k.marking.bits s x true false d ∙ h)
  ]

  marked : (x : ℕ) → IsMarked n x → IsMarked k.marking x ⊎ (x ≡ s)
  marked x h = elim (cases_eq x s) [
    | inl e ↦ inr e
    | inr d ↦ inl (sym (get_or-set_other k.marking.bits s x true false d) ∙ subst (λ l. get_or l x false ≡ true) bits h)
  ]

  own_root : (y : ℕ) → y ∈ active_cleanables 0 other → (y ∈ held k.graph) ⊎ (y ≡ s)
  own_root y h = elim (cases_eq y s) [
    | inl e ↦ inr e
    | inr d ↦ inl (by_itself k.graph y (active_from old y (subst (λ z. IsTrue (is_own_root z)) (beside y d) (active_gives other y h))))
  ]

  held_before : (y : ℕ) → y ∈ held after → (y ∈ held k.graph) ⊎ (y ≡ s)
  held_before y h =
      held_cases after y h
      (λ i. inl (by_session k.graph y i))
      (λ i. inl (by_name k.graph y i))
      (λ i. inl (by_pending k.graph y i))
      (λ i. inl (by_line k.graph y i))
      (own_root y)

  referents_beside : (x y : ℕ) → (x ≡ s → ⊥) → RefersTo other x y → RefersTo old x y
  referents_beside x y d h = subst (λ z. option_and_then any_referent z ≡ Some y) (beside x d) h

  referents_new : (y : ℕ) → RefersTo other s y → IsSafe (cycle_of k.graph k.marking) y
  referents_new y h = refers y (subst (λ z. option_and_then any_referent z ≡ Some y) here h)

  taken : IsSnapshot (cycle_of after (record {
    bits = n.bits;
    grey = k.marking.grey;
    discovered = k.marking.discovered;
    part = k.marking.part;
  }))
  taken =
      snapshot_of_new (cycle_of k.graph k.marking) s (IsEdge other) (λ x y. y ∈ ahead_at other (place k.marking x) x) (RefersTo other)
      (λ y. y ∈ held after) (IsMarked n) f.snapshot (marked_or_not k.marking) (marked_or_not n) kept marked black
      none_ahead edges_beside ahead_stay edges_new referents_beside referents_new (λ x. cases_eq x s) held_before

  still_objects : (x : ℕ) → IsMarked n x → IsObject other x
  still_objects x on = elim (cases_eq x s) [
    | inl e ↦ subst (λ z. IsTrue (is_some z)) (sym (ap (at other) e ∙ here)) refl
    | inr d ↦ elim (marked x on) [ inl was ↦ subst (λ z. IsTrue (is_some z)) (sym (beside x d)) (f.objects x was) | inr e ↦ absurd (d e) ]
  ]

  pub allocated : FitsTogether (record k { graph = after; clock = clock; marking = n }) a b
  allocated =
      let long : length other ≡ length old = length-set old s (Some p) in
      record {
        few = subst (λ n. n ≤ 65536) (sym long) f.few;
        bits = ap length bits ∙ length-set k.marking.bits s true ∙ f.bits ∙ sym long;
        ages = as_long ∙ f.ages ∙ sym long;
        links = subst (λ n. n ≡ a) (sym long) f.links;
        two = f.two;
        objects = still_objects;
        started = λ q e. subst (λ l. q.slot ∈ l) (sym grey) (f.started q (sym same_part ∙ e));
        placed = λ q e. still_placed q (f.placed q (sym same_part ∙ e));
        snapshot =
            subst (λ q. IsSnapshot (cycle_of after (record { bits = n.bits; grey = n.grey; discovered = n.discovered; part = q })))
            (sym same_part)
            (subst (λ d. IsSnapshot (cycle_of after (record { bits = n.bits; grey = n.grey; discovered = d; part = k.marking.part })))
            (sym same_discovered)
            (subst (λ g. IsSnapshot (cycle_of after (record {
              bits = n.bits;
              grey = g;
              discovered = k.marking.discovered;
              part = k.marking.part;
            }))) (sym grey) taken));
      }

pub allocated_in_hand : (k : Known) (a b s : ℕ) (p : Object) (clock : Clock) (n : Marking) → FitsTogether k a b → s < length k.graph.objects
    → at k.graph.objects s ≡ None → length clock.last_gets ≡ length k.clock.last_gets
    → n.bits ≡ slice_set k.marking.bits s true → n.grey ≡ k.marking.grey → n.discovered ≡ k.marking.discovered → n.part ≡ k.marking.part
    → ((y : ℕ) → y ∈ (strong_edges p ++ option_to_list (any_referent p)) → IsInHand k y)
    → FitsTogether (record k { graph = with_objects k.graph (set_at k.graph.objects s p); clock = clock; marking = n }) a b
allocated_in_hand k a b s p clock n f inside free as_long bits grey discovered part held =
    allocated k a b s p clock n f inside free as_long bits grey discovered part
    (λ y h. in_hand_safe k f.snapshot y (held y (in_left y (strong_edges p) (option_to_list (any_referent p)) h)))
    (λ y h. in_hand_safe k f.snapshot y (held y (in_right y (strong_edges p) (option_to_list (any_referent p))
    (option_in y (any_referent p) h))))

pub blackened : (k : Known) (a b s : ℕ) (n : Marking) → FitsTogether k a b → s < length k.graph.objects
    → n.bits ≡ slice_set k.marking.bits s true → n.grey ≡ k.marking.grey → n.discovered ≡ k.marking.discovered → n.part ≡ k.marking.part
    → Blackened s k.marking n
blackened k a b s n f inside bits grey discovered part =
    record {
      marked = subst (λ l. get_or l s false ≡ true) (sym bits)
          (get_or-set_same k.marking.bits s true false (omega (arith, inside, f.bits)));
      bits = bits;
      grey = grey;
      discovered = discovered;
      part = part;
    }

-- a free cell was white, so that one more is marked
pub one_more : (k : Known) (a b s : ℕ) (n : Marking) → FitsTogether k a b → s < length k.graph.objects → at k.graph.objects s ≡ None
    → n.bits ≡ slice_set k.marking.bits s true → count n ≡ count k.marking + 1
one_more k a b s n f inside free bits =
    let white : is_marked k.marking s ≡ false =
    false_from_ne_true (is_marked k.marking s) (λ on. both_ways false refl (subst (λ o. is_some o ≡ true) free (f.objects s on))) in
    ap (λ l. count_by (λ b. b) l) bits ∙ count_marks k.marking.bits s (omega (arith, inside, f.bits)) white
