-- Changes of a heap keep it together.
use Rattle.std.proofs.Common.{◌≡◌, ◌<◌, ℕ, ◌⊎◌, inl, inr, Bool, true, false, IsTrue, is_some, List, [], ◌∷◌, ◌++◌, Some, None, length, drop}
use Rattle.std.proofs.Common.{zero, suc, slice_set, arith, refl, sym, subst, ap, ◌∙◌, length-set, get_or-set_same, get_or-set_other}
use Rattle.std.proofs.lemmas.Bool.{both_ways}
use Rattle.jlr_machine.specs.declared.machine.Session.{Session}
use Rattle.jlr_machine.specs.declared.machine.Binding.{Binding}
use Rattle.jlr_machine.specs.Objects.{Table, Heap, at, ◌∈◌}
use Rattle.jlr_machine.specs.Edges.Chain.{Strong}
use Rattle.jlr_machine.specs.Reachable.{IsPath}
use Rattle.jlr_laws.proofs.Sets.{nothing, in_cons, in_rest}
use Rattle.jlr_laws.proofs.Clearing.{in_append}
use Rattle.jlr_links.specs.Lists.{list_at}
use Rattle.jlr_marks.specs.declared.part.Part.{Part}
use Rattle.jlr_marks.specs.Marking.{Marking, IsMarked, is_marked, place}
use Rattle.jlr_roots.specs.Walk.{slots_held}
use Rattle.jlr_roots.specs.Naming.{named}
use Rattle.jlr_barrier.specs.Graphs.{Clock, Graph, Known, held}
use Rattle.jlr_laws.proofs.Frames.{place_within}
use Rattle.jlr_barrier.specs.Snapshots.{IsEdge, IsObject, RefersTo, IsSafe, IsSnapshot, cycle_of, IsInHand, FitsTogether}
use Rattle.jlr_barrier.specs.Parts.{ahead_at}
use Rattle.jlr_barrier.proofs.Parts.{edge_ahead, not_begun}
use Rattle.jlr_barrier.proofs.Held.{by_session, by_name, by_pending, by_line, by_itself, held_cases}
use Rattle.jlr_barrier.proofs.Keeping.{safe_along, snapshot_of_changed}

pub is_or_not : (b : Bool) → (b ≡ true) ⊎ (¬ (b ≡ true))
is_or_not true = inl refl
is_or_not false = inr (λ e. both_ways false refl e)

pub marked_or_not : (m : Marking) (x : ℕ) → IsMarked m x ⊎ (¬ (IsMarked m x))
marked_or_not m x = is_or_not (is_marked m x)

-- an object lies within the heap
pub object_within : (heap : Heap) (s : ℕ) → IsObject heap s → s < length heap
object_within heap s h = elim (at heap s) as (λ o. at heap s ≡ o → IsTrue (is_some o) → s < length heap) [
  | None ↦
      λ e h. absurd (both_ways false refl h)
  | Some o ↦ λ e h. place_within heap s o e
] refl h

-- ---- Of what is not grey no part was followed

-- the array in progress is grey
abbrev pub Starts : Marking → Type 0
Starts m = (p : Part) → m.part ≡ Some p → p.slot ∈ m.grey

not_grey_place : (m : Marking) → Starts m → (x : ℕ) → (x ∈ m.grey → ⊥) → place m x ≡ 0
not_grey_place m started x off = not_begun m.part x (λ p e same. off (subst (λ s. s ∈ m.grey) same (started p e)))

-- so all its edges are ahead
pub not_grey_ahead : (heap : Heap) (m : Marking) → Starts m → (x y : ℕ) → (x ∈ m.grey → ⊥) → IsEdge heap x y
    → y ∈ ahead_at heap (place m x) x
not_grey_ahead heap m started x y off e = subst (λ q. y ∈ ahead_at heap q x) (sym (not_grey_place m started x off)) (edge_ahead heap x y e)

-- what is marked is looked at again, or all its edges are ahead
pub whole_of : (heap : Heap) (m : Marking) → Starts m → ((x : ℕ) → x ∈ m.grey → IsMarked m x) → (x y : ℕ) → IsEdge heap x y → IsMarked m x
    ⊎ (y ∈ ahead_at heap (place m x) x)
whole_of heap m started grey x y e =
    elim (marked_or_not m x) [ inl on ↦ inl on | inr off ↦ inr (not_grey_ahead heap m started x y (λ g. off (grey x g)) e) ]

-- ---- What is in hand is safe

path_safe : (g : Graph) (m : Marking) → IsSnapshot (cycle_of g m) → (x : ℕ) (path : List ℕ) (y : ℕ) → IsSafe (cycle_of g m) x
    → IsPath Strong g.objects x path y → IsSafe (cycle_of g m) y
path_safe g m i x [] y s p = subst (IsSafe (cycle_of g m)) p s
path_safe g m i x (z ∷ path) y s p = path_safe g m i z path y (safe_along (cycle_of g m) (marked_or_not m) i x z s p.0) p.1

pub in_hand_safe : (k : Known) → IsSnapshot (cycle_of k.graph k.marking) → (y : ℕ) → IsInHand k y → IsSafe (cycle_of k.graph k.marking) y
in_hand_safe k i y (inl on) = inl on
in_hand_safe k i y (inr r) = path_safe k.graph k.marking i r.0 r.2.0 y (i.roots r.0 r.1) r.2.1

-- ---- Other roots, the same objects and marks

pub other_roots : (k : Known) (a b c d : ℕ) (mutators : Table Session) (names : List Binding) (pending line : List ℕ) → FitsTogether k a b
    → ((y : ℕ) → y ∈ held (record k.graph { mutators = mutators; names = names; pending = pending; line = line }) → (y ∈ held k.graph)
    ⊎ IsSafe (cycle_of k.graph k.marking) y)
    → length k.graph.objects ≡ c → d ≡ 2
    → FitsTogether (record k { graph = record k.graph { mutators = mutators; names = names; pending = pending; line = line } }) c d
other_roots k a b c d mutators names pending line f roots rc rd =
    record {
      few = f.few;
      bits = f.bits;
      ages = f.ages;
      links = rc;
      two = rd;
      objects = f.objects;
      started = f.started;
      placed = f.placed;
      snapshot =
          snapshot_of_changed (cycle_of k.graph k.marking) (IsEdge k.graph.objects)
          (λ x y. y ∈ ahead_at k.graph.objects (place k.marking x) x) (RefersTo k.graph.objects)
          (λ y. y ∈ held (record k.graph { mutators = mutators; names = names; pending = pending; line = line })) f.snapshot
          (λ x y m e. inl e) (λ x y e. inl e) f.snapshot.whole (λ x y m q. inl q) roots;
    }

-- ---- Two lists by number

pub first_set : (ls : List (List ℕ)) (l : List ℕ) → length ls ≡ 2 → list_at (slice_set ls 0 l) 0 ≡ l
first_set ls l two = get_or-set_same ls 0 l [] (omega (arith, two))

pub second_set : (ls : List (List ℕ)) (l : List ℕ) → length ls ≡ 2 → list_at (slice_set ls 1 l) 1 ≡ l
second_set ls l two = get_or-set_same ls 1 l [] (omega (arith, two))

pub first_kept : (ls : List (List ℕ)) (l : List ℕ) → list_at (slice_set ls 1 l) 0 ≡ list_at ls 0
first_kept ls l = get_or-set_other ls 1 0 l [] (λ e. absurd cc)

pub second_kept : (ls : List (List ℕ)) (l : List ℕ) → list_at (slice_set ls 0 l) 1 ≡ list_at ls 1
second_kept ls l = get_or-set_other ls 0 1 l [] (λ e. absurd cc)

-- what stands in neither of two lists stands in none
pub in_no_list : (ls : List (List ℕ)) (s : ℕ) → length ls ≡ 2 → ¬ (s ∈ list_at ls 0) → ¬ (s ∈ list_at ls 1) → (k : ℕ) → s ∈ list_at ls k → ⊥
in_no_list ls s two first second zero h = first h
in_no_list ls s two first second (suc zero) h = second h
in_no_list [] s two first second (suc (suc k)) h = nothing s h
in_no_list (x ∷ []) s two first second (suc (suc k)) h = nothing s h
in_no_list (x ∷ y ∷ []) s two first second (suc (suc k)) h = nothing s h
in_no_list (x ∷ y ∷ z ∷ ls) s two first second (suc (suc k)) h = absurd (omega (arith, two))

-- ---- Another list of each kind: what is new in it is safe

module _ (k : Known) where
  abbrev Safe : ℕ → Type 0
  Safe = IsSafe (cycle_of k.graph k.marking)

  -- the pending list and the line, as they stand in lists by number
  other_lists : (ns : List (List ℕ)) (a b c d : ℕ) → FitsTogether k a b → ((y : ℕ) → y ∈ list_at ns 0 → (y ∈ k.graph.pending) ⊎ Safe y)
      → ((y : ℕ) → y ∈ list_at ns 1 → (y ∈ k.graph.line) ⊎ Safe y) → length k.graph.objects ≡ c → d ≡ 2
      → FitsTogether (record k { graph = record k.graph { pending = list_at ns 0; line = list_at ns 1 } }) c d
  other_lists ns a b c d f pending line column two =
      let other : Graph = record k.graph { pending = list_at ns 0; line = list_at ns 1 } in
      other_roots k a b c d k.graph.mutators k.graph.names (list_at ns 0) (list_at ns 1) f
      (λ y h. held_cases other y h
      (λ i. inl (by_session k.graph y i))
      (λ i. inl (by_name k.graph y i))
      (λ i. elim (pending y i) [ inl o ↦ inl (by_pending k.graph y o) | inr n ↦ inr n ])
      (λ i. elim (line y i) [ inl o ↦ inl (by_line k.graph y o) | inr n ↦ inr n ])
      (λ i. inl (by_itself k.graph y i)))
      column two

  pub other_pending : (ls ns : List (List ℕ)) (pending : List ℕ) (a c : ℕ) → FitsTogether k a (length ls) → k.graph.line ≡ list_at ls 1
      → ns ≡ slice_set ls 0 pending → c ≡ a → ((y : ℕ) → y ∈ pending → (y ∈ k.graph.pending) ⊎ Safe y)
      → FitsTogether (record k { graph = record k.graph { pending = list_at ns 0; line = list_at ns 1 } }) c (length ns)
  other_pending ls ns pending a c f line set same from =
      other_lists ns a (length ls) c (length ns) f
      (λ y i. from y (subst (λ l. y ∈ l) (ap (λ l. list_at l 0) set ∙ first_set ls pending f.two) i))
      (λ y i. inl (subst (λ l. y ∈ l) (ap (λ l. list_at l 1) set ∙ second_kept ls pending ∙ sym line) i))
      (f.links ∙ sym same) (ap length set ∙ length-set ls 0 pending ∙ f.two)

  pub other_line : (ls ns : List (List ℕ)) (line : List ℕ) (a c : ℕ) → FitsTogether k a (length ls) → k.graph.pending ≡ list_at ls 0
      → ns ≡ slice_set ls 1 line → c ≡ a → ((y : ℕ) → y ∈ line → (y ∈ k.graph.line) ⊎ Safe y)
      → FitsTogether (record k { graph = record k.graph { pending = list_at ns 0; line = list_at ns 1 } }) c (length ns)
  other_line ls ns line a c f pending set same from =
      other_lists ns a (length ls) c (length ns) f
      (λ y i. inl (subst (λ l. y ∈ l) (ap (λ l. list_at l 0) set ∙ first_kept ls line ∙ sym pending) i))
      (λ y i. from y (subst (λ l. y ∈ l) (ap (λ l. list_at l 1) set ∙ second_set ls line f.two) i))
      (f.links ∙ sym same) (ap length set ∙ length-set ls 1 line ∙ f.two)

  pub other_names : (names : List Binding) (a b : ℕ) → FitsTogether k a b → ((y : ℕ) → y ∈ named names → (y ∈ named k.graph.names) ⊎ Safe y)
      → FitsTogether (record k { graph = record k.graph { names = names } }) a b
  other_names names a b f from =
      let other : Graph = record k.graph { names = names } in
      other_roots k a b a b k.graph.mutators names k.graph.pending k.graph.line f
      (λ y h. held_cases other y h
      (λ i. inl (by_session k.graph y i))
      (λ i. elim (from y i) [ inl o ↦ inl (by_name k.graph y o) | inr n ↦ inr n ])
      (λ i. inl (by_pending k.graph y i))
      (λ i. inl (by_line k.graph y i))
      (λ i. inl (by_itself k.graph y i)))
      f.links f.two

  pub other_mutators : (mutators : Table Session) (a b : ℕ) → FitsTogether k a b
      → ((y : ℕ) → y ∈ slots_held mutators → (y ∈ slots_held k.graph.mutators) ⊎ Safe y)
      → FitsTogether (record k { graph = record k.graph { mutators = mutators } }) a b
  other_mutators mutators a b f from =
      let other : Graph = record k.graph { mutators = mutators } in
      other_roots k a b a b mutators k.graph.names k.graph.pending k.graph.line f
      (λ y h. held_cases other y h
      (λ i. elim (from y i) [ inl o ↦ inl (by_session k.graph y o) | inr n ↦ inr n ])
      (λ i. inl (by_name k.graph y i))
      (λ i. inl (by_pending k.graph y i))
      (λ i. inl (by_line k.graph y i))
      (λ i. inl (by_itself k.graph y i)))
      f.links f.two

  -- another clock
  pub other_clock : (clock : Clock) (a b : ℕ) → FitsTogether k a b → length clock.last_gets ≡ length k.clock.last_gets
      → FitsTogether (record k { clock = clock }) a b
  other_clock clock a b f long =
      record {
        few = f.few;
        bits = f.bits;
        ages = long ∙ f.ages;
        links = f.links;
        two = f.two;
        objects = f.objects;
        started = f.started;
        placed = f.placed;
        snapshot = f.snapshot;
      }

-- ---- Lists that get longer or shorter

in_shorter : (xs : List ℕ) (y : ℕ) → y ∈ drop 1 xs → y ∈ xs
in_shorter [] y h = nothing y h
in_shorter (x ∷ xs) y h = in_rest y x xs h

pub in_longer : (xs : List ℕ) (s y : ℕ) → y ∈ (xs ++ s ∷ []) → (y ∈ xs) ⊎ (y ≡ s)
in_longer xs s y h =
    elim (in_append y xs (s ∷ []) h) [ inl o ↦ inl o | inr n ↦ elim (in_cons y s [] n) [ inl p ↦ inr p | inr z ↦ nothing y z ] ]

-- what is old, or is in hand, is old or safe
pub or_safe : (k : Known) (a b s y : ℕ) (P : Type 0) → FitsTogether k a b → IsInHand k s → P ⊎ (y ≡ s) → P
    ⊎ IsSafe (cycle_of k.graph k.marking) y
or_safe k a b s y P f h (inl o) = inl o
or_safe k a b s y P f h (inr e) = inr (subst (IsSafe (cycle_of k.graph k.marking)) (sym e) (in_hand_safe k f.snapshot s h))

module _ (k : Known) (ls ns : List (List ℕ)) (s a c : ℕ) (f : FitsTogether k a (length ls)) (held : IsInHand k s) (same : c ≡ a) where
  pub pushed_pending : k.graph.line ≡ list_at ls 1 → ns ≡ slice_set ls 0 (k.graph.pending ++ s ∷ [])
      → FitsTogether (record k { graph = record k.graph { pending = list_at ns 0; line = list_at ns 1 } }) c (length ns)
  pushed_pending line set = other_pending k ls ns (k.graph.pending ++ s ∷ []) a c f line set same
      (λ y i. or_safe k a (length ls) s y (y ∈ k.graph.pending) f held (in_longer k.graph.pending s y i))

  pub pushed_line : k.graph.pending ≡ list_at ls 0 → ns ≡ slice_set ls 1 (k.graph.line ++ s ∷ [])
      → FitsTogether (record k { graph = record k.graph { pending = list_at ns 0; line = list_at ns 1 } }) c (length ns)
  pushed_line pending set = other_line k ls ns (k.graph.line ++ s ∷ []) a c f pending set same
      (λ y i. or_safe k a (length ls) s y (y ∈ k.graph.line) f held (in_longer k.graph.line s y i))

module _ (k : Known) (ls ns : List (List ℕ)) (a c : ℕ) (f : FitsTogether k a (length ls)) (same : c ≡ a) where
  pub popped_pending : k.graph.line ≡ list_at ls 1 → ns ≡ slice_set ls 0 (drop 1 k.graph.pending)
      → FitsTogether (record k { graph = record k.graph { pending = list_at ns 0; line = list_at ns 1 } }) c (length ns)
  popped_pending line set = other_pending k ls ns (drop 1 k.graph.pending) a c f line set same (λ y i. inl (in_shorter k.graph.pending y i))

  pub popped_line : k.graph.pending ≡ list_at ls 0 → ns ≡ slice_set ls 1 (drop 1 k.graph.line)
      → FitsTogether (record k { graph = record k.graph { pending = list_at ns 0; line = list_at ns 1 } }) c (length ns)
  popped_line pending set = other_line k ls ns (drop 1 k.graph.line) a c f pending set same (λ y i. inl (in_shorter k.graph.line y i))
