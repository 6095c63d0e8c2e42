-- With no grey slot left, what is marked holds the roots and is closed; and a marking that begins is a snapshot.
use Rattle.std.proofs.Common.{◌≡◌, ◌≤◌, ◌-◌, ℕ, zero, suc, inl, inr, false, List, [], Option, Some, None, replicate, refl, subst, length}
use Rattle.std.proofs.Common.{sym, ap, ◌∙◌}
use Rattle.std.proofs.lemmas.Bool.{both_ways}
use Rattle.std.proofs.lemmas.List.{length-replicate}
use Rattle.jlr_machine.specs.declared.machine.Session.{Session}
use Rattle.jlr_machine.specs.declared.machine.Binding.{Binding}
use Rattle.jlr_machine.specs.Objects.{Heap, Table, ◌∈◌}
use Rattle.jlr_laws.proofs.Sets.{nothing}
use Rattle.jlr_laws.proofs.Frames.{no_some, some_same}
use Rattle.jlr_marks.specs.declared.part.Part.{Part}
use Rattle.jlr_marks.specs.Marking.{Marking, IsMarked, Shaded, is_marked, grey_next, place, place_in, unmarked, upcoming}
use Rattle.jlr_marks.proofs.MarkCounts.{none_set}
use Rattle.jlr_marks.proofs.Shading.{same_marking}
use Rattle.jlr_machine.specs.Edges.{active_cleanables}
use Rattle.jlr_roots.specs.Walk.{slots_held}
use Rattle.jlr_barrier.specs.Graphs.{Clock, Graph, Known, empty_graph, empty_known, held, swept}
use Rattle.jlr_barrier.specs.Parts.{IsBegun, ahead_at}
use Rattle.jlr_barrier.proofs.Parts.{begun_by, edge_ahead}
use Rattle.jlr_barrier.proofs.Held.{held_cases}
use Rattle.jlr_links.proofs.Places.{member_in_list}
use Rattle.std.specs.Prelude.{IfSome}
use Rattle.jlr_barrier.proofs.Fitting.{other_clock}
use Rattle.jlr_barrier.specs.Snapshots.{FitsTogether, HoldsWhole, IsEdge, IsObject, IsSafe, IsSnapshot, cycle_of}

pub none_marked : {P : Type 0} (n x : ℕ) → IsMarked (unmarked n) x → P
none_marked n x h = absurd (both_ways (is_marked (unmarked n) x) (none_set n x) h)

-- ---- No grey slot

module _ (k : Known) (a b : ℕ) (f : FitsTogether k a b) (none : k.marking.grey ≡ []) where
  not_grey : {P : Type 0} (x : ℕ) → x ∈ k.marking.grey → P
  not_grey x h = nothing x (subst (λ l. x ∈ l) none h)

  safe_is_marked : (y : ℕ) → IsSafe (cycle_of k.graph k.marking) y → IsMarked k.marking y
  safe_is_marked y (inl on) = on
  safe_is_marked y (inr p) = not_grey p.0 p.1

  pub holds_whole : HoldsWhole k
  holds_whole = record {
    long = f.bits;
    objects = f.objects;
    roots = λ y h. safe_is_marked y (f.snapshot.roots y h);
    closed = λ x y on e. elim (f.snapshot.strong x y on e) [ inl g ↦ not_grey x g.0 | inr s ↦ safe_is_marked y s ];
    referents = λ x y on q. elim (f.snapshot.referents x y on q) [
      | inl g ↦ not_grey x g
      | inr r ↦ elim r [ inl s ↦ inl (safe_is_marked y s) | inr d ↦ inr d ]
    ];
  }

-- how many cells are condemned does not matter
pub holds_still : (g : Graph) (c : Clock) (m : Marking) (n : ℕ) → HoldsWhole (swept g c m)
    → HoldsWhole (record { graph = g; clock = c; marking = m; condemned = n })
holds_still g c m n h = record { long = h.long; objects = h.objects; roots = h.roots; closed = h.closed; referents = h.referents }

-- ---- The grey slot that comes next

pub upcoming_grey : (m : Marking) → ((p : Part) → m.part ≡ Some p → p.slot ∈ m.grey) → (s : ℕ) → upcoming m ≡ Some s → s ∈ m.grey
upcoming_grey m started s e =
    elim m.part as (λ o. m.part ≡ o → grey_next o m.grey ≡ Some s → s ∈ m.grey) [
      | None ↦ λ none last. member_in_list m.grey (length m.grey - 1) s s last refl
      | Some p ↦ λ there first. subst (λ z. z ∈ m.grey) (some_same p.slot s first) (started p there)
    ] refl e

pub upcoming_there : (k : Known) (a b : ℕ) → FitsTogether k a b → (o : Option ℕ) → o ≡ upcoming k.marking
    → IfSome o (λ s. IsMarked k.marking s × IsObject k.graph.objects s)
upcoming_there k a b f None e = tt
upcoming_there k a b f (Some s) e =
    let on = f.snapshot.grey s (upcoming_grey k.marking f.started s (sym e)) in
    (on, f.objects s on)

pub upcoming_begun : (k : Known) (a b : ℕ) → FitsTogether k a b → (o : Option ℕ) → o ≡ upcoming k.marking
    → IfSome o (λ s. IsBegun k.graph.objects (place k.marking s) s)
upcoming_begun k a b f None e = tt
upcoming_begun k a b f (Some s) e = begun_by k.graph.objects k.marking.part s f.placed (upcoming_there k a b f (Some s) e).1

-- ---- All marks go, and the roots are shaded

no_part : (n : Marking) (long : ℕ) (T : ℕ → Type 0) → Shaded T (unmarked long) n → {P : Type 0} (p : Part) → n.part ≡ Some p → P
no_part n long T s p e = no_some p (sym s.part_same ∙ e)

begun : (g : Graph) (n : Marking) (long : ℕ) → Shaded (λ x. x ∈ held g) (unmarked long) n → IsSnapshot (cycle_of g n)
begun g n long s =
    let ahead : (x y : ℕ) → IsEdge g.objects x y → y ∈ ahead_at g.objects (place n x) x =
    λ x y e. subst (λ o. y ∈ ahead_at g.objects (place_in o x) x) (sym s.part_same) (edge_ahead g.objects x y e) in
    record {
      grey = λ x h. elim (s.grey_marked x h) [ inl o ↦ nothing x o | inr on ↦ on ];
      roots = λ y h. inl (s.all y h);
      strong = λ x y on e. elim (s.added x on) [ inl o ↦ none_marked long x o | inr new ↦ inl (new.1, ahead x y e) ];
      whole = λ x y e. inr (ahead x y e);
      referents = λ x y on q. elim (s.added x on) [ inl o ↦ none_marked long x o | inr new ↦ inl new.1 ];
    }

pub opened : (k : Known) (a b : ℕ) (n : Marking) → FitsTogether k a b → ((x : ℕ) → x ∈ held k.graph → IsObject k.graph.objects x)
    → Shaded (λ x. x ∈ held k.graph) (unmarked (length k.graph.objects)) n → FitsTogether (record k { marking = n }) a b
opened k a b n f objects s =
    record {
      few = f.few;
      bits = s.long ∙ length-replicate (length k.graph.objects) false;
      ages = f.ages;
      links = f.links;
      two = f.two;
      objects = λ x on. elim (s.added x on) [ inl o ↦ none_marked (length k.graph.objects) x o | inr new ↦ objects x new.0 ];
      started = λ p e. no_part n (length k.graph.objects) (λ x. x ∈ held k.graph) s p e;
      placed = λ p e. no_part n (length k.graph.objects) (λ x. x ∈ held k.graph) s p e;
      snapshot = begun k.graph n (length k.graph.objects) s;
    }

-- ---- A heap without objects

none_held : (n : ℕ) → slots_held (replicate n None) ≡ []
none_held zero = refl
none_held (suc n) = none_held n

none_active : (from n : ℕ) → active_cleanables from (replicate n None) ≡ []
none_active from zero = refl
none_active from (suc n) = none_active (suc from) n

no_roots_in : {P : Type 0} (cells sessions x : ℕ) → x ∈ held (empty_graph cells sessions) → P
no_roots_in cells sessions x h =
    held_cases (empty_graph cells sessions) x h
    (λ i. nothing x (subst (λ l. x ∈ l) (none_held sessions) i))
    (λ i. nothing x i)
    (λ i. nothing x i)
    (λ i. nothing x i)
    (λ i. nothing x (subst (λ l. x ∈ l) (none_active 0 cells) i))

pub empty_fits : (cells sessions a b : ℕ) → cells ≤ 65536 → cells ≡ a → b ≡ 2 → FitsTogether (empty_known cells sessions) a b
empty_fits cells sessions a b few ra rb =
    let long : length (empty_graph cells sessions).objects ≡ cells = length-replicate cells None in
    record {
      few = subst (λ n. n ≤ 65536) (sym long) few;
      bits = length-replicate cells false ∙ sym long;
      ages = length-replicate cells 0 ∙ sym long;
      links = long ∙ ra;
      two = rb;
      objects = λ x on. none_marked cells x on;
      started = λ p e. no_some p e;
      placed = λ p e. no_some p e;
      snapshot = record {
        grey = λ x h. nothing x h;
        roots = λ y h. no_roots_in cells sessions y h;
        strong = λ x y on e. none_marked cells x on;
        whole = λ x y e. inr (edge_ahead (replicate cells None) x y e);
        referents = λ x y on q. none_marked cells x on;
      };
    }

pub new_fits : (cells sessions a b : ℕ) (objects : Heap) (mutators : Table Session) (names : List Binding) (pending line ages : List ℕ)
    (m : Marking) → cells ≤ 65536 → cells ≡ a → b ≡ 2
    → objects ≡ replicate cells None → mutators ≡ replicate sessions None → names ≡ [] → pending ≡ [] → line ≡ [] → length ages ≡ cells
    → m.bits ≡ replicate cells false → m.grey ≡ [] → m.discovered ≡ [] → m.part ≡ None
    → FitsTogether (record {
      graph = record { objects = objects; mutators = mutators; names = names; pending = pending; line = line };
      clock = record { last_gets = ages; collections = 0; since = 0 };
      marking = m;
      condemned = 0;
    }) a b
new_fits cells sessions a b objects mutators names pending line ages m few ra rb eo em en ep el ea bits grey discovered part =
    let start = empty_fits cells sessions a b few ra rb in
    let graph_with : Heap → Table Session → List Binding → List ℕ → List ℕ → Graph =
    λ o m n p l. record { objects = o; mutators = m; names = n; pending = p; line = l } in
    let same_graph : empty_graph cells sessions ≡ graph_with objects mutators names pending line =
    ap (λ o. graph_with o (replicate sessions None) [] [] []) (sym eo) ∙ ap (λ u. graph_with objects u [] [] []) (sym em)
    ∙ ap (λ n. graph_with objects mutators n [] []) (sym en) ∙ ap (λ p. graph_with objects mutators names p []) (sym ep)
    ∙ ap (λ l. graph_with objects mutators names pending l) (sym el) in
    let same_marks : unmarked cells ≡ m = sym (same_marking m (unmarked cells) bits grey discovered part) in
    let known_with : Graph → Marking → Known =
    λ g m. record { graph = g; clock = (empty_known cells sessions).clock; marking = m; condemned = 0 } in
    let fits : FitsTogether (known_with (graph_with objects mutators names pending line) m) a b =
    subst (λ (k : Known). FitsTogether k a b) (ap (λ g. known_with g (unmarked cells)) same_graph
    ∙ ap (known_with (graph_with objects mutators names pending line)) same_marks) start in
    other_clock (known_with (graph_with objects mutators names pending line) m) (record { last_gets = ages; collections = 0; since = 0 }) a
    b fits (ea ∙ sym (length-replicate cells 0))
