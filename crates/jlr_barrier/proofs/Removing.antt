-- What is not marked is removed, where nothing is grey.
use Rattle.std.proofs.Common.{◌≡◌, ◌≤◌, ℕ, cond, inl, inr, IsTrue, [], Option, Some, None, is_some, option_and_then, length, refl, sym}
use Rattle.std.proofs.Common.{subst, ◌∙◌, ap}
use Rattle.std.specs.List.{flat_map}
use Rattle.std.specs.Option.{option_to_list}
use Rattle.std.proofs.lemmas.Bool.{both_ways, cases_Bool}
use Rattle.jlr_machine.specs.declared.object.Object.{Object}
use Rattle.jlr_machine.specs.Objects.{Heap, any_referent, at, ◌∈◌}
use Rattle.jlr_machine.specs.Edges.{is_own_root, strong_edges}
use Rattle.jlr_sets.specs.SlotSets.{is_in}
use Rattle.jlr_laws.proofs.Sets.{nothing}
use Rattle.jlr_laws.proofs.Frames.{no_some}
use Rattle.jlr_cells.specs.Showing.{shown}
use Rattle.jlr_cells.proofs.Showing.{at-shown, length-shown}
use Rattle.jlr_marks.specs.Marking.{IsMarked, place}
use Rattle.jlr_barrier.specs.Graphs.{Graph, Known, held, with_objects}
use Rattle.jlr_barrier.specs.Snapshots.{FitsTogether, IsEdge, RefersTo, cycle_of}
use Rattle.jlr_barrier.proofs.Held.{by_session, by_name, by_pending, by_line, by_itself, held_cases}
use Rattle.jlr_barrier.proofs.OwnRoots.{active_gives, active_from}
use Rattle.jlr_barrier.specs.Parts.{ahead_at}
use Rattle.jlr_barrier.proofs.Fitting.{whole_of}
use Rattle.jlr_barrier.proofs.Keeping.{snapshot_of_left}

module _ (k : Known) (a b : ℕ) (f : FitsTogether k a b) (none : k.marking.grey ≡ []) where
  abbrev old : Heap
  old = k.graph.objects

  abbrev other : Heap
  other = shown k.marking.bits old

  abbrev after : Graph
  after = with_objects k.graph other

  -- what is marked stays
  stays : (x : ℕ) → IsMarked k.marking x → at other x ≡ at old x
  stays x on = at-shown k.marking.bits old x ∙ ap (λ b. cond b (at old x) None) on

  -- nothing lies there that was not there
  still : (x : ℕ) (o : Object) → at other x ≡ Some o → at old x ≡ Some o
  still x o e = elim (cases_Bool (is_in k.marking.bits x)) [
    | inl on ↦ sym (stays x on) ∙ e
    | inr off ↦ absurd (no_some o (sym (at-shown k.marking.bits old x ∙ ap (λ b. cond b (at old x) None) off) ∙ e))
  ]

  own_root : (o : Option Object) (x : ℕ) → at other x ≡ o → IsTrue (is_own_root o) → IsTrue (is_own_root (at old x))
  own_root None x e h = absurd (both_ways (is_own_root None) refl h)
  own_root (Some o) x e h = subst (λ z. IsTrue (is_own_root z)) (sym (still x o e)) h

  held_before : (y : ℕ) → y ∈ held after → y ∈ held k.graph
  held_before y h =
      held_cases after y h
      (λ i. by_session k.graph y i)
      (λ i. by_name k.graph y i)
      (λ i. by_pending k.graph y i)
      (λ i. by_line k.graph y i)
      (λ i. by_itself k.graph y (active_from old y (own_root (at other y) y refl (active_gives other y i))))

  pub removed_fits : FitsTogether (record k { graph = after }) a b
  removed_fits =
      let long : length other ≡ length old = length-shown k.marking.bits old in
      record {
        few = subst (λ n. n ≤ 65536) (sym long) f.few;
        bits = f.bits ∙ sym long;
        ages = f.ages ∙ sym long;
        links = subst (λ n. n ≡ a) (sym long) f.links;
        two = f.two;
        objects = λ x on. subst (λ z. IsTrue (is_some z)) (sym (stays x on)) (f.objects x on);
        started = f.started;
        placed = λ p e. nothing p.slot (subst (λ l. p.slot ∈ l) none (f.started p e));
        snapshot =
            snapshot_of_left (cycle_of k.graph k.marking) (IsEdge other) (λ x y. y ∈ ahead_at other (place k.marking x) x) (RefersTo other)
            (λ y. y ∈ held after) f.snapshot
            (λ x g. nothing x (subst (λ l. x ∈ l) none g))
            (λ x y on e. subst (λ z. y ∈ flat_map strong_edges (option_to_list z)) (stays x on) e)
            (whole_of other k.marking f.started f.snapshot.grey)
            (λ x y on q. subst (λ z. option_and_then any_referent z ≡ Some y) (stays x on) q)
            held_before;
      }
