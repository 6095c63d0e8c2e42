use Rattle.std.proofs.Common.{◌≡◌, ◌∙◌, false, sym, ap, arith, replicate, subst, length, ℕ, List}
use Rattle.std.proofs.lemmas.List.{length-replicate}
use Rattle.jlr_machine.specs.Objects.{Heap, Table, ◌∈◌}
use Rattle.jlr_machine.specs.declared.machine.Session.{Session}
use Rattle.jlr_machine.specs.declared.machine.Binding.{Binding}
use Rattle.jlr_machine.specs.Edges.{active_cleanables}
use Rattle.jlr_links.specs.Lists.{list_at}
use Rattle.jlr_roots.specs.Walk.{slots_held}
use Rattle.jlr_roots.specs.Naming.{named}
use Rattle.jlr_marks.specs.Marking.{Marking, Shaded, unmarked}
use Rattle.jlr_marks.proofs.Shading.{same_marking, shaded_in_five}
use Rattle.jlr_barrier.specs.Graphs.{Graph, Known, held}
use Rattle.jlr_barrier.specs.Snapshots.{IsObject}
use Rattle.jlr_barrier.proofs.Held.{by_session, by_name, by_pending, by_line}
use Rattle.jlr_barrier.proofs.Fitting.{object_within}
use Rattle.jlr_barrier.proofs.Ending.{opened}
use Rattle.jlr_barrier.proofs.heap.Heap.open_marking.Goals as goal

abbrev graph_of : Heap → Table Session → List Binding → List ℕ → List ℕ → Graph
graph_of cells roots names pending line = record { objects = cells; mutators = roots; names = names; pending = pending; line = line }

within : (k h : Known) → h ≡ k → ((x : ℕ) → x ∈ held k.graph → IsObject k.graph.objects x) → (x : ℕ) → x ∈ held h.graph
    → IsObject h.graph.objects x
within k h same inside = subst (λ (k : Known). (x : ℕ) → x ∈ held k.graph → IsObject k.graph.objects x) (sym same) inside

pub shade_roots-requires : goal.shade_roots-requires
shade_roots-requires c =
    let s = c.self.inside in
    let inside = within _ _ c.self.view_is c.requires in
    let long : length c.reset.new.self.bits ≡ length s.marks.bits = ap length c.reset.ensures.bits
    ∙ length-replicate (length s.marks.bits) false in
    λ x h. (let here = object_within s.cells.objects x
    (inside x (by_session (graph_of s.cells.objects s.roots s.names (list_at s.lists.lists 0) (list_at s.lists.lists 1)) x h)) in
    omega (arith, here, c.self.invariant.bits, long))

pub shade_names-requires : goal.shade_names-requires
shade_names-requires c =
    let s = c.self.inside in
    let inside = within _ _ c.self.view_is c.requires in
    let long : length c.reset.new.self.bits ≡ length s.marks.bits = ap length c.reset.ensures.bits
    ∙ length-replicate (length s.marks.bits) false in
    λ x h. (let here = object_within s.cells.objects x
    (inside x (by_name (graph_of s.cells.objects s.roots s.names (list_at s.lists.lists 0) (list_at s.lists.lists 1)) x h)) in
    omega (arith, here, c.self.invariant.bits, long, c.shade_roots.ensures.long))

pub shade_list-requires-clause-list : goal.shade_list-requires-clause-list
shade_list-requires-clause-list c = omega (arith, c.self.invariant.two)

pub shade_list-requires-2-clause-list : goal.shade_list-requires-2-clause-list
shade_list-requires-2-clause-list c = omega (arith, c.self.invariant.two)

pub shade_list-requires-clause-within : goal.shade_list-requires-clause-within
shade_list-requires-clause-within c =
    let s = c.self.inside in
    let inside = within _ _ c.self.view_is c.requires in
    let long : length c.reset.new.self.bits ≡ length s.marks.bits = ap length c.reset.ensures.bits
    ∙ length-replicate (length s.marks.bits) false in
    λ x h. (let here = object_within s.cells.objects x
    (inside x (by_pending (graph_of s.cells.objects s.roots s.names (list_at s.lists.lists 0) (list_at s.lists.lists 1)) x h)) in
    omega (arith, here, c.self.invariant.bits, long, c.shade_roots.ensures.long, c.shade_names.ensures.long))

pub shade_list-requires-2-clause-within : goal.shade_list-requires-2-clause-within
shade_list-requires-2-clause-within c =
    let s = c.self.inside in
    let inside = within _ _ c.self.view_is c.requires in
    let long : length c.reset.new.self.bits ≡ length s.marks.bits = ap length c.reset.ensures.bits
    ∙ length-replicate (length s.marks.bits) false in
    λ x h. (let here = object_within s.cells.objects x
    (inside x (by_line (graph_of s.cells.objects s.roots s.names (list_at s.lists.lists 0) (list_at s.lists.lists 1)) x h)) in
    omega (arith, here, c.self.invariant.bits, long, c.shade_roots.ensures.long, c.shade_names.ensures.long, c.shade_list.ensures.long))

all_shaded : (g : Graph) (n : ℕ) (a b d e f h : Marking) → a ≡ unmarked n → Shaded (λ x. x ∈ slots_held g.mutators) a b
    → Shaded (λ x. x ∈ named g.names) b d → Shaded (λ x. x ∈ g.pending) d e → Shaded (λ x. x ∈ g.line) e f
    → Shaded (λ x. x ∈ active_cleanables 0 g.objects) f h → Shaded (λ x. x ∈ held g) (unmarked n) h
all_shaded g n a b d e f h none r1 r2 r3 r4 r5 =
    subst (λ (m : Marking). Shaded (λ x. x ∈ held g) m h) none
    (shaded_in_five (slots_held g.mutators) (named g.names) g.pending g.line (active_cleanables 0 g.objects) a b d e f h r1 r2 r3 r4 r5)

pub invariant_of-self : goal.invariant_of-self
invariant_of-self c =
    let s = c.self.inside in
    let g : Graph = graph_of s.cells.objects s.roots s.names (list_at s.lists.lists 0) (list_at s.lists.lists 1) in
    let none : c.reset.new.self ≡ unmarked (length s.cells.objects) =
    same_marking c.reset.new.self (unmarked (length s.cells.objects))
    (c.reset.ensures.bits ∙ ap (λ n. replicate n false) c.self.invariant.bits) c.reset.ensures.grey c.reset.ensures.discovered
    c.reset.ensures.part in
    opened _ _ _ c.shade_cleanables.new.marks c.self.invariant (within _ _ c.self.view_is c.requires)
    (all_shaded g (length s.cells.objects) _ _ _ _ _ _ none c.shade_roots.ensures c.shade_names.ensures c.shade_list.ensures
    c.shade_list-2.ensures c.shade_cleanables.ensures)

pub returns-clause-shaded : goal.returns-clause-shaded
returns-clause-shaded c =
    let s = c.self.inside in
    let g : Graph = graph_of s.cells.objects s.roots s.names (list_at s.lists.lists 0) (list_at s.lists.lists 1) in
    let none : c.reset.new.self ≡ unmarked (length s.cells.objects) =
    same_marking c.reset.new.self (unmarked (length s.cells.objects))
    (c.reset.ensures.bits ∙ ap (λ n. replicate n false) c.self.invariant.bits) c.reset.ensures.grey c.reset.ensures.discovered
    c.reset.ensures.part in
    subst (λ (k : Known). Shaded (λ x. x ∈ held k.graph) (unmarked (length k.graph.objects)) c.shade_cleanables.new.marks) c.self.view_is
    (all_shaded g (length s.cells.objects) _ _ _ _ _ _ none c.shade_roots.ensures c.shade_names.ensures c.shade_list.ensures
    c.shade_list-2.ensures c.shade_cleanables.ensures)
