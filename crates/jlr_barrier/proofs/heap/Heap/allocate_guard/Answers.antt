use Rattle.std.proofs.Common.{◌≡◌, sym, ◌∙◌, ap}
use Rattle.jlr_machine.specs.declared.object.Object.{Object}
use Rattle.jlr_machine.specs.declared.object.Object.TheVariants.{Guard}
use Rattle.jlr_machine.specs.Objects.{at, change_at, set_at, with_cleanable}
use Rattle.jlr_laws.proofs.Frames.{no_some, set_same}
use Rattle.jlr_cells.specs.Contents.{watching}
use Rattle.jlr_barrier.specs.Graphs.{Clock, Graph, made_now, with_objects}
use Rattle.jlr_barrier.proofs.Pairs.{made_both, made_guard, untied}
use Rattle.jlr_barrier.proofs.heap.Heap.allocate_guard.Goals as goal

-- the second cell was free once the first was taken
apart : (c : goal.After-watch) → c.in_ok-guard.guard ≡ c.in_ok-cleanable.cleanable → ⊥
apart c e =
    let heap = c.args.self.now.graph.objects in
    let slot = c.in_ok-cleanable.cleanable in
    let taken = ap (λ (g : Graph). at g.objects slot) c.in_ok-cleanable.ensures.made
    ∙ set_same heap slot _ c.in_ok-cleanable.ensures.free.0 in
    no_some (untied c.args.rid c.args.action) (sym c.in_ok-guard.ensures.free.1 ∙ ap (at c.allocate.new.self.graph.objects) e ∙ taken)

pub returns-clause-made : goal.returns-clause-made
returns-clause-made c =
    let g = c.args.self.now.graph in
    let slot = c.in_ok-cleanable.cleanable in
    let guard : Object = Guard (record { rid = c.args.rid; cleanable = slot }) in
    c.watch.ensures.graph
    ∙ ap (λ (h : Graph). with_objects h (change_at h.objects slot (with_cleanable (watching c.in_ok-guard.guard))))
    (c.in_ok-guard.ensures.made ∙ ap (λ (h : Graph). with_objects h (set_at h.objects c.in_ok-guard.guard guard))
    c.in_ok-cleanable.ensures.made)
    ∙ ap (with_objects g)
    (made_guard g.objects c.in_ok-guard.guard slot c.args.rid c.args.action c.in_ok-cleanable.ensures.free.0 (apart c))

pub returns-clause-clock : goal.returns-clause-clock
returns-clause-clock c =
    c.watch.ensures.clock ∙ c.in_ok-guard.ensures.clock ∙ ap (λ (k : Clock). made_now k c.in_ok-guard.guard) c.in_ok-cleanable.ensures.clock
    ∙ made_both c.args.self.now.clock c.in_ok-guard.guard c.in_ok-cleanable.cleanable (apart c)
