use Rattle.std.proofs.Common.{◌≡◌, None, Some, inl, is_some, sym, subst, ap, ◌∙◌}
use Rattle.jlr_machine.specs.WellFormed.{IsObjectAt}
use Rattle.jlr_machine.specs.declared.machine.Machine.{Machine}
use Rattle.jlr_machine.specs.declared.machine.Call.TheVariants.{Free}
use Rattle.jlr_machine.specs.Objects.{with_cleanable}
use Rattle.jlr_machine.specs.Calls.{spent}
use Rattle.jlr_machine.specs.Lookups.{with_call, with_object}
use Rattle.jlr_barrier.specs.Graphs.{Graph, fence_at}
use Rattle.jlr_state.specs.Machines.{machine_of}
use Rattle.jlr_state.specs.State.{machine_with}
use Rattle.jlr_machine.specs.declared.machine.ResourceState.TheVariants.{Opening}
use Rattle.jlr_state.proofs.Moving.{none_lies, none_moved, none_there, without_value}
use Rattle.jlr_laws.proofs.Frames.{some_same}
use Rattle.jlr_state.proofs.Hands.{still_object}
use Rattle.jlr_marks.specs.Marking.{Marking, Shaded}
use Rattle.jlr_state.proofs.Shading.{by_root, fence_root, shaded_new}
use Rattle.jlr_state.proofs.state.State.open_failed.Goals as goal

pub returns-clause-opened : goal.returns-clause-opened
returns-clause-opened g c =
    let s = c.args.self.now in
    ap (λ (h : Graph). machine_with c.open_failed.new.self h s.cycle_open) c.end_call.ensures.graph
    ∙ ap (λ (h : Graph). with_call (machine_with c.open_failed.new.self h s.cycle_open) c.args.by None Free) c.spend.ensures.graph
    ∙ ap (λ (m : Machine). with_call (with_object m c.args.held.guard.cleanable (with_cleanable spent)) c.args.by None Free)
    (c.open_failed.ensures.machine (machine_of s))

pub returns-clause-moves : goal.returns-clause-moves
returns-clause-moves g c =
    let old = c.args.self.now.cleaner.table in
    let new = c.open_failed.new.self.table in
    let rid = c.args.held.guard.rid in
    none_moved old new (without_value old new rid (none_lies old rid Opening c.requires.held.resource (λ e. absurd (cc e)))
    (none_there new rid c.open_failed.ensures.state) c.open_failed.ensures.others)

-- a call holds its guard
pub end_call-requires-clause-object : goal.end_call-requires-clause-object
end_call-requires-clause-object g c =
    let m = machine_of c.args.self.now in
    λ s e. still_object m.objects c.spend.new.self.graph.objects c.args.held.guard.cleanable s (with_cleanable spent)
    (ap (λ (h : Graph). h.objects) c.spend.ensures.graph)
    (subst (λ x. IsObjectAt m x) (some_same c.args.held.slot s
    (sym c.requires.held.fence ∙ ap (λ (h : Graph). fence_at h.mutators c.args.by) (sym c.spend.ensures.graph) ∙ e))
    (ap is_some c.requires.held.guard))

-- what the fence held was a root
pub returns-clause-marks : goal.returns-clause-marks
returns-clause-marks g c =
    let s = c.args.self.now in
    let m = machine_of s in
    let k = c.args.by in
    let shaded = subst (λ (x : Marking). Shaded (λ y. fence_at c.spend.new.self.graph.mutators k ≡ Some y) x c.end_call.new.self.marking)
    c.spend.ensures.marking c.end_call.ensures.shaded in
    shaded_new m _ s.heap.marking _ _ shaded (λ x e. inl
    (by_root m s.heap.marking x (fence_root m k x (ap (λ (h : Graph). fence_at h.mutators k) (sym c.spend.ensures.graph) ∙ e))))
