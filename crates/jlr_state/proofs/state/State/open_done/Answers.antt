use Rattle.std.proofs.Common.{◌≡◌, None, Some, is_some, inl, ap, ◌∙◌, subst, sym}
use Rattle.jlr_machine.specs.WellFormed.{IsObjectAt}
use Rattle.jlr_resource.specs.Resources.{Resources}
use Rattle.jlr_cleaner.specs.Cleanings.{Cleanings}
use Rattle.jlr_state.specs.Flows.{Moves}
use Rattle.jlr_machine.specs.declared.machine.Machine.{Machine}
use Rattle.jlr_machine.specs.declared.machine.Call.TheVariants.{Free}
use Rattle.jlr_machine.specs.declared.machine.ResourceState.TheVariants.{Idle}
use Rattle.jlr_machine.specs.Calls.{with_given}
use Rattle.jlr_machine.specs.Lookups.{with_call, with_handle, with_state}
use Rattle.jlr_barrier.specs.Graphs.{Graph}
use Rattle.jlr_state.specs.Machines.{machine_of}
use Rattle.jlr_state.specs.State.{machine_with}
use Rattle.jlr_machine.specs.declared.machine.ResourceState.TheVariants.{Opening}
use Rattle.jlr_state.proofs.Moving.{put_in}
use Rattle.jlr_laws.proofs.Frames.{some_same}
use Rattle.jlr_marks.specs.Marking.{Marking, Shaded}
use Rattle.jlr_barrier.specs.Graphs.{fence_at}
use Rattle.jlr_state.proofs.Shading.{by_root, fence_root, shaded_new}
use Rattle.jlr_state.proofs.state.State.open_done.Goals as goal

pub returns-clause-opened : goal.returns-clause-opened
returns-clause-opened g c =
    let s = c.args.self.now in
    let ended : machine_with c.opened.new.self c.end_call.new.self.graph s.cycle_open
    ≡ with_call (with_state (machine_of s) c.args.held.guard.rid Idle) c.args.by None Free =
    ap (λ (h : Graph). machine_with c.opened.new.self h s.cycle_open) c.end_call.ensures.graph
    ∙ ap (λ (m : Machine). with_call m c.args.by None Free) (c.opened.ensures.machine (machine_of s)) in
    c.give.ensures.held
    ∙ ap (λ (m : Machine). with_handle m c.args.by c.args.held.slot) ended
    ∙ ap (with_given (with_call (with_state (machine_of s) c.args.held.guard.rid Idle) c.args.by None Free) c.args.by)
    (sym c.requires.held.fence)

pub returns-clause-moves : goal.returns-clause-moves
returns-clause-moves g c =
    let old = c.args.self.now.cleaner.table in
    let rid = c.args.held.guard.rid in
    let given : c.opened.new.self.table ≡ c.give.new.self.cleaner.table =
    ap {A = Cleanings g.row.R.Denot} {B = Resources g.row.R.Denot} (λ x. x.table) (sym c.give.ensures.rest.cleaner) in
    subst (λ (t : Resources g.row.R.Denot). Moves (Some c.args.resource) old None t) given
    (put_in old c.opened.new.self.table rid Opening c.args.resource c.requires.held.resource (λ e. absurd (cc e)) c.opened.ensures.lies_here
    c.opened.ensures.others)

-- a call holds its guard
pub end_call-requires-clause-object : goal.end_call-requires-clause-object
end_call-requires-clause-object g c =
    let m = machine_of c.args.self.now in
    λ s e. subst (λ x. IsObjectAt m x) (some_same c.args.held.slot s (sym c.requires.held.fence ∙ e)) (ap is_some c.requires.held.guard)

-- which is shaded once the call has ended
pub give-requires-clause-held : goal.give-requires-clause-held
give-requires-clause-held g c = inl (c.end_call.ensures.shaded.all c.args.held.slot c.requires.held.fence)

-- what the fence held was a root
pub returns-clause-marks : goal.returns-clause-marks
returns-clause-marks g c =
    let s = c.args.self.now in
    let m = machine_of s in
    let k = c.args.by in
    let shaded = subst (λ (x : Marking). Shaded (λ y. fence_at s.heap.graph.mutators k ≡ Some y) s.heap.marking x)
    (sym c.give.ensures.marking) c.end_call.ensures.shaded in
    shaded_new m _ s.heap.marking _ _ shaded (λ x e. inl (by_root m s.heap.marking x (fence_root m k x e)))
