use Rattle.std.proofs.Common.{◌≡◌, None, Some, inl, is_some, refl, sym, subst, ap, ◌∙◌}
use Rattle.jlr_machine.specs.WellFormed.{IsObjectAt}
use Rattle.jlr_types.specs.declared.Refusal.TheVariants.{NoMemory}
use Rattle.jlr_machine.specs.declared.machine.Machine.{Machine}
use Rattle.jlr_machine.specs.declared.machine.Call.TheVariants.{Free}
use Rattle.jlr_machine.specs.declared.machine.ResourceState.TheVariants.{Out}
use Rattle.jlr_machine.specs.declared.ask.Ask.TheVariants.{CheckIn}
use Rattle.jlr_machine.specs.Lookups.{with_call}
use Rattle.jlr_barrier.specs.Graphs.{Graph}
use Rattle.jlr_state.specs.Machines.{machine_of}
use Rattle.jlr_state.specs.State.{machine_with}
use Rattle.jlr_state.proofs.Entries.{meets_plain, meets_refused, never_memory}
use Rattle.jlr_state.proofs.Guards.{checked_in_is}
use Rattle.jlr_state.proofs.Moving.{put_in}
use Rattle.jlr_laws.proofs.Frames.{some_same}
use Rattle.jlr_state.proofs.Shading.{by_root, fence_root, shaded_new}
use Rattle.jlr_state.proofs.state.State.check_in.Goals as goal

pub returns-in-Err-clause-entry : goal.returns-in-Err-clause-entry
returns-in-Err-clause-entry g c =
    meets_refused (machine_of c.args.self.now) (CheckIn c.args.by c.args.outcome) c.in-Err.refusal (c.in-Err.ensures c.args.outcome)

pub returns-in-Err-clause-memory : goal.returns-in-Err-clause-memory
returns-in-Err-clause-memory g c =
    λ e.
    let memory_refusal : c.in-Err.refusal ≡ NoMemory = cc e in
    never_memory (machine_of c.args.self.now) (CheckIn c.args.by c.args.outcome) c.in-Err.refusal refl (c.in-Err.ensures c.args.outcome)
    memory_refusal

pub returns-clause-entry : goal.returns-clause-entry
returns-clause-entry g c =
    let s = c.args.self.now in
    let m = machine_of s in
    let k = c.args.by in
    let n = machine_with c.check_in.new.self c.end_call.new.self.graph s.cycle_open in
    meets_plain m n (CheckIn k c.args.outcome) c.ended.result tt (c.in-Ok.ensures.0 c.args.outcome) (ap Some (sym c.ended.ensures))
    (ap (λ (h : Graph). machine_with c.check_in.new.self h s.cycle_open) c.end_call.ensures.graph
    ∙ ap (λ (x : Machine). with_call x k None Free) (c.check_in.ensures.machine m)
    ∙ checked_in_is m k c.in-Ok.held Out c.args.outcome c.ended.result c.in-Ok.ensures.1)

pub returns-clause-moves : goal.returns-clause-moves
returns-clause-moves g c =
    let rid = c.in-Ok.held.guard.rid in
    put_in c.args.self.now.cleaner.table c.check_in.new.self.table rid Out c.args.resource c.in-Ok.ensures.1.resource (λ e. absurd (cc e))
    c.check_in.ensures.lies_here c.check_in.ensures.others

-- a call holds its guard
pub end_call-requires-clause-object : goal.end_call-requires-clause-object
end_call-requires-clause-object g c =
    let m = machine_of c.args.self.now in
    let held = c.in-Ok.ensures.1 in
    λ s e. subst (λ x. IsObjectAt m x) (some_same c.in-Ok.held.slot s (sym held.fence ∙ e)) (ap is_some held.guard)

-- what the fence held was a root
pub returns-clause-marks : goal.returns-clause-marks
returns-clause-marks g c =
    let s = c.args.self.now in
    let m = machine_of s in
    shaded_new m _ s.heap.marking _ _ c.end_call.ensures.shaded (λ x e. inl (by_root m s.heap.marking x (fence_root m c.args.by x e)))
