use Rattle.std.proofs.Common.{Some, subst, ap, ◌∙◌}
use Rattle.jlr_machine.specs.Objects.{◌∈◌}
use Rattle.jlr_roots.specs.Walk.{slots_held}
use Rattle.jlr_machine.specs.declared.machine.Machine.{Machine}
use Rattle.jlr_machine.specs.declared.machine.Call.TheVariants.{Out as CallOut}
use Rattle.jlr_machine.specs.declared.ask.Ask.TheVariants.{CheckOut}
use Rattle.jlr_machine.specs.declared.ask.Answer.TheVariants.{Out}
use Rattle.jlr_machine.specs.Lookups.{with_call}
use Rattle.jlr_barrier.specs.Graphs.{Graph}
use Rattle.jlr_state.specs.Machines.{machine_of}
use Rattle.jlr_state.specs.State.{machine_with}
use Rattle.jlr_state.proofs.Entries.{meets_plain}
use Rattle.jlr_state.proofs.Guards.{checked_out_is, out_reply}
use Rattle.jlr_machine.specs.declared.machine.ResourceState.TheVariants.{Out as IsOut}
use Rattle.jlr_state.proofs.Moving.{taken_out}
use Rattle.jlr_laws.proofs.Frames.{some_same}
use Rattle.jlr_state.proofs.Hands.{held_in_hand, named_held}
use Rattle.jlr_state.proofs.state.State.check_out.Goals as goal

pub returns-clause-entry : goal.returns-clause-entry
returns-clause-entry g c =
    let s = c.args.self.now in
    let m = machine_of s in
    let k = c.args.by in
    let held = c.in-Ok.held in
    let n = machine_with c.check_out-resource.new.self c.begin_call.new.self.graph s.cycle_open in
    meets_plain m n (CheckOut k c.args.guard) (Out held.guard.rid) tt c.in-Ok.ensures.0 (out_reply m k c.args.guard held c.in-Ok.ensures.1)
    (ap (λ (h : Graph). machine_with c.check_out-resource.new.self h s.cycle_open) c.begin_call.ensures.graph
    ∙ ap (λ (x : Machine). with_call x k (Some held.slot) (CallOut held.guard.rid)) (c.check_out-resource.ensures.machine m)
    ∙ checked_out_is m k c.args.guard held (Out held.guard.rid) c.in-Ok.ensures.1)

pub returns-clause-moves : goal.returns-clause-moves
returns-clause-moves g c =
    let rid = c.in-Ok.held.guard.rid in
    let called = c.check_out-resource.ensures in
    taken_out c.args.self.now.cleaner.table c.check_out-resource.new.self.table rid IsOut c.check_out-resource.result called.put_in_last
    called.state (λ e. absurd (cc e)) called.others

-- what a handle names is in hand
pub begin_call-requires-clause-held : goal.begin_call-requires-clause-held
begin_call-requires-clause-held g c =
    let m = c.args.self.now in
    λ s e. held_in_hand m.heap s (subst (λ x. x ∈ slots_held m.heap.graph.mutators) (some_same c.in-Ok.held.slot s e)
    (named_held (machine_of m) c.args.by c.args.guard c.in-Ok.held.slot c.in-Ok.ensures.1.named))
