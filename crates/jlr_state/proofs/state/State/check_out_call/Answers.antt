use Rattle.std.proofs.Common.{◌≡◌, Some, option_map, sym, subst, ap, ◌∙◌}
use Rattle.jlr_machine.specs.declared.machine.Session.{Session}
use Rattle.jlr_machine.specs.Objects.{at}
use Rattle.jlr_machine.specs.declared.machine.Call.TheVariants.{Out as CallOut}
use Rattle.jlr_machine.specs.declared.machine.ResourceState.TheVariants.{Out}
use Rattle.jlr_laws.proofs.Frames.{no_some, some_same}
use Rattle.jlr_state.specs.declared.resources.Guarded.{Guarded}
use Rattle.jlr_state.specs.Guards.{HoldsGuard}
use Rattle.jlr_state.specs.Machines.{machine_of}
use Rattle.jlr_state.proofs.Guards.{call_there, check_in_allowed, out_holds}
use Rattle.jlr_state.proofs.state.State.check_out_call.Goals as goal

pub returns-in-Some : goal.returns-in-Some
returns-in-Some g c =
    let m = machine_of c.args.self.now in
    let k = c.args.by in
    let rid = c.in-Some-Out.field-0-0 in
    let there = call_there m k (CallOut rid) (ap Some (sym c.in-Some-Out.field-0-is) ∙ sym c.in-Some-Out.is ∙ c.call.ensures
    ∙ ap (λ l. option_map (λ (s : Session). s.call) (at l k)) c.roots.ensures) in
    let h = out_holds m k rid there.0 c.requires there.1 there.2 in
    let same : h.held ≡ c.in-Some.held = some_same h.held c.in-Some.held (sym h.under ∙ sym c.fenced.ensures ∙ c.in-Some.is) in
    (λ outcome. check_in_allowed m k rid there.0 outcome there.1 there.2, subst (λ (x : Guarded). HoldsGuard m k x Out) same h.holds)

pub returns-in-None : goal.returns-in-None
returns-in-None g c =
    let m = machine_of c.args.self.now in
    let k = c.args.by in
    let rid = c.in-Some-Out.field-0-0 in
    let there = call_there m k (CallOut rid) (ap Some (sym c.in-Some-Out.field-0-is) ∙ sym c.in-Some-Out.is ∙ c.call.ensures
    ∙ ap (λ l. option_map (λ (s : Session). s.call) (at l k)) c.roots.ensures) in
    let h = out_holds m k rid there.0 c.requires there.1 there.2 in
    no_some h.held (sym c.in-None.is ∙ c.fenced.ensures ∙ h.under)
