use Rattle.std.proofs.Common.{◌≡◌, Some, option_map, sym, subst, ap, ◌∙◌}
use Rattle.jlr_machine.specs.declared.machine.Session.{Session}
use Rattle.jlr_machine.specs.Objects.{at}
use Rattle.jlr_machine.specs.declared.machine.Call.TheVariants.{Opening as CallOpening}
use Rattle.jlr_machine.specs.declared.machine.ResourceState.TheVariants.{Opening}
use Rattle.jlr_laws.proofs.Frames.{no_some, some_same}
use Rattle.jlr_state.specs.declared.resources.Guarded.{Guarded}
use Rattle.jlr_state.specs.Guards.{HoldsGuard}
use Rattle.jlr_state.specs.Machines.{machine_of}
use Rattle.jlr_state.proofs.Guards.{call_there, opened_allowed, opening_has_room, opening_holds}
use Rattle.jlr_state.proofs.state.State.check_opened.Goals as goal

pub returns-in-Some : goal.returns-in-Some
returns-in-Some g c =
    let m = machine_of c.args.self.now in
    let k = c.args.by in
    let rid = c.in-Some-Opening.field-0-0 in
    let there = call_there m k (CallOpening rid) (ap Some (sym c.in-Some-Opening.field-0-is) ∙ sym c.in-Some-Opening.is ∙ c.call.ensures
    ∙ ap (λ l. option_map (λ (s : Session). s.call) (at l k)) c.roots.ensures) in
    let h = opening_holds m k rid there.0 c.requires there.1 there.2 in
    let same : h.held ≡ c.in-Some.held = some_same h.held c.in-Some.held (sym h.under ∙ sym c.fenced.ensures ∙ c.in-Some.is) in (
      λ outcome. opened_allowed m k rid there.0 outcome there.1 there.2,
      subst (λ (x : Guarded). HoldsGuard m k x Opening) same h.holds,
      opening_has_room m k rid there.0 c.requires there.1 there.2,
    )

pub returns-in-None : goal.returns-in-None
returns-in-None g c =
    let m = machine_of c.args.self.now in
    let k = c.args.by in
    let rid = c.in-Some-Opening.field-0-0 in
    let there = call_there m k (CallOpening rid) (ap Some (sym c.in-Some-Opening.field-0-is) ∙ sym c.in-Some-Opening.is ∙ c.call.ensures
    ∙ ap (λ l. option_map (λ (s : Session). s.call) (at l k)) c.roots.ensures) in
    let h = opening_holds m k rid there.0 c.requires there.1 there.2 in
    no_some h.held (sym c.in-None.is ∙ c.fenced.ensures ∙ h.under)
