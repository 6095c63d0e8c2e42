use Rattle.std.proofs.Common.{arith, sym, ◌∙◌}
use Rattle.std.proofs.lemmas.Grind.{common_steps}
use Rattle.jlr_state.specs.declared.resources.Guarded.{Guarded}
use Rattle.jlr_state.specs.Guards.{IsGuardNamed}
use Rattle.jlr_state.specs.Machines.{machine_of}
use Rattle.jlr_state.specs.TakeUps.{IsFreeMutator}
use Rattle.jlr_state.proofs.Guards.{use_allowed, use_idle}
use Rattle.jlr_state.proofs.state.State.check_use.Goals as goal

pub returns : goal.returns
returns g c =
    let m = machine_of c.args.self.now in
    let k = c.args.by in
    let h = c.args.guard in
    let held : Guarded = record { slot = c.in_ok-slot.slot; guard = c.in_ok-guard.guard } in
    let named : IsGuardNamed m k h held = record { named = c.in_ok-slot.ensures.slot.0; guard = c.in_ok-guard.ensures } in
    let open_still = sym c.is_closed.ensures ∙ c.if-is_closed.false in
    let not_out = sym c.is_out.ensures ∙ c.if-is_out.false in
    let free : IsFreeMutator m k = record { joined = c.in_ok-check_session.ensures; free = c.in_ok-check_no_call.ensures } in (
      use_allowed m k h held free.joined c.in_ok-slot.ensures.in_use c.in_ok-slot.ensures.slot.1 named open_still not_out free.free,
      named,
      free,
      use_idle m k h held c.requires named open_still not_out,
    )

pub returns-then-is_out : goal.returns-then-is_out
returns-then-is_out g c = grind (arith, common_steps)
