use Rattle.std.proofs.Common.{sym, ◌∙◌}
use Rattle.jlr_state.specs.declared.resources.Guarded.{Guarded}
use Rattle.jlr_state.specs.Guards.{IsGuardNamed}
use Rattle.jlr_state.specs.Machines.{machine_of}
use Rattle.jlr_state.specs.TakeUps.{IsFreeMutator}
use Rattle.jlr_state.proofs.Guards.{cleanable_of_named, close_allowed, close_idle}
use Rattle.jlr_state.proofs.state.State.check_close.Goals as goal

pub returns : goal.returns
returns g c =
    let m = machine_of c.args.self.now in
    let k = c.args.by in
    let h = c.args.guard in
    let held : Guarded = record { slot = c.in_ok-slot.slot; guard = c.in_ok-guard.guard } in
    let named : IsGuardNamed m k h held = record { named = c.in_ok-slot.ensures.slot.0; guard = c.in_ok-guard.ensures } in
    let not_busy = sym c.is_busy.ensures ∙ c.if-is_busy.false in
    let free : IsFreeMutator m k = record { joined = c.in_ok-check_session.ensures; free = c.in_ok-check_no_call.ensures } in
    let cleanable = cleanable_of_named m k h held c.requires named in (
      close_allowed m k h held free.joined c.in_ok-slot.ensures.in_use c.in_ok-slot.ensures.slot.1 named not_busy free.free,
      cleanable.0,
      free,
      close_idle m k h held c.requires named not_busy,
      cleanable.1,
    )
