use Rattle.std.proofs.Common.{◌≡◌, ℕ, ◌+◌, ◌-◌, ◌≤◌, List, take, drop, length, ap, ◌∙◌, sym, inl, arith}
use Rattle.jlr_client.specs.Passing.{Waiting, between}
use Rattle.jlr_client.proofs.Sending.{gone_on, within}
use Rattle.jlr_client.proofs.outgoing.Outgoing.send.Goals as goal

pub returns-in-Ok : goal.returns-in-Ok
returns-in-Ok g c =
    let o = c.self.inside in
    let few : o.from + c.in-Ok.count ≤ o.to = within o.room.items o.from o.to c.in-Ok.count c.self.invariant.0
    (rw (← c.deref.ensures.value) c.in-Ok.ensures.bound) in (
      c.in-Ok.count,
      rw (← c.self.view_is, ← c.deref.ensures.value) c.in-Ok.ensures.bytes,
      inl
          (rw (← c.self.view_is) (ap {A = List ℕ} {B = Waiting} (λ b. record { bytes = b; stage = o.stage })
          (gone_on o.room.items o.from o.to c.in-Ok.count few))),
    )
