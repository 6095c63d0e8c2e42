use Rattle.std.proofs.Common.{◌+◌, ◌∙◌, ap}
use Rattle.jlr_hall.specs.Loops.{IsHandlers}
use Rattle.jlr_server.specs.Serving.{Work}
use Rattle.jlr_server.proofs.Works.{chain_stays, fresh_there, handed_over}
use Rattle.jlr_server.proofs.worked.Worked.hand_over.Goals as goal

pub invariant_of-result : goal.invariant_of-result
invariant_of-result g c =
    let p = c.self.inside.seat in
    let fresh = rw (← c.self.view_is) at c.requires.fresh in
    let at = rw (← c.self.view_is) at c.requires.seat in
    handed_over _ _ _ _ _ _ _ p c.handler_loop.result c.self.inside.first.value c.self.inside.device
    (fresh_there p (g.L.Limited.limits.sessions + 1) fresh at) c.handler_loop.ensures

pub returns : goal.returns
returns g c =
    let did = c.handler_loop.ensures in (
      chain_stays g.L.Limited.limits (IsHandlers g.L.Limited.limits) c.self.inside.seat did.0 c.handler_loop.result did.1
          ∙ ap (λ (w : Work g.row.D.Denot g.row.D-Res.Denot). w.seat.seat) c.self.view_is,
      ap (λ (w : Work g.row.D.Denot g.row.D-Res.Denot). w.first) c.self.view_is,
    )
