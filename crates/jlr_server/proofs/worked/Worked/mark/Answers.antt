use Rattle.std.proofs.Common.{ℕ, ◌∙◌, ap, subst}
use Rattle.jlr_hall.specs.Loops.{AsksOnly, IsMarkers}
use Rattle.jlr_server.specs.Serving.{Work}
use Rattle.jlr_server.proofs.Works.{chain_stays, fresh_there, marked}
use Rattle.jlr_server.proofs.worked.Worked.mark.Goals as goal

pub invariant_of-result : goal.invariant_of-result
invariant_of-result g c =
    let p = c.self.inside.seat in
    let fresh = rw (← c.self.view_is) at c.requires.fresh in
    let at = rw (← c.self.view_is) at c.requires.seat in
    let did = subst (λ (b : ℕ). AsksOnly g.L.Limited.limits (IsMarkers g.L.Limited.limits b) p c.marker_loop.result)
    c.budget-budget.ensures c.marker_loop.ensures in
    marked _ _ _ _ _ _ _ p c.marker_loop.result c.self.inside.first.value c.self.inside.device
    (fresh_there p g.L.Limited.limits.sessions fresh at) did

pub returns : goal.returns
returns g c =
    let did = c.marker_loop.ensures in
    let may = IsMarkers g.L.Limited.limits c.budget-budget.result in (
      chain_stays g.L.Limited.limits may c.self.inside.seat did.0 c.marker_loop.result did.1
          ∙ ap (λ (w : Work g.row.D.Denot g.row.D-Res.Denot). w.seat.seat) c.self.view_is,
      ap (λ (w : Work g.row.D.Denot g.row.D-Res.Denot). w.first) c.self.view_is,
    )
