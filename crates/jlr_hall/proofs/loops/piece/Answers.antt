use Rattle.std.proofs.Common.{inr, refl}
use Rattle.jlr_event.specs.declared.event.Event.TheVariants.{Mark}
use Rattle.jlr_hall.specs.Loops.{IsMarkers}
use Rattle.jlr_hall.proofs.Turns.{asked_anywhere, asks_more}
use Rattle.jlr_hall.proofs.loops.piece.Goals as goal

pub returns : goal.returns
returns g c = λ first h.
    let limits = g.L.Limited.limits in
    asks_more limits (IsMarkers limits c.args.budget) (Mark c.args.budget) c.mark.result first c.args.seat.now c.mark.new.self h
    (asked_anywhere limits (IsMarkers limits c.args.budget) c.args.seat.now (Mark c.args.budget) c.mark.result c.mark.new.self
    (λ log. inr (inr refl)) c.mark.ensures)
