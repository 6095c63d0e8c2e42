use Rattle.std.proofs.Common.{inl, inr, refl}
use Rattle.jlr_machine.specs.declared.ask.Ask.TheVariants.{Collect}
use Rattle.jlr_event.specs.declared.event.Event.TheVariants.{Ask as Asks}
use Rattle.jlr_hall.specs.Loops.{IsMarkers}
use Rattle.jlr_hall.proofs.Turns.{asked_anywhere, asks_more}
use Rattle.jlr_hall.proofs.loops.collect.Goals as goal

pub returns-then-was_refused : goal.returns-then-was_refused
returns-then-was_refused g c = λ first h.
    let limits = g.L.Limited.limits in
    asks_more limits (IsMarkers limits c.args.budget) (Asks Collect) c.ask_plain.result first c.args.seat.now c.ask_plain.new.self h
    (asked_anywhere limits (IsMarkers limits c.args.budget) c.args.seat.now (Asks Collect) c.ask_plain.result c.ask_plain.new.self
    (λ log. inr (inl refl)) c.ask_plain.ensures.asked)

pub returns-else-was_refused : goal.returns-else-was_refused
returns-else-was_refused g c = λ first h.
    let limits = g.L.Limited.limits in
    c.sweep.ensures first
    (asks_more limits (IsMarkers limits c.args.budget) (Asks Collect) c.ask_plain.result first c.args.seat.now c.ask_plain.new.self h
    (asked_anywhere limits (IsMarkers limits c.args.budget) c.args.seat.now (Asks Collect) c.ask_plain.result c.ask_plain.new.self
    (λ log. inr (inl refl)) c.ask_plain.ensures.asked))
