use Rattle.std.proofs.Common.{subst}
use Rattle.jlr_event.specs.declared.event.Event.{Event}
use Rattle.jlr_hall.specs.Asking.{Asked}
use Rattle.jlr_hall.proofs.Plain.{brings_none}
use Rattle.jlr_hall.proofs.seat.Seat.ask_plain.Goals as goal

pub ask_once-requires : goal.ask_once-requires
ask_once-requires g c = brings_none (Unit {0}) c.ask.result c.args.ask c.ask.ensures c.requires.plain

pub returns-clause-asked : goal.returns-clause-asked
returns-clause-asked g c =
    subst (λ (e : Event g.row.R.Denot). Asked g.L.Limited.limits c.args.self.now e c.ask_once.result c.ask_once.new.self) c.ask.ensures
    c.ask_once.ensures.asked
