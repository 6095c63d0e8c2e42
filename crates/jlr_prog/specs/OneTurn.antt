-- Single turns of a settling, which no public clause names.
use Rattle.jlr_machine.specs.declared.ask.Answer.{Answer}
use Rattle.jlr_machine.specs.declared.ask.Answer.TheVariants.{Refused}
use Rattle.jlr_event.specs.declared.event.Event.{Event}
use Rattle.jlr_event.specs.declared.event.Reply.{Reply}
use Rattle.jlr_book.specs.Rules.{was_refused}
use Rattle.jlr_prog.specs.declared.solo.solo.Turn.{Turn}
use Rattle.jlr_prog.specs.declared.solo.solo.Turn.TheVariants as turn

-- what an answer says of a turn
abbrev pub turn_by : Answer → Turn
turn_by (Refused by) = turn.Refused
turn_by answer = turn.Worked

-- a turn, or the ask that was refused
abbrev pub IsTurn : {H R : Type 0} → (H → Event R → Reply R → H → Type 0) → (H → H → Type 0) → Event R → Turn → H → H
    → Type 0
IsTurn {H} {R} asks works event turn.Worked old new = works old new
IsTurn {H} {R} asks works event turn.Refused old new = (last : Reply R) × asks old event last new × was_refused last
