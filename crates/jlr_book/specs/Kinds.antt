-- Kinds of asks and events.
use Rattle.std.specs.Prelude.{Bool, true, false, not}
use Rattle.jlr_machine.specs.declared.ask.Ask.{Ask}
use Rattle.jlr_machine.specs.declared.ask.Ask.TheVariants as ask
use Rattle.jlr_machine.specs.Refusals.{is_end}
use Rattle.jlr_event.specs.declared.event.Event.{Event}
use Rattle.jlr_event.specs.declared.event.Event.TheVariants.{Ask as Asks}

-- no end, and no file or socket goes in or out with it
abbrev pub fits_fast_path : Ask → Bool
fits_fast_path (ask.Clean k c) = false
fits_fast_path (ask.CheckOut k h) = false
fits_fast_path (ask.Close k h) = false
fits_fast_path ask.TakeUp = false
fits_fast_path a = not (is_end a)

-- an event that is no plain ask: the end of an open or a call, or a piece of marking
abbrev pub hands_in_or_marks : {R : Type 0} → Event R → Bool
hands_in_or_marks (Asks a) = false
hands_in_or_marks event = true
