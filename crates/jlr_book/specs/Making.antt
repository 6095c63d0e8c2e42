-- The room of an entry that is no end's, made before its ask.
use Rattle.std.specs.Prelude.{◌≡◌, ◌≤◌, false, length, Option}
use Rattle.jlr_machine.specs.declared.machine.Machine.{Machine}
use Rattle.jlr_machine.specs.declared.ask.Ask.{Ask}
use Rattle.jlr_histories.specs.Collecting.{may_collect}
use Rattle.jlr_book.specs.declared.room.ChoiceRoom.{ChoiceRoom}
use Rattle.jlr_book.specs.declared.room.ChoiceRoom.TheVariants.{Collecting, Plain}

-- a whole choice, or no room where no collection comes
abbrev pub SuitsChoice : Machine → Option Ask → ChoiceRoom → Type 0
SuitsChoice m ask (Collecting choice) = length m.objects ≤ choice.value.cells
SuitsChoice m ask Plain = may_collect m ask ≡ false
