-- Worked runs on arrays. Each is a list of entries as a core writes them.
use Rattle.std.specs.Prelude.{List, [], ◌∷◌, true, false}
use Rattle.jlr_types.specs.declared.Refusal.TheVariants.{WrongKind, NoField}
use Rattle.jlr_machine.specs.declared.ask.Ask.TheVariants.{Join, Leave, New, Put, Get, Int, Drop, Full, Stat, Array}
use Rattle.jlr_machine.specs.declared.ask.Ask.TheVariants.{Begin, Collect}
use Rattle.jlr_machine.specs.declared.ask.FullMode.TheVariants.{Policy}
use Rattle.jlr_machine.specs.declared.ask.Answer.TheVariants.{Done, Handle, Truth, Stat as StatAnswer, Refused}
use Rattle.jlr_machine.specs.declared.entry.Entry.{Entry}
use Rattle.jlr_laws.specs.Rows.{entry, making, collecting_entry, stat}

-- `array 3; new -; put 1 2 2; drop 2; gc; get 1 2; get 1 3; put 1 3 0; int 1 0; stat; get 1 4095`: an element holds
-- what it refers to
abbrev pub array_row : List Entry
array_row =
    entry (Join 0) Done
    ∷ making (Array 0 3) (Handle 1) 0
    ∷ making (New 0 []) (Handle 2) 1
    ∷ entry (Put 0 1 2 2) Done
    ∷ entry (Drop 0 2) Done
    ∷ collecting_entry (Full 0 Policy) Done (0 ∷ 1 ∷ []) []
    ∷ entry (Get 0 1 2) (Handle 2)
    ∷ entry (Get 0 1 3) (Refused NoField)
    ∷ entry (Put 0 1 3 0) (Refused NoField)
    ∷ entry (Int 0 1 0) (Refused WrongKind)
    ∷ entry (Stat 0) (StatAnswer (stat 2 0 0 0 0))
    ∷ entry (Get 0 1 4095) (Refused NoField)
    ∷ entry (Leave 0) Done
    ∷ []

-- an object that only an array's last element leads to is kept by a cycle
abbrev pub array_in_cycle_row : List Entry
array_in_cycle_row =
    entry (Join 0) Done
    ∷ making (Array 0 130) (Handle 1) 0
    ∷ making (New 0 []) (Handle 2) 1
    ∷ entry (Put 0 1 129 2) Done
    ∷ entry (Drop 0 2) Done
    ∷ entry Begin (Truth true)
    ∷ entry Collect (Truth false)
    ∷ collecting_entry Collect (Truth true) (0 ∷ 1 ∷ []) []
    ∷ entry (Get 0 1 129) (Handle 2)
    ∷ []
