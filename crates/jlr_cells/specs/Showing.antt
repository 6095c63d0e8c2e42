-- What callers see of what lies in the cells.
use Rattle.std.specs.Prelude.{Bool, cond, List, [], ◌∷◌, None}
use Rattle.jlr_machine.specs.Objects.{Heap}

-- what is at the slots of a set; nothing elsewhere
abbrev pub shown : List Bool → Heap → Heap
shown set [] = []
shown [] (o ∷ heap) = None ∷ shown [] heap
shown (b ∷ set) (o ∷ heap) = cond b o None ∷ shown set heap
