-- Which asks may come with a collection, as far as the machine before them tells.
use Rattle.std.specs.Prelude.{◌≡◌, Bool, true, false, not, Option, Some, None}
use Rattle.jlr_machine.specs.declared.machine.Machine.{Machine}
use Rattle.jlr_machine.specs.declared.ask.Ask.{Ask}
use Rattle.jlr_machine.specs.declared.ask.Ask.TheVariants.{Full, Collect}
use Rattle.jlr_machine.specs.declared.entry.Entry.{Entry}
use Rattle.jlr_machine.specs.Refusals.{cells_needed}
use Rattle.jlr_machine.specs.Run.{IsLegal, has_room}

-- a full collection that is asked for, that of an open cycle, and one for new objects that find no room; none for a
-- piece of marking. Refusals are not looked at
abbrev pub may_collect : Machine → Option Ask → Bool
may_collect m None = false
may_collect m (Some (Full k mode)) = true
may_collect m (Some Collect) = m.cycle_open
may_collect m (Some ask) = not (has_room m (cells_needed ask))

-- ---- Law

abbrev pub NoCollectionUnlessItMay : Type 0
NoCollectionUnlessItMay = (m : Machine) (e : Entry) → IsLegal m e → may_collect m (Some e.ask) ≡ false
    → e.choice.collected ≡ None
