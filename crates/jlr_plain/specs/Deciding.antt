-- The parts of the test whether an entry is legal, and the machine behind it.
use Rattle.std.specs.Prelude.{◌≡◌, Bool, true, false, ◌&&◌, ◌||◌, is_none}
use Rattle.jlr_machine.specs.declared.machine.Machine.{Machine}
use Rattle.jlr_machine.specs.declared.entry.Entry.{Entry}
use Rattle.jlr_machine.specs.Refusals.{cells_needed, refusal}
use Rattle.jlr_machine.specs.Run.{carried, now_seen}
use Rattle.jlr_laws.specs.Deciding.{is_rightly_refused, is_heap_full, is_out_of_memory, are_fresh, is_answer}
use Rattle.jlr_laws.specs.Deciding.{may_have_collected}

-- it may be carried out so in the machine that its collection left
abbrev pub fits_after : Entry → Machine → Bool
fits_after e n = are_fresh n.objects (cells_needed e.ask) e.choice.fresh
    && is_answer n e.ask e.choice.collected e.answer

-- it is legal, and not carried out
abbrev pub declines : Machine → Entry → Bool
declines m e = is_rightly_refused m e || is_heap_full m e || is_out_of_memory m e

-- it is legal if just the rest fits in the machine that its collection leaves
pub record HasAllowedCollection (m : Machine) (e : Entry) : Type 0 where
  pub allowed : (is_none (refusal m e.ask) && may_have_collected m e.ask e.choice.collected) ≡ true
  pub carried_out : declines m e ≡ false

-- what is done in the machine that its collection left, before it is said what was seen
abbrev pub carried_in : Machine → Entry → Machine
carried_in n e = carried n e.ask e.answer e.choice.fresh

-- and with what was seen
abbrev pub completed : Machine → Entry → Machine
completed n e = let d = carried_in n e in record d { seen = now_seen d }
