-- Entries that are followed without what was seen: only whether they are legal depends on it.
use Rattle.std.specs.Prelude.{◌≡◌, []}
use Rattle.jlr_machine.specs.declared.machine.Machine.{Machine}
use Rattle.jlr_machine.specs.declared.entry.Entry.{Entry}
use Rattle.jlr_machine.specs.Run.{IsLegal}
use Rattle.jlr_machine.specs.WellFormed.{IsWellFormed}

-- the machine without what was seen
abbrev pub unseen : Machine → Machine
unseen m = record m { seen = [] }

-- the entry is legal in a well-formed machine, which is this one but for what was seen
pub record IsLegalBefore (n : Machine) (e : Entry) : Type 0 where
  pub machine : Machine
  pub same : n ≡ unseen machine
  pub formed : IsWellFormed machine
  pub legal : IsLegal machine e
