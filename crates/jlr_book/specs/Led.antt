-- Where the records of entries lead, without what was seen.
use Rattle.std.specs.Prelude.{◌≡◌, false, List, [], ◌∷◌}
use Rattle.jlr_machine.specs.declared.machine.Machine.{Machine}
use Rattle.jlr_machine.specs.Run.{Run, apply}
use Rattle.jlr_machine.specs.WellFormed.{IsWellFormed}
use Rattle.jlr_plain.specs.declared.record.Record.{Record}
use Rattle.jlr_plain.specs.Records.{entry_in, replayed}
use Rattle.jlr_plain.specs.Unseen.{unseen}

-- the machine with no cycle open, and nothing seen
abbrev pub shut : Machine → Machine
shut m = record m { cycle_open = false; seen = [] }

-- and with what was seen
abbrev pub with_cycle_closed : Machine → Machine
with_cycle_closed m = record m { cycle_open = false }

-- the machine to which the entries of records lead
abbrev pub led : Machine → List Record → Machine
led m [] = m
led m (r ∷ records) = led (unseen (apply m (entry_in m r))) records

-- their entries are a run from a well-formed machine, which is this one but for what was seen
pub record LeadsOn (n : Machine) (records : List Record) : Type 0 where
  pub machine : Machine
  pub same : n ≡ unseen machine
  pub formed : IsWellFormed machine
  pub last : Machine
  pub run : Run machine (replayed machine records) last
