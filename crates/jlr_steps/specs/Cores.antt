-- What a core is seen as: the machine that it keeps, what it marked, its soft policy, and its files and sockets; and
-- the machines for which it stands.
use Rattle.std.specs.Prelude.{ℕ, Bool, List}
use Rattle.jlr_machine.specs.declared.machine.Machine.{Machine}
use Rattle.jlr_resource.specs.Resources.{Resources}
use Rattle.jlr_cleaner.specs.Cleanings.{Cleanings}
use Rattle.jlr_barrier.specs.Graphs.{Clock, Known}
use Rattle.jlr_machine.specs.StandsFor.{StandsFor}
use Rattle.jlr_marks.specs.Marking.{Marking}
use Rattle.jlr_state.specs.State.{machine_with, marked_in}

pub record Kept (R : Type 0) : Type 0 where
  -- with nothing seen
  pub machine : Machine
  -- the marks, and the objects that are marked in an open cycle
  pub marking : Marking
  pub marked : List ℕ
  -- of the cells without an object so many are condemned: not free yet
  pub condemned : ℕ
  -- the soft policy: its age, in collections, and its time, with the count of cells that were taken since a collection
  -- finished last
  pub soft_age : ℕ
  pub clock : Clock
  -- the table of the machine's resources, with the values of those that lie in it
  pub table : Resources R

abbrev pub kept_with : {R : Type 0} → Cleanings R → Known → ℕ → Bool → Kept R
kept_with c heap soft_age cycle_open =
    record {
      machine = machine_with c heap.graph cycle_open;
      marking = heap.marking;
      marked = marked_in (machine_with c heap.graph cycle_open) heap.marking;
      condemned = heap.condemned;
      soft_age = soft_age;
      clock = heap.clock;
      table = c.table;
    }

abbrev pub StandsIn : {R : Type 0} → Kept R → Machine → Type 0
StandsIn core m = StandsFor core.machine core.marked m
