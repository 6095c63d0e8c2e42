-- What an event and its reply are to the machine.
use Rattle.std.specs.Prelude.{◌≡◌, ◌<◌, ◌≤◌, ◌^◌, Option, Some, None, length}
use Rattle.jlr_types.specs.declared.Refusal.TheVariants.{NoMemory}
use Rattle.jlr_machine.specs.declared.machine.Machine.{Machine}
use Rattle.jlr_machine.specs.declared.ask.Ask.{Ask}
use Rattle.jlr_machine.specs.declared.ask.Ask.TheVariants.{Array, Bind, Faults, Names}
use Rattle.jlr_machine.specs.declared.ask.Ask.TheVariants.{Notes, Prepare}
use Rattle.jlr_machine.specs.declared.ask.Answer.{Answer}
use Rattle.jlr_machine.specs.declared.ask.Answer.TheVariants.{Refused}
use Rattle.jlr_machine.specs.Chosen.{Chosen}
use Rattle.jlr_machine.specs.declared.entry.Entry.{Entry}
use Rattle.jlr_machine.specs.Lookups.{slot_bound}
use Rattle.jlr_machine.specs.Refusals.{refusal}
use Rattle.jlr_machine.specs.Run.{no_choice, IsLegal, apply}
pub use Rattle.jlr_event.specs.Asks.{carries_none}
use Rattle.jlr_marks.specs.Marking.{Marking}
use Rattle.jlr_resource.specs.Resources.{Resources, resources}
use Rattle.jlr_state.specs.State.{MeetsAsk, entry_of}

-- the table has room for one resource more, in a place that has a number
abbrev pub TableHasRoom : {R : Type 0} → Resources R → Type 0
TableHasRoom t = (length (resources t) < t.room) × (t.next < 2 ^ 32)

-- The asks that may find no memory in a machine with this table, each where no refusal of its list holds: the table has
-- no room for one resource more, a list that is not empty is copied, the elements of an array are asked for, or a name
-- is new
abbrev pub MayWantMemory : {R : Type 0} → Machine → Resources R → Ask → Type 0
MayWantMemory m t (Prepare k) = (refusal m (Prepare k) ≡ None) × ¬ (TableHasRoom t)
MayWantMemory m t (Names k) = (refusal m (Names k) ≡ None) × (1 ≤ length m.names)
MayWantMemory m t (Notes k) = (refusal m (Notes k) ≡ None) × (1 ≤ length m.notes)
MayWantMemory m t (Faults k) = (refusal m (Faults k) ≡ None) × (1 ≤ length m.faults)
MayWantMemory m t (Array k n) = refusal m (Array k n) ≡ None
MayWantMemory m t (Bind k name h) = (refusal m (Bind k name h) ≡ None) × (slot_bound m.names name ≡ None)
MayWantMemory m t _ = ⊥

-- memory is said to have run out only there
abbrev pub WantsMemory : {R : Type 0} → Machine → Resources R → Option Ask → Option Answer → Type 0
WantsMemory m t (Some ask) answer = answer ≡ Some (Refused NoMemory) → MayWantMemory m t ask
WantsMemory m t None answer = Unit {0}

-- ---- What an event and its reply are to the machine

-- an ask met as its answer says; a piece of marking chooses nothing and leaves m
abbrev pub StepsMachine : Machine → Marking → Option Ask → Option Answer → Chosen → Machine → Type 0
StepsMachine m marking (Some ask) (Some answer) chosen n = MeetsAsk m marking ask answer chosen n
StepsMachine m marking (Some ask) None chosen n = ⊥
StepsMachine m marking None (Some answer) chosen n = ⊥
StepsMachine m marking None None chosen n = (chosen ≡ no_choice) × (n ≡ m)

-- ---- Entries

-- the entry of an ask, its answer and its choice; none where there is no ask or no answer
abbrev pub entry_with : Option Ask → Option Answer → Chosen → Option Entry
entry_with (Some ask) (Some answer) chosen = Some (entry_of ask answer chosen)
entry_with (Some ask) None chosen = None
entry_with None answer chosen = None

-- an event and its reply are an entry that is legal in m and leads to n; a piece of marking is none, and leaves m
abbrev pub EntersLegally : Machine → Option Ask → Option Answer → Chosen → Machine → Type 0
EntersLegally m (Some ask) (Some answer) chosen n = IsLegal m (entry_of ask answer chosen)
    × (n ≡ apply m (entry_of ask answer chosen))
EntersLegally m (Some ask) None chosen n = ⊥
EntersLegally m None (Some answer) chosen n = ⊥
EntersLegally m None None chosen n = (chosen ≡ no_choice) × (n ≡ m)
