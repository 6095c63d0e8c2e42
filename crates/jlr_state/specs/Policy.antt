-- The soft policy: which references a collection keeps, and what an event does to its clock.
use Rattle.std.specs.Prelude.{◌≡◌, ℕ, length, Option, Some}
use Rattle.jlr_machine.specs.declared.machine.Machine.{Machine}
use Rattle.jlr_machine.specs.declared.ask.Ask.{Ask}
use Rattle.jlr_machine.specs.declared.ask.Ask.TheVariants.{Collect, Deref, Full}
use Rattle.jlr_machine.specs.declared.ask.Answer.{Answer}
use Rattle.jlr_machine.specs.Chosen.{Chosen}
use Rattle.jlr_machine.specs.declared.entry.Collected.{Collected}
use Rattle.jlr_machine.specs.Edges.{roots}
use Rattle.jlr_soft.specs.declared.policy.Mode.{Mode}
use Rattle.jlr_laws.specs.Laws.{IsFullMarking}
use Rattle.jlr_barrier.specs.Graphs.{Clock}
use Rattle.jlr_marks.specs.Marking.{Marking, marked}
use Rattle.jlr_process.specs.Settling.{marked_below}
use Rattle.jlr_marker.specs.Following.{keeps}
use Rattle.jlr_state.specs.State.{clock_after_deref}
use Rattle.jlr_state.specs.Collecting.{after_choice, mode_of}

-- A collection keeps the least set that holds the roots and is closed under strong edges and under the soft edges of
-- those members that the policy keeps in this mode
abbrev pub KeepsIn : Mode → ℕ → Clock → Machine → Chosen → Type 0
KeepsIn mode soft_age clock m chosen = (c : Collected) → chosen.collected ≡ Some c
    → IsFullMarking (keeps (record { soft_age = soft_age; mode = mode }) clock) m.objects (roots m) c.kept c.pending

-- A collection keeps exactly what is marked, so many objects as there are marks
abbrev pub KeepsMarked : Machine → Marking → Chosen → Type 0
KeepsMarked m marking chosen = (c : Collected) → chosen.collected ≡ Some c
    → (c.kept ≡ marked_below marking (length m.objects)) × (length c.kept ≡ marked marking)

-- one that is asked for keeps what its mode says, and that of a cycle what is marked: the policy was asked when it was
-- marked. Of those that make room the machine says it
abbrev pub KeepsByPolicy : ℕ → Clock → Machine → Marking → Option Ask → Chosen → Type 0
KeepsByPolicy soft_age clock m marking (Some (Full k mode)) chosen = KeepsIn (mode_of mode) soft_age clock m chosen
KeepsByPolicy soft_age clock m marking (Some Collect) chosen = KeepsMarked m marking chosen
KeepsByPolicy soft_age clock m marking _ chosen = Unit {0}

-- the clock after an event: a Deref that gives a referent is a use of the reference, a collection is counted, and what
-- was made is new
abbrev pub clock_after : Machine → Clock → Option Ask → Option Answer → Chosen → Clock
clock_after m c (Some (Deref k r)) (Some answer) chosen = clock_after_deref m k r answer c
clock_after m c ask answer chosen = after_choice chosen c
