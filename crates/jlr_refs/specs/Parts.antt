-- What the calls on references need, and what they leave, in any machine of which the heap keeps its part.
use Rattle.std.specs.Prelude.{◌≡◌, ℕ, cond, List, [], ◌∷◌, drop, Option, Some, None, option_and_then, option_map}
use Rattle.std.specs.Prelude.{slice_get}
use Rattle.jlr_machine.specs.declared.machine.Machine.{Machine}
use Rattle.jlr_machine.specs.declared.object.Object.{Object}
use Rattle.jlr_machine.specs.declared.object.Reference.{Reference as ReferenceOf}
use Rattle.jlr_machine.specs.declared.object.Cleanable.{Cleanable as CleanableOf}
use Rattle.jlr_machine.specs.declared.ask.Handed.{Handed}
use Rattle.jlr_machine.specs.declared.ask.Handed.TheVariants.{Skipped}
use Rattle.jlr_machine.specs.declared.ask.Answer.TheVariants.{Handed as HandedAnswer}
use Rattle.jlr_machine.specs.Objects.{Heap, ◌∈◌, as_cleanable, as_reference, at, is_lined, with_cleanable}
use Rattle.jlr_machine.specs.Calls.{delivered, enqueued, from_lined, hand_over_answer, handed, handed_over, polled}
use Rattle.jlr_machine.specs.Calls.{spent}
use Rattle.jlr_machine.specs.Lookups.{cleanable_at, with_object}
use Rattle.jlr_machine.specs.WellFormed.{IsWellFormed}
use Rattle.jlr_cells.specs.Contents.{next_in}
use Rattle.jlr_barrier.specs.Graphs.{Graph, in_machine}

-- the heap keeps its part of some well-formed machine
abbrev pub IsPartOfMachine : Graph → Type 0
IsPartOfMachine g = (m : Machine) × IsWellFormed (in_machine m g)

abbrev pub reference_at : Heap → ℕ → Option ReferenceOf
reference_at heap s = option_and_then as_reference (at heap s)

-- the reference at s loses its referent, and goes to the end of its queue, if it may
abbrev pub Enqueues : Graph → ℕ → Graph → Type 0
Enqueues g s h = (m : Machine) → in_machine m h ≡ enqueued (in_machine m g) s

-- the front of the queue at q, if there is one, is removed from it
abbrev pub Polls : Graph → ℕ → Option ℕ → Graph → Type 0
Polls g q front h = (m : Machine) → in_machine m h ≡ polled (in_machine m g) q front

-- ---- The handler's step

-- what it does with what is at a slot
abbrev pub handed_there : Option Object → Handed
handed_there None = Skipped
handed_there (Some o) = handed o

-- the object at s, the front of the pending list, leaves it and is delivered, a reference to its queue, a cleanable to
-- the line
abbrev pub DeliversFront : Graph → ℕ → Handed → Graph → Type 0
DeliversFront g s handed h = (m : Machine)
    → in_machine m h ≡ record (delivered (in_machine m g) s handed) { pending = drop 1 g.pending }

-- the queue that is ahead of what is at the front of the pending list
abbrev pub queue_in_front : Graph → Option ℕ
queue_in_front g = option_and_then (λ s. next_in (at g.objects s)) (slice_get g.pending 0)

abbrev pub HandsOverReference : Graph → Handed → Graph → Type 0
HandsOverReference g handed h = (m : Machine) → (hand_over_answer (in_machine m g) g.pending
    ≡ Some (HandedAnswer handed))
    × (in_machine m h ≡ handed_over (in_machine m g) g.pending)

-- ---- The line

-- the cleanable that is at a slot, if it is Lined
abbrev pub lined_in : Option Object → Option CleanableOf
lined_in o = option_and_then (λ c. cond (is_lined c.state) (Some c) None) (option_and_then as_cleanable o)

abbrev pub HasNoneLined : Heap → List ℕ → Type 0
HasNoneLined heap line = (s : ℕ) → s ∈ line → lined_in (at heap s) ≡ None

-- the slot at the front of a line, and the cleanable there
abbrev pub front_of : Machine → List ℕ → Option (ℕ × CleanableOf)
front_of m [] = None
front_of m (s ∷ rest) = option_map (λ c. (s, c)) (cleanable_at m s)

-- which leaves the line, and is Spent
abbrev pub front_spent : Machine → List ℕ → Machine
front_spent m [] = record m { line = [] }
front_spent m (s ∷ rest) = record (with_object m s (with_cleanable spent)) { line = rest }

-- the line up to its first Lined cleanable goes, and that one with it, which is told with its slot and becomes Spent
abbrev pub TakesLined : Graph → Option (ℕ × CleanableOf) → Graph → Type 0
TakesLined g taken h = (m : Machine) → (taken ≡ front_of (in_machine m g) (from_lined (in_machine m g) g.line))
    × (in_machine m h ≡ front_spent (in_machine m g) (from_lined (in_machine m g) g.line))
