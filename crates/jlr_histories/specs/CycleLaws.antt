-- Statements of the laws of open cycles. Each is the contract of a function of its own, with an empty body.
use Rattle.std.specs.Prelude.{◌≡◌, ◌<◌, ◌⊎◌, ◌++◌, ℕ, length, true, false, List, []}
use Rattle.jlr_machine.specs.declared.machine.Machine.{Machine}
use Rattle.jlr_machine.specs.declared.entry.Entry.{Entry}
use Rattle.jlr_machine.specs.declared.ask.Ask.{Ask}
use Rattle.jlr_machine.specs.declared.ask.Answer.{Answer}
use Rattle.jlr_machine.specs.Calls.{after}
use Rattle.jlr_machine.specs.Edges.{edges_from, roots}
use Rattle.jlr_machine.specs.Edges.Chain.{UpToSoft}
use Rattle.jlr_machine.specs.Reachable.{IsReached}
use Rattle.jlr_machine.specs.Objects.{◌∈◌}
use Rattle.jlr_machine.specs.Run.{IsLegal, apply, done, now_seen}
use Rattle.jlr_machine.specs.WellFormed.{IsWellFormed}
use Rattle.jlr_machine.specs.StandsFor.{StandsFor}

-- the machine with these slots seen
abbrev pub with_seen : Machine → List ℕ → Machine
with_seen m slots = record m { seen = slots }

-- ---- What was seen

-- the more was seen, the more is legal
abbrev pub LegalWhenMoreWasSeen : Type 0
LegalWhenMoreWasSeen = (m : Machine) (slots : List ℕ) (e : Entry) → ((s : ℕ) → s ∈ m.seen → s ∈ slots) → IsLegal m e
    → IsLegal (with_seen m slots) e

-- and all else that an entry leaves is the same
abbrev pub LeavesTheSameWhateverWasSeen : Type 0
LeavesTheSameWhateverWasSeen = (m : Machine) (slots : List ℕ) (e : Entry)
    → with_seen (done (with_seen m slots) e) [] ≡ with_seen (done m e) []

-- what was seen stays seen as long as the cycle is open
abbrev pub SeenStaysSeen : Type 0
SeenStaysSeen = (m : Machine) (e : Entry) (s : ℕ) → IsWellFormed m → IsLegal m e → s ∈ m.seen
    → (apply m e).cycle_open ≡ true → s ∈ (apply m e).seen

-- ---- The machines for which a core stands that has marked nothing

abbrev pub StandsForItself : Type 0
StandsForItself = (m : Machine) → m.cycle_open ≡ false → m.seen ≡ [] → StandsFor m [] m

-- the entry is legal in the machine, and the core stands for what the machine becomes
abbrev pub StandsAfter : Machine → Machine → Entry → Type 0
StandsAfter core m e = IsLegal m e × StandsFor (with_seen (done core e) []) [] (apply m e)

-- what is legal where just what the roots now reach was seen
abbrev pub GoesOnStanding : Type 0
GoesOnStanding = (core m : Machine) (e : Entry) → IsWellFormed core → StandsFor core [] m
    → IsLegal (with_seen core (now_seen core)) e → StandsAfter core m e

-- what is legal where nothing was seen
abbrev pub LegalInAllForWhichItStands : Type 0
LegalInAllForWhichItStands = (core m : Machine) (e : Entry) → IsWellFormed core → StandsFor core [] m → IsLegal core e
    → StandsAfter core m e

-- after either the core's machine is well formed again
abbrev pub CoreStaysWellFormed : Type 0
CoreStaysWellFormed = (core : Machine) (e : Entry) → IsWellFormed core → IsLegal core e
    ⊎ IsLegal (with_seen core (now_seen core)) e → IsWellFormed (with_seen (done core e) [])

-- ---- What an ask adds

-- each strong or soft edge that it adds leads to a root of the machine before it or after it
abbrev pub AddsEdgesToRootsAlone : Type 0
AddsEdgesToRootsAlone =
    (m : Machine) (ask : Ask) (a : Answer) (fresh : List ℕ) → ((s : ℕ) → s ∈ fresh → s < length m.objects)
    → (x y : ℕ) → y ∈ edges_from UpToSoft (after m ask a fresh).objects x → (y ∈ edges_from UpToSoft m.objects x)
    ⊎ ((y ∈ roots m) ⊎ (y ∈ roots (after m ask a fresh)))

-- ---- The machines for which a core stands that has marked something

-- what is marked after an entry: in an open cycle the roots or what was marked reached it by strong and soft edges, or
-- it is a root now
abbrev pub MarksFollow : Machine → List ℕ → Machine → List ℕ → Type 0
MarksFollow m old n new = (s : ℕ) → s ∈ new → ((m.cycle_open ≡ true) × IsReached UpToSoft m.objects (roots m ++ old) s)
    ⊎ (s ∈ roots n)

-- what is legal where only marked objects were seen, in an open cycle, is legal in the machine, and the core stands for
-- what it becomes
abbrev pub GoesOnMarking : Type 0
GoesOnMarking =
    (core m : Machine) (old new slots : List ℕ) (e : Entry) → IsWellFormed core → StandsFor core old m
    → ((s : ℕ) → s ∈ old → s < length core.objects)
    → ((s : ℕ) → s ∈ slots → (core.cycle_open ≡ true) × (s ∈ old)) → IsWellFormed (with_seen core slots)
    → IsLegal (with_seen core slots) e
    → MarksFollow core old (done core e) new → IsLegal m e × StandsFor (with_seen (done core e) []) new (apply m e)
