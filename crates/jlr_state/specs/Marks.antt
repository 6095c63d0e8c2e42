-- What an event does to the marks.
use Rattle.std.specs.Prelude.{◌≡◌, ◌↔◌, ◌⊎◌, ◌+◌, ◌-◌, ℕ, Bool, true, false, length, Option, Some, None, is_some}
use Rattle.std.specs.Prelude.{slice_get}
use Rattle.jlr_types.specs.declared.Progress.{Progress}
use Rattle.jlr_types.specs.declared.Progress.TheVariants.{Idle}
use Rattle.jlr_machine.specs.declared.machine.Machine.{Machine}
use Rattle.jlr_machine.specs.declared.ask.Ask.{Ask}
use Rattle.jlr_machine.specs.declared.ask.Ask.TheVariants.{Begin, Full}
use Rattle.jlr_machine.specs.declared.ask.Answer.{Answer}
use Rattle.jlr_machine.specs.declared.ask.Answer.TheVariants.{Done}
use Rattle.jlr_machine.specs.Chosen.{Chosen}
use Rattle.jlr_machine.specs.Objects.{Heap, ◌∈◌}
use Rattle.jlr_machine.specs.Edges.{roots}
use Rattle.jlr_machine.specs.Edges.Chain.{UpToSoft}
use Rattle.jlr_machine.specs.Reachable.{Reaches}
use Rattle.jlr_soft.specs.declared.policy.Mode.TheVariants.{Policy}
use Rattle.jlr_marks.specs.Marking.{Marking, Blackened, IsMarked, marked}
use Rattle.jlr_barrier.specs.Graphs.{Clock}
use Rattle.jlr_marker.specs.Following.{keeps}
use Rattle.jlr_marker.specs.Spending.{ticks_spent}
use Rattle.jlr_marker.specs.Marks.{Blackens, MarksOn}
use Rattle.jlr_event.specs.declared.event.Event.{Event}
use Rattle.jlr_event.specs.declared.event.Event.TheVariants.{Mark}
use Rattle.jlr_event.specs.declared.event.Reply.{Reply}
use Rattle.jlr_event.specs.declared.event.Reply.TheVariants.{Marked}
use Rattle.jlr_event.specs.Events.{ask_of}

-- ---- In an open cycle

-- strong and soft edges lead to s from a root, or from what is marked
abbrev pub IsFromMarks : Machine → Marking → ℕ → Type 0
IsFromMarks m marking s = (x : ℕ) × ((x ∈ roots m) ⊎ IsMarked marking x) × Reaches UpToSoft m.objects x s

-- where a cycle is open afterwards, strong and soft edges led before to what is marked then, from a root or from what
-- was marked, or it is a root
abbrev pub MarksReached : Machine → Marking → Machine → Marking → Type 0
MarksReached m old n new = n.cycle_open ≡ true → (s : ℕ) → IsMarked new s → IsFromMarks m old s ⊎ (s ∈ roots n)

-- what is marked stays so, a black cell is not grey again, and of an array in progress as much was followed as before
pub record MarksStay (old new : Marking) : Type 0 where
  pub kept : (x : ℕ) → IsMarked old x → IsMarked new x
  pub fresh : (x : ℕ) → x ∈ new.grey → (x ∈ old.grey) ⊎ (¬ (IsMarked old x))
  pub part : new.part ≡ old.part

-- the marks stay, and so many cells more are black
abbrev pub BlackensOnly : ℕ → Marking → Marking → Type 0
BlackensOnly n old new = Blackens n old new × MarksStay old new

-- What an ask that opens no cycle does to the marks. Where a cycle is open afterwards, it blackens just the objects
-- that it makes
pub record MarksNew (m : Machine) (old : Marking) (chosen : Chosen) (n : Machine) (new : Marking) : Type 0 where
  pub reached : MarksReached m old n new
  pub blackens : n.cycle_open ≡ true → BlackensOnly (length chosen.fresh) old new

-- where no collection was made, the object that was made is black, and no other mark has changed
abbrev pub BlackensMade : Chosen → ℕ → Marking → Marking → Type 0
BlackensMade chosen slot old new = chosen.collected ≡ None → Blackened slot old new × (marked new ≡ marked old + 1)

-- some cell is grey
abbrev pub has_grey : Marking → Bool
has_grey m = is_some (slice_get m.grey 0)

-- ---- A cycle begins

-- the roots are marked, and nothing else; and no cell is black, and no array in progress
pub record BeginsCycle (n : Machine) (new : Marking) : Type 0 where
  pub begun : (s : ℕ) → IsMarked new s ↔ (s ∈ roots n)
  pub none_black : marked new ≡ length new.grey
  pub no_part : new.part ≡ None

-- ---- A piece of marking

-- how many cells more are black: marked, and not grey
abbrev pub blackened : Marking → Marking → ℕ
blackened old new = (marked new + length old.grey) - (marked old + length new.grey)

-- how many ticks were spent between these marks
abbrev pub ticks_between : Heap → Marking → Marking → ℕ
ticks_between heap old new = ticks_spent heap new - ticks_spent heap old

-- In an open cycle it ticks once for each part of an object that it follows, by the soft policy, and sweeps nothing.
-- Without one it is idle, the marks stay as they are, and so many condemned cells become free, or all where there are
-- no more
abbrev pub MarksPiece : ℕ → ℕ → Clock → Machine → Marking → ℕ → Progress → Marking → ℕ → Type 0
MarksPiece budget soft_age clock m old condemned progress new left = elim m.cycle_open [
  | true ↦ MarksOn (keeps (record { soft_age = soft_age; mode = Policy }) clock) m.objects budget
      (ticks_between m.objects old new) progress old new × (left ≡ condemned)
  | false ↦ (progress ≡ Idle) × (new ≡ old) × (left ≡ condemned - budget)
]

-- ---- Events

-- how many ticks a piece of marking may make, where the event is one
abbrev pub budget_of : {R : Type 0} → Event R → Option ℕ
budget_of (Mark budget) = Some budget
budget_of _ = None

-- a piece of marking is answered as far as it came
abbrev pub AnswersPiece : {R : Type 0} → Option ℕ → ℕ → Clock → Machine → Marking → ℕ → Reply R → Marking → ℕ → Type 0
AnswersPiece None soft_age clock m old condemned reply new left = Unit {0}
AnswersPiece (Some budget) soft_age clock m old condemned reply new left = (progress : Progress)
    × (reply ≡ Marked progress)
    × MarksPiece budget soft_age clock m old condemned progress new left

-- a full collection that was asked for leaves no cell condemned
abbrev pub SweepsAll : Option Ask → Option Answer → ℕ → Type 0
SweepsAll (Some (Full by mode)) (Some Done) condemned = condemned ≡ 0
SweepsAll ask answer condemned = Unit {0}

-- an event that is no piece of marking, and opens no cycle, blackens just the objects that it makes, where a cycle is
-- open afterwards
abbrev pub BlackensNew : {R : Type 0} → Event R → Machine → Marking → Chosen → Machine → Marking → Type 0
BlackensNew event m old chosen n new = budget_of event ≡ None → (ask_of event ≡ Some Begin → m.cycle_open ≡ true)
    → n.cycle_open ≡ true → BlackensOnly (length chosen.fresh) old new

-- a Begin where no cycle is open
abbrev pub Begins : Option Ask → Machine → Machine → Marking → Type 0
Begins ask m n new = ask ≡ Some Begin → m.cycle_open ≡ false → BeginsCycle n new
