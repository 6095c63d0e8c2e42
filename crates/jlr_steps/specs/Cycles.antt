-- What a cycle keeps: what it blackened, and what was made in it; and how often it ticks.
use Rattle.std.specs.Prelude.{◌≡◌, ◌≤◌, ◌+◌, ℕ, true, false, List, [], ◌∷◌, length, Option, Some, None}
use Rattle.jlr_machine.specs.declared.ask.Ask.TheVariants.{Begin, Collect}
use Rattle.jlr_machine.specs.declared.ask.Answer.TheVariants.{Truth}
use Rattle.jlr_machine.specs.Chosen.{Chosen}
use Rattle.jlr_machine.specs.declared.entry.Collected.{Collected}
use Rattle.jlr_machine.specs.Objects.{Heap}
use Rattle.jlr_marks.specs.Marking.{Marking, marked}
use Rattle.jlr_barrier.specs.Parts.{ticks_at}
use Rattle.jlr_marker.specs.Spending.{total}
use Rattle.jlr_event.specs.declared.event.Event.{Event}
use Rattle.jlr_event.specs.declared.event.Reply.{Reply}
use Rattle.jlr_event.specs.Events.{ask_of, answer_in}
use Rattle.jlr_steps.specs.Cores.{Kept}
use Rattle.jlr_state.specs.Marks.{blackened, budget_of, ticks_between}
use Rattle.jlr_steps.specs.Steps.{IsStep}

-- how many cells a piece of marking blackened, and how often it ticked
abbrev pub blackened_in : Option ℕ → Marking → Marking → ℕ
blackened_in None old new = 0
blackened_in (Some budget) old new = blackened old new

abbrev pub ticks_taken : Option ℕ → Heap → Marking → Marking → ℕ
ticks_taken None heap old new = 0
ticks_taken (Some budget) heap old new = ticks_between heap old new

-- how many objects any other event made
abbrev pub made_in : Option ℕ → Chosen → ℕ
made_in None chosen = length chosen.fresh
made_in (Some budget) chosen = 0

-- a step before and after which a cycle is open
pub record IsInCycle {R : Type 0} (old : Kept R) (event : Event R) (reply : Reply R) (chosen : Chosen)
    (new : Kept R) : Type 0 where
  pub step : IsStep old event reply chosen new
  pub before : old.machine.cycle_open ≡ true
  pub still : new.machine.cycle_open ≡ true

-- such steps from this core on, before which these were the objects, and which blackened so many cells, ticked so often
-- and made so many objects, lead to that core
abbrev pub GoesThrough : {R : Type 0} → Kept R → List (Event R) → List (Reply R) → List Chosen → List Heap → ℕ → ℕ → ℕ
    → Kept R → Type 0
GoesThrough core [] [] [] heaps black ticks made last = (last ≡ core) × (heaps ≡ []) × (black ≡ 0) × (ticks ≡ 0)
    × (made ≡ 0)
GoesThrough {R} core (e ∷ events) (r ∷ replies) (c ∷ choices) heaps black ticks made last =
    (next : Kept R) × (h : List Heap) × (b : ℕ) × (t : ℕ) × (k : ℕ) × IsInCycle core e r c next
    × GoesThrough next events replies choices h b t k last × (heaps ≡ core.machine.objects ∷ h)
    × (black ≡ blackened_in (budget_of e) core.marking next.marking + b)
    × (ticks ≡ ticks_taken (budget_of e) core.machine.objects core.marking next.marking + t)
    × (made ≡ made_in (budget_of e) c + k)
GoesThrough _ _ _ _ _ _ _ _ _ = ⊥

-- in each of these heaps the object at a slot x takes at most f x ticks
abbrev pub TakesAtMost : (ℕ → ℕ) → List Heap → Type 0
TakesAtMost f [] = Unit {0}
TakesAtMost f (heap ∷ heaps) = ((x : ℕ) → ticks_at heap x ≤ f x) × TakesAtMost f heaps

-- What a cycle that began with this core comes to in that one
pub record IsCounted {R : Type 0} (first : Kept R) (heaps : List Heap) (black ticks made : ℕ) (last : Kept R) : Type
    0 where
  -- so many cells are black: marked, and not grey
  pub all_black : marked last.marking ≡ length last.marking.grey + black + made
  -- a cycle blackens no more cells than there are, and ticks at least once for each, and at most as often as the
  -- objects in all cells take ticks together
  pub few : black ≤ length first.machine.objects
  pub ticked : black ≤ ticks
  pub most : (f : ℕ → ℕ) → TakesAtMost f heaps → ticks ≤ total f (length first.machine.objects)
  -- a Collect that is answered yes keeps as many objects as the cycle blackened and made
  pub kept : (event : Event R) (reply : Reply R) (chosen : Chosen) (new : Kept R) → IsStep last event reply chosen new
      → ask_of event ≡ Some Collect → answer_in reply ≡ Some (Truth true)
      → (c : Collected) → chosen.collected ≡ Some c → length c.kept ≡ black + made

-- the law: each cycle that this core begins is so
abbrev pub CountsItsCycles : {R : Type 0} → Kept R → Type 0
CountsItsCycles {R} core =
    (event : Event R) (reply : Reply R) (chosen : Chosen) (first : Kept R) → IsStep core event reply chosen first
    → ask_of event ≡ Some Begin → core.machine.cycle_open ≡ false
    → (events : List (Event R)) (replies : List (Reply R)) (choices : List Chosen) (heaps : List Heap)
    (black ticks made : ℕ) (last : Kept R) → GoesThrough first events replies choices heaps black ticks made last
    → IsCounted first heaps black ticks made last
