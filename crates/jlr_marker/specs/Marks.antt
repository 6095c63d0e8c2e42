-- What a piece of marking does to the marks.
use Rattle.std.specs.Prelude.{◌≡◌, ◌≢◌, ◌≤◌, ◌<◌, ◌+◌, ◌*◌, ℕ, ◌⊎◌, Bool, List, Option, Some, None, [], length}
use Rattle.jlr_types.specs.declared.Progress.{Progress}
use Rattle.jlr_types.specs.declared.Progress.TheVariants.{More, Done, Idle}
use Rattle.jlr_machine.specs.Objects.{Heap, at, ◌∈◌}
use Rattle.jlr_laws.specs.Laws.{followed, IsPathFollowed}
use Rattle.jlr_marks.specs.declared.part.Part.{Part}
use Rattle.jlr_marks.specs.Marking.{Marking, IsMarked, marked}
use Rattle.jlr_barrier.specs.Parts.{ticks_at}
use Rattle.jlr_marker.specs.Spending.{elements_at, so_far, ticks_spent}

-- the cell is black, and was not: it was grey, or white
abbrev pub IsBlackened : Marking → Marking → ℕ → Type 0
IsBlackened old new x = IsMarked new x × (¬ (x ∈ new.grey)) × ((x ∈ old.grey) ⊎ (¬ (IsMarked old x)))

-- so many more are black: marked, and not grey
abbrev pub Blackens : ℕ → Marking → Marking → Type 0
Blackens n old new = marked new + length old.grey ≡ marked old + length new.grey + n

-- An element of x that was followed refers to y; or, where x is no array, x was blackened, and an edge leads from it to
-- y that is followed
abbrev pub IsPassedIn : Option (List (Option ℕ)) → (ℕ → Bool) → Heap → Marking → Marking → ℕ → ℕ → Type 0
IsPassedIn (Some elements) keeps heap old new x y = (i : ℕ) × (so_far old x (length elements) ≤ i)
    × (i < so_far new x (length elements)) × (at elements i ≡ Some y)
IsPassedIn None keeps heap old new x y = IsBlackened old new x × (y ∈ followed keeps heap x)

abbrev pub IsPassed : (ℕ → Bool) → Heap → Marking → Marking → ℕ → ℕ → Type 0
IsPassed keeps heap old new x y = IsPassedIn (elements_at heap x) keeps heap old new x y

-- So many ticks were spent, and at most so many cells were blackened. What the edges that were followed lead to is
-- marked: strong edges, and the referent of a soft reference that the policy keeps. Nothing else was marked
pub record Blackening (keeps : ℕ → Bool) (heap : Heap) (ticks : ℕ) (old new : Marking) : Type 0 where
  pub spends : ticks_spent heap new ≡ ticks_spent heap old + ticks
  pub black : (n : ℕ) × (n ≤ ticks) × Blackens n old new
  pub kept : (x : ℕ) → IsMarked old x → IsMarked new x
  -- a cell that was black is not grey
  pub fresh : (x : ℕ) → x ∈ new.grey → (x ∈ old.grey) ⊎ (¬ (IsMarked old x))
  pub follows : (x y : ℕ) → IsPassed keeps heap old new x y → IsMarked new y
  -- what was newly marked, an edge that was followed leads to, and in some steps a cell that was grey
  pub no_more : (y : ℕ) → IsMarked new y → IsMarked old y ⊎ ((x : ℕ) × IsMarked new x × IsPassed keeps heap old new x y)
  pub reached : (y : ℕ) → IsMarked new y → IsMarked old y
      ⊎ ((x : ℕ) × (x ∈ old.grey) × IsMarked old x × (path : List ℕ) × IsPathFollowed keeps heap x path y)

-- A piece of marking ticked so often, once for each part of an object that it followed. There is more to do only after
-- all ticks, with a grey cell left, and it is done where none is left
pub record MarksOn (keeps : ℕ → Bool) (heap : Heap) (budget ticks : ℕ) (answer : Progress) (old new : Marking) : Type
    0 where
  pub few : ticks ≤ budget
  pub blackening : Blackening keeps heap ticks old new
  pub more : answer ≡ More → (ticks ≡ budget) × (new.grey ≢ [])
  pub done : answer ≡ Done → new.grey ≡ []
  pub never_idle : answer ≢ Idle
  -- no more are marked than there are cells
  pub within : marked new ≤ length heap
  -- at most 64 ticks are spent on one object, and an array in progress ends after the place that was reached
  pub each : (x : ℕ) → IsBlackened old new x → ticks_at heap x ≤ 64
  pub part : (p : Part) → new.part ≡ Some p → (old.part ≡ Some p) ⊎ (p.place < 64 * ticks_at heap p.slot)
