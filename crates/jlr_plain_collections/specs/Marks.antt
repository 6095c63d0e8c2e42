-- Marks for the slots of a heap, and what marking adds to them.
use Rattle.std.specs.Prelude.{◌≡◌, ℕ, ◌+◌, ◌<◌, ◌⊎◌, Bool, true, false, List, cond, length, slice_index_or, count_by}
use Rattle.jlr_machine.specs.Objects.{◌∈◌, ◌∋◌}
use Rattle.jlr_machine.specs.Edges.{Chain}
use Rattle.jlr_machine.specs.Edges.Chain.{Strong, UpToSoft}

abbrev pub has_mark : List Bool → ℕ → Bool
has_mark marks s = slice_index_or marks s false

abbrev pub HasMark : List Bool → ℕ → Type 0
HasMark marks s = has_mark marks s ≡ true

abbrev pub marked_count : List Bool → ℕ
marked_count marks = count_by (λ b. b) marks

-- a mark for each slot that has one: whether it is in the list
abbrev pub IsTable : List ℕ → List Bool → Type 0
IsTable slots marks = (s : ℕ) → s < length marks → has_mark marks s ≡ (slots ∋ s)

-- just the members of T are marked too, and those of them that are new go to the others on the list of what was not
-- looked at
pub record Greyed (T : ℕ → Type 0) (old : List Bool) (before : List ℕ) (new : List Bool) (after : List ℕ) : Type 0 where
  pub long : length new ≡ length old
  pub only : (s : ℕ) → HasMark new s → HasMark old s ⊎ T s
  pub stay : (s : ℕ) → HasMark old s → HasMark new s
  pub added : (s : ℕ) → T s → HasMark new s
  pub waiting : (s : ℕ) → s ∈ before → s ∈ after
  pub listed : (s : ℕ) → s ∈ after → (s ∈ before) ⊎ HasMark new s
  pub fresh : (s : ℕ) → HasMark new s → HasMark old s ⊎ (s ∈ after)
  pub count : marked_count new + length before ≡ marked_count old + length after

-- strong and soft edges, or strong ones alone
abbrev pub chain_of : Bool → Chain
chain_of softly = cond softly UpToSoft Strong
