-- The rule of a history, and what its steps tell.
use Rattle.std.specs.Prelude.{◌≡◌, ◌<◌, ℕ, List, [], ◌++◌, true}
use mathlib.Core.Option.{some}
use lib.ListN.{get_elem?}
use Rattle.jlr_log.specs.declared.rule.View.{View}
use Rattle.jlr_log.specs.Views.{own, meeting}

module _ {E : Type 0} (owner : E → ℕ) where
  -- the history begins with what is known, and has no entry of the seat after it
  abbrev pub Knows : ℕ → List E → List E → Type 0
  Knows seat known log = (rest : List E) × (log ≡ known ++ rest) × (own owner seat rest ≡ [])

  -- one token at most is the keeper's, and knows all; one at most is each dealt seat's
  abbrev pub Fits : ℕ → (ℕ → ℕ) → ℕ → List E → ℕ → View E → Type 0
  Fits keeper holder dealt log by v =
      (v.keeps ≡ true → (by ≡ keeper) × (v.all ≡ log) × (v.dealt ≡ dealt))
      × (v.sits ≡ true → (by ≡ holder v.seat) × (v.seat < dealt) × Knows v.seat v.known log)

  abbrev pub KeptViews : List (View E) → Type 0
  KeptViews views =
      (keeper : ℕ) × (holder : ℕ → ℕ) × (dealt : ℕ) × (log : List E)
      × ((by : ℕ) (v : View E) → get_elem? views by ≡ some v → Fits keeper holder dealt log by v)

  -- the entries are added, and the seat has seen all; up to then it knew all that was its own
  abbrev pub Added : List E → View E → View E → Type 0
  Added told v w = Knows v.seat v.known v.all × (w ≡ meeting (v.all ++ told) v.dealt v.seat (v.all ++ told))
