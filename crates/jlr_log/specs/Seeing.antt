-- What contracts see of the tokens.
use Rattle.std.specs.Prelude.{◌≡◌, ℕ, List, [], ◌∷◌}
use Rattle.jlr_log.specs.declared.rule.View.{View}
use Rattle.jlr_log.specs.Views.{knower, sitter}

-- the whole history, and how many seats were dealt
pub record Whole (E : Type 0) : Type 0 where
  pub all : List E
  pub dealt : ℕ

-- a seat, and the history up to its last step
pub record Seen (E : Type 0) : Type 0 where
  pub seat : ℕ
  pub known : List E

module _ {E : Type 0} where
  abbrev pub whole_history : List E → ℕ → Whole E
  whole_history all dealt = record { all = all; dealt = dealt }

  abbrev pub seen : ℕ → List E → Seen E
  seen seat known = record { seat = seat; known = known }

  abbrev pub whole_in : View E → Whole E
  whole_in v = whole_history v.all v.dealt

  abbrev pub seen_in : List (View E) → Seen E
  seen_in [] = seen 0 []
  seen_in (v ∷ views) = seen v.seat v.known

  abbrev pub IsKeeper : View E → Type 0
  IsKeeper v = v ≡ knower v.all v.dealt

  abbrev pub IsSeated : List (View E) → Type 0
  IsSeated views = views ≡ sitter (seen_in views).seat (seen_in views).known ∷ []

  abbrev pub AllOf : (E → ℕ) → ℕ → List E → Type 0
  AllOf owner seat [] = Unit {0}
  AllOf owner seat (e ∷ log) = (owner e ≡ seat) × AllOf owner seat log
