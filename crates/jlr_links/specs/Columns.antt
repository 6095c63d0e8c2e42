-- A column: the values at its front, and blanks behind.
use Rattle.std.specs.Prelude.{◌≡◌, ℕ, ◌-◌, ◌≤◌, ◌++◌, List, length, replicate, vec_capacity}
use Rattle.std.specs.Global.{Vec}

module _ {T : Type 0} where
  -- so many values: those of the front, and behind them blanks
  abbrev pub whole : List T → ℕ → T → List T
  whole front n blank = front ++ replicate (n - length front) blank

  -- the front is no longer than the column, and room for all of it was made
  pub record IsColumn (front : Vec T) (n : ℕ) (blank nothing : T) : Type 0 where
    pub within : length front.items ≤ n
    pub room : n ≤ vec_capacity front
    pub blank_is : blank ≡ nothing

  -- a longer front of the same column
  pub record IsLonger (n : ℕ) (blank : T) (old new : List T) : Type 0 where
    pub within : length new ≤ n
    pub same : whole new n blank ≡ whole old n blank
