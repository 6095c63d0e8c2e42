-- What a hall is opened with, and what its close tells.
use Rattle.std.specs.Prelude.{◌≡◌, ◌==◌, ◌<◌, ◌+◌, ◌||◌, ℕ, Bool, true, false, List, [], ◌∷◌}
use Rattle.jlr_types.specs.declared.limits.Limits.{Limits}
use Rattle.jlr_log.specs.Rule.{Knows}
use Rattle.jlr_log.specs.Seeing.{Seen}
use Rattle.jlr_book.specs.Histories.{History}
use Rattle.jlr_hall.specs.declared.closing.CloseFault.{CloseFault}
use Rattle.jlr_hall.specs.declared.closing.CloseFault.TheVariants.{Disagree}
use Rattle.jlr_hall.specs.declared.step.Step.{Step}
use Rattle.jlr_hall.specs.OneHistory.{IsWhole, seat_of}

module _ {R : Type 0} where
  -- of each of these seats the history has in order just what that seat was told
  abbrev pub EachKnows : List (Step R) → List (Seen (Step R)) → Type 0
  EachKnows log [] = Unit {0}
  EachKnows log (p ∷ seats) = Knows seat_of p.seat p.known log × EachKnows log seats

  abbrev pub is_there : ℕ → List (Seen (Step R)) → Bool
  is_there k [] = false
  is_there k (p ∷ seats) = (p.seat == k) || is_there k seats

  abbrev pub AllThere : Limits → List (Seen (Step R)) → Type 0
  AllThere limits seats = (k : ℕ) → k < limits.sessions + 3 → is_there k seats ≡ true

  -- one history ends with the book's trace, where its core stands, and has of each seat just what that seat was told
  pub record Closes (limits : Limits) (seats : List (Seen (Step R))) (book : History R) : Type 0 where
    pub log : List (Step R)
    pub whole : IsWhole limits book log
    pub told : EachKnows log seats
    pub all_there : AllThere limits seats

  -- the least seat that was not handed in
  pub record IsLeastMissing (limits : Limits) (k : ℕ) (seats : List (Seen (Step R))) : Type 0 where
    pub is_seat : k < limits.sessions + 3
    pub missing : is_there k seats ≡ false
    pub others : (j : ℕ) → j < k → is_there j seats ≡ true

  -- a close fails just for a seat that was not handed in
  abbrev pub FailsFor : Limits → List (Seen (Step R)) → CloseFault → Type 0
  FailsFor limits seats fault = (k : ℕ) × (fault ≡ Disagree k) × IsLeastMissing limits k seats
