-- Where actions wait: each waits at one place, and was given.
use Rattle.std.proofs.Common.{◌≡◌, ◌≢◌, ℕ, inl, inr, sym, ◌∙◌, arith, replicate, Option, Some, None}
use Rattle.std.proofs.lemmas.Bool.{cases_lt}
use Rattle.std.proofs.lemmas.List.{get_or-replicate, get_or_past, length-replicate}
use Rattle.jlr_machine.specs.Objects.{Table, at, empty_at}
use Rattle.jlr_laws.proofs.Frames.{no_some, set_cases}
use Rattle.jlr_cleaner.specs.Cleanings.{AreRegistered}

pub nothing_there : {A : Type 0} (n place : ℕ) → at {A = A} (replicate n None) place ≡ None
nothing_there {A} n place = elim (cases_lt place n) [
  | inl l ↦ get_or-replicate n place None None l
  | inr b ↦ get_or_past (replicate n None) place None (omega (arith, b, length-replicate {A = Option A} n None))
]

pub none_registered : (n next_action : ℕ) → AreRegistered (replicate n None) next_action
none_registered n next_action =
    record {
      given = λ place action e. no_some action (sym (nothing_there n place) ∙ e);
      once = λ place other action e f. no_some action (sym (nothing_there n place) ∙ e);
    }

waited_before : (waiting : Table ℕ) (place p action : ℕ) → at (empty_at waiting place) p ≡ Some action → (p ≡ place → ⊥)
    × (at waiting p ≡ Some action)
waited_before waiting place p action e = elim (set_cases waiting place p None action e) [
  | inl here ↦ no_some action here.1
  | inr there ↦ there
]

pub one_less_waits : (waiting : Table ℕ) (next_action place : ℕ) → AreRegistered waiting next_action
    → AreRegistered (empty_at waiting place) next_action
one_less_waits waiting next_action place r =
    record {
      given = λ p action e. r.given p action (waited_before waiting place p action e).1;
      once = λ p q action e f. r.once p q action (waited_before waiting place p action e).1 (waited_before waiting place q action f).1;
    }

pub waits_nowhere : (waiting : Table ℕ) (next_action place action : ℕ) → AreRegistered waiting next_action → at waiting place ≡ Some action
    → (other : ℕ) → at (empty_at waiting place) other ≢ Some action
waits_nowhere waiting next_action place action r waits other e =
    let before = waited_before waiting place other action e in
    before.0 (r.once other place action before.1 waits)
