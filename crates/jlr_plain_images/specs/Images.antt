-- The test of faults, of notes and of what was seen.
use Rattle.std.specs.Prelude.{◌≡◌, ℕ, ◌<◌, ◌≤◌, Bool, false, IsTrue, ◌&&◌, ◌||◌, [], length, nat_le, nat_lt}
use Rattle.std.specs.List.{list_all}
use Rattle.jlr_machine.specs.declared.machine.Machine.{Machine}
use Rattle.jlr_machine.specs.Objects.{◌∈◌, is_rising}
use Rattle.jlr_laws.specs.Deciding.{is_empty}
use Rattle.jlr_plain_images.specs.Places.{rising_by}

-- what a well-formed machine keeps beside its nine parts
pub record IsRestFit (m : Machine) : Type 0 where
  pub faults : length m.faults ≤ 256
  pub notes : length m.notes ≤ 256
  pub seen_rising : IsTrue (is_rising m.seen)
  pub seen_within : (s : ℕ) → s ∈ m.seen → s < length m.objects
  pub seen_in_cycle : m.cycle_open ≡ false → m.seen ≡ []

-- slots are in the order of their numbers
abbrev pub own_number : ℕ → ℕ
own_number s = s

abbrev pub seen_fits : Machine → Bool
seen_fits m = rising_by own_number m.seen && list_all (λ s. nat_lt s (length m.objects)) m.seen
    && (m.cycle_open || is_empty m.seen)

-- what a well-formed machine keeps beside its nine parts, as a test
abbrev pub rest_fits : Machine → Bool
rest_fits m = nat_le (length m.faults) 256 && nat_le (length m.notes) 256 && seen_fits m
