-- Tables as lists: what is in them, with rising places.
use Rattle.std.proofs.Common.{◌<◌, ◌≤◌, ◌+◌, ℕ, suc, List, [], ◌∷◌, length, refl, arith, Option, Some, None}
use Rattle.std.specs.Prelude.{IsTrue}
use Rattle.std.specs.List.{AllByRecursion}
use Rattle.std.proofs.lemmas.Bool.{lt-ltb}
use Rattle.jlr_machine.specs.declared.object.Object.{Object}
use Rattle.jlr_trace_fields.specs.Items.{may_follow, Rises, IsRising}
use Rattle.jlr_trace_fields.specs.declared.version.Version.TheVariants.{Two}
use Rattle.jlr_trace_fields.specs.Objects.{ObjectFits}
use Rattle.jlr_trace_fields.specs.Records.{PlacedFits, HeldFits}
use Rattle.jlr_trace_entries.specs.Images.{listed_from, placed, handle_held}
use Rattle.jlr_trace_entries.proofs.WritingLaws.{counted, occupied_within}
use Rattle.jlr_trace.specs.Ranges.{HandleRange}

abbrev Before : Option ℕ → ℕ → Type 0
Before None n = Unit {0}
Before (Some b) n = b < n

follows : (before : Option ℕ) (n : ℕ) → Before before n → IsTrue (may_follow before n)
follows None n b = refl
follows (Some k) n b = lt-ltb k n b

later : (before : Option ℕ) (n : ℕ) → Before before n → Before before (suc n)
later None n b = tt
later (Some k) n b = omega (arith, b)

placed_rise : (n : ℕ) (before : Option ℕ) (xs : List (Option Object)) → Before before n
    → Rises (λ p. p.slot) before (listed_from placed n xs)
placed_rise n before [] b = tt
placed_rise n before (None ∷ xs) b = placed_rise (suc n) before xs (later before n b)
placed_rise n before (Some o ∷ xs) b = (follows before n b, placed_rise (suc n) (Some n) xs (omega arith))

held_rise : (n : ℕ) (before : Option ℕ) (xs : List (Option ℕ)) → Before before n → Rises (λ h. h.handle) before
    (listed_from handle_held n xs)
held_rise n before [] b = tt
held_rise n before (None ∷ xs) b = held_rise (suc n) before xs (later before n b)
held_rise n before (Some s ∷ xs) b = (follows before n b, held_rise (suc n) (Some n) xs (omega arith))

abbrev pub PlaceFits : Option Object → Type 0
PlaceFits None = Unit {0}
PlaceFits (Some o) = ObjectFits Two o

placed_fit : (n : ℕ) (xs : List (Option Object)) → n + length xs ≤ 65536 → AllByRecursion PlaceFits xs
    → AllByRecursion (PlacedFits Two) (listed_from placed n xs)
placed_fit n [] le all = tt
placed_fit n (None ∷ xs) le all = placed_fit (suc n) xs (omega (arith, le)) all.1
placed_fit n (Some o ∷ xs) le all = (record { slot = omega (arith, le); object = all.0 }, placed_fit (suc n) xs (omega (arith, le)) all.1)

held_fit : (n : ℕ) (xs : List (Option ℕ)) → n + length xs ≤ 256 → AllByRecursion HandleRange xs
    → AllByRecursion HeldFits (listed_from handle_held n xs)
held_fit n [] le all = tt
held_fit n (None ∷ xs) le all = held_fit (suc n) xs (omega (arith, le)) all.1
held_fit n (Some s ∷ xs) le all = (record { handle = omega (arith, le); slot = all.0 }, held_fit (suc n) xs (omega (arith, le)) all.1)

pub table_fits : (xs : List (Option Object)) → length xs ≤ 65536 → AllByRecursion PlaceFits xs
    → IsRising (PlacedFits Two) (λ p. p.slot) (listed_from placed 0 xs)
table_fits xs le all =
    let count = counted placed 0 xs in
    let within = occupied_within xs in
    record {
      listed = record { count = omega (arith, count, within, le); each = placed_fit 0 xs (omega (arith, le)) all };
      rises = placed_rise 0 None xs tt;
    }

pub handles_fit : (xs : List (Option ℕ)) → length xs ≤ 256 → AllByRecursion HandleRange xs
    → IsRising HeldFits (λ h. h.handle) (listed_from handle_held 0 xs)
handles_fit xs le all =
    let count = counted handle_held 0 xs in
    let within = occupied_within xs in
    record {
      listed = record { count = omega (arith, count, within, le); each = held_fit 0 xs (omega (arith, le)) all };
      rises = held_rise 0 None xs tt;
    }
