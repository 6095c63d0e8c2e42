-- How fields are spelled, and which have a spelling.
use Rattle.std.specs.Prelude.{ℕ, ℤ, ◌<◌, ◌≤◌, List, [], ◌∷◌, Bool, true, false, IsTrue, Option, Some, None, length}
use Rattle.std.specs.Prelude.{get_or}
use Rattle.std.specs.List.{list_all}
use Rattle.std.specs.Int.{w16, w32, w64, to_be_bytes, cast_unsigned}
use Rattle.std.specs.Int.RustNames.{FitsSigned}

abbrev pub spelled_8 : ℕ → List ℕ
spelled_8 n = n ∷ []

abbrev pub spelled_16 : ℕ → List ℕ
spelled_16 n = to_be_bytes w16 n

abbrev pub spelled_32 : ℕ → List ℕ
spelled_32 n = to_be_bytes w32 n

abbrev pub spelled_64 : ℕ → List ℕ
spelled_64 n = to_be_bytes w64 n

abbrev pub spelled_signed : ℤ → List ℕ
spelled_signed n = to_be_bytes w64 (cast_unsigned w64 n)

abbrev pub spelled_flag : Bool → List ℕ
spelled_flag false = 0 ∷ []
spelled_flag true = 1 ∷ []

-- what stands for no slot
abbrev pub no_slot : ℕ
no_slot = 4294967295

abbrev pub spelled_option : Option ℕ → List ℕ
spelled_option None = spelled_32 no_slot
spelled_option (Some s) = spelled_32 s

-- a byte of length, and that many bytes
abbrev pub spelled_text : List ℕ → List ℕ
spelled_text text = length text ∷ text

-- ---- What has a spelling

abbrev pub IsBytes : List ℕ → Type 0
IsBytes bytes = (i : ℕ) → get_or bytes i 0 < 256

abbrev pub IsWithin : ℕ → ℕ → ℕ → Type 0
IsWithin low high n = (low ≤ n) × (n ≤ high)

abbrev pub IsSigned : ℤ → Type 0
IsSigned n = FitsSigned w64 n

-- a slot that is spelled as such
abbrev pub SlotFits : Option ℕ → Type 0
SlotFits None = Unit {0}
SlotFits (Some s) = s < no_slot

-- a text of a length from low to high
abbrev pub IsText : ℕ → ℕ → List ℕ → Type 0
IsText low high text = (low ≤ length text) × (length text ≤ high) × IsBytes text

-- one whose bytes pass a test
abbrev pub IsTextOf : ℕ → ℕ → (ℕ → Bool) → List ℕ → Type 0
IsTextOf low high test text = IsText low high text × IsTrue (list_all test text)
