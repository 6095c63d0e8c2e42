-- The texts in a line: paths, names, and bytes in hexadecimal digits.
use Rattle.std.specs.Prelude.{ℕ, ◌<◌, ◌≤◌, ◌≡◌, Bool, List, length, Ok}
use Rattle.std.specs.List.{AllPass}
use Rattle.std.specs.Char.{is_ascii_graphic}
use Rattle.hex.specs.Hex.{decode_of}
use Rattle.jlr_machine.specs.Names.{is_name_byte}

-- 1 to so many bytes, each of a kind
pub record IsWord (limit : ℕ) (kind : ℕ → Bool) (text : List ℕ) : Type 0 where
  pub some : 0 < length text
  pub few : length text ≤ limit
  pub each : AllPass kind text

-- a path: visible characters of ASCII, 21 to 7E in hexadecimal
abbrev pub IsPathText : List ℕ → Type 0
IsPathText = IsWord 255 is_ascii_graphic

-- the name of an object
abbrev pub IsNameText : List ℕ → Type 0
IsNameText = IsWord 32 is_name_byte

-- The bytes of a write, and their hexadecimal digits in either case.
pub record AreDigits (digits bytes : List ℕ) : Type 0 where
  pub some : 0 < length bytes
  pub few : length bytes ≤ 200
  pub decoded : decode_of digits ≡ Ok bytes
