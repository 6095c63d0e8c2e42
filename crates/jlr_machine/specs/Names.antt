-- Which texts are names of objects.
use Rattle.std.specs.Prelude.{ℕ, Bool, eqb, ◌||◌, ◌&&◌, IsTrue, List, length, nat_lt, nat_le}
use Rattle.std.specs.List.{list_all}
use Rattle.std.specs.Char.{is_ascii_lowercase, is_ascii_digit}

-- a small letter, a digit or an underscore
abbrev pub is_name_byte : ℕ → Bool
is_name_byte b = is_ascii_lowercase b || is_ascii_digit b || eqb b 95

-- 1 to 32 of those
abbrev pub is_name : List ℕ → Bool
is_name text = nat_lt 0 (length text) && nat_le (length text) 32 && list_all is_name_byte text

abbrev pub IsName : List ℕ → Type 0
IsName text = IsTrue (is_name text)
