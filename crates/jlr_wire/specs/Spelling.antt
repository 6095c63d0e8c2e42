-- How many lines spell a command, and how many commands a line.
use Rattle.std.specs.Prelude.{◌≡◌, ℕ, Bool, true, false, List, map}
use Rattle.std.specs.Char.{to_ascii_lowercase}
use Rattle.jlr_wire.specs.Commands.{IsCommand}
use Rattle.jlr_wire.specs.declared.command.Command.{Command}
use Rattle.jlr_wire.specs.declared.command.Command.TheVariants.{Write}

-- a write is spelled with hexadecimal digits
abbrev pub has_digits : Command → Bool
has_digits (Write h bytes) = true
has_digits _ = false

-- two lines of one command are the same, or those of a write but for the case of their letters
abbrev pub CommandsHaveOneSpelling : Type 0
CommandsHaveOneSpelling = (c : Command) (line other : List ℕ) → IsCommand line c → IsCommand other c
    → (map to_ascii_lowercase line ≡ map to_ascii_lowercase other) × (has_digits c ≡ false → line ≡ other)

-- a line is no two commands
abbrev pub LinesSpellOneCommand : Type 0
LinesSpellOneCommand = (line : List ℕ) (c other : Command) → IsCommand line c → IsCommand line other → c ≡ other
