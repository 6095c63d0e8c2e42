-- Limits that any heap could have.
use Rattle.std.specs.Prelude.{refl}
use Rattle.jlr_types.specs.declared.limits.Limits.{Limits}

-- the least of each
abbrev pub least : Limits
least = record { cells = 16; sessions = 1; resources = 1; soft_age = 0; trace = 64; budget = 1; in_range = refl }
