-- What tokens know.
use Rattle.std.specs.Prelude.{◌==◌, ◌+◌, ℕ, List, [], true, false, filter}
use Rattle.atomic_table.specs.Seated.{TableId}
use Rattle.jlr_log.specs.declared.rule.View.{View}

-- the name of no history
abbrev pub no_table : TableId
no_table = record { words = 0; slots = 0; views_name = 0; atom = 0; block = 0; offset = 0; slot_names = [] }

module _ {E : Type 0} where
  abbrev pub knower : List E → ℕ → View E
  knower all dealt = record { keeps = true; all = all; dealt = dealt; sits = false; seat = 0; known = [] }

  abbrev pub sitter : ℕ → List E → View E
  sitter seat known = record { keeps = false; all = []; dealt = 0; sits = true; seat = seat; known = known }

  abbrev pub nobody : View E
  nobody = record { keeps = false; all = []; dealt = 0; sits = false; seat = 0; known = [] }

  -- the keeper with a seat
  abbrev pub meeting : List E → ℕ → ℕ → List E → View E
  meeting all dealt seat known =
      record { keeps = true; all = all; dealt = dealt; sits = true; seat = seat; known = known }

  abbrev pub met : View E → View E → View E
  met v w = meeting v.all v.dealt w.seat w.known

  abbrev pub keeper_of : View E → View E
  keeper_of v = knower v.all v.dealt

  abbrev pub sitter_of : View E → View E
  sitter_of v = sitter v.seat v.known

  abbrev pub with_one_more : View E → View E
  with_one_more v = knower v.all (v.dealt + 1)

  abbrev pub next_sitter : View E → View E
  next_sitter v = sitter v.dealt v.all

  -- the entries of a seat
  abbrev pub own : (E → ℕ) → ℕ → List E → List E
  own owner seat log = filter (λ e. owner e == seat) log
