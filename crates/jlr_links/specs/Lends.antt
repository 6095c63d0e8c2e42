-- What a column ends as, where a `&mut` to one of its values is returned.
use Rattle.std.specs.Prelude.{ℕ, List, slice_set}
use Rattle.std.specs.Borrow.{Lends, Fml, RattleType, MutBor}
use Rattle.jlr_links.specs.declared.column.blank.Blank.{Ghosts}
use Rattle.jlr_links.specs.contracts.column.column.Column.{the_row}

module _ (T : RattleType) (blank : Ghosts T.Denot) (c : MutBor (List T.Denot)) (place : ℕ) where
  -- once the borrow r ends, the place has the last value written through r
  abbrev pub lends_place : MutBor T.Denot → Fml
  lends_place r = Lends (the_row T blank) T c r (slice_set c.now place)
