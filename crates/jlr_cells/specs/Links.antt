-- What links stand for, and which go with an object.
use Rattle.std.specs.Borrow.{Bor}
use Rattle.std.specs.Prelude.{◌≡◌, ℕ, ◌-◌, ◌<◌, ◌∷◌, ◌++◌, [], Bool, false, List, Option, Some, None, length, map}
use Rattle.std.specs.Prelude.{filter_map, replicate, slice_index_or}
use Rattle.jlr_types.specs.declared.FieldValue.{FieldValue}
use Rattle.jlr_machine.specs.declared.object.Contents.TheVariants.{Typed}
use Rattle.jlr_machine.specs.declared.object.Object.{Object}
use Rattle.jlr_machine.specs.declared.object.Object.TheVariants.{Plain as PlainObject}
use Rattle.jlr_machine.specs.Edges.{slot_in}
use Rattle.jlr_sets.specs.SlotSets.{is_in}
use Rattle.jlr_cells.specs.declared.cell.Cell.{Cell}
use Rattle.jlr_cells.specs.Contents.{object_in}

-- four links, all null, and eight
abbrev pub four_nulls : List (Option ℕ)
four_nulls = replicate 4 None

abbrev pub no_links : List (Option ℕ)
no_links = replicate 8 None

-- for each of eight fields what it refers to; null for an integer, and where there is no field
abbrev pub links_to : List FieldValue → List (Option ℕ)
links_to fields = map slot_in fields ++ replicate (8 - length fields) None

-- the links of an object: one without typed fields has none
abbrev pub links_of : Option Object → List (Option ℕ)
links_of None = no_links
links_of (Some (PlainObject (Typed fields))) = links_to fields
links_of (Some _) = no_links

-- the links of the object in a cell, and of those in the cells, by slot
abbrev pub cell_links : Cell → List (Option ℕ)
cell_links c = links_of (object_in c)

abbrev pub links_in : List Cell → List (List (Option ℕ))
links_in cells = map cell_links cells

-- what links lead to
abbrev pub linked : List (Option ℕ) → List ℕ
linked links = filter_map (λ l. l) links

abbrev pub linked_in : Option (Bor (List (Option ℕ))) → List ℕ
linked_in None = []
linked_in (Some links) = linked links.now

-- ---- Two columns of four links

-- by slot, four links beside four others
abbrev pub rows : List (List (Option ℕ)) → List (List (Option ℕ)) → List (List (Option ℕ))
rows [] far = []
rows (n ∷ near) [] = []
rows (n ∷ near) (f ∷ far) = (n ++ f) ∷ rows near far

-- There are as many in the second column as in the first, four links each. Where a slot is not in the set, those in the
-- second are null
pub record AreColumns (near far : List (List (Option ℕ))) (wide : List Bool) : Type 0 where
  pub as_many : length far ≡ length near
  pub places : length wide ≡ length near
  pub four : (s : ℕ) → s < length near → length (slice_index_or near s []) ≡ 4
  pub nulls : (s : ℕ) → s < length near → is_in wide s ≡ false → slice_index_or far s [] ≡ four_nulls
