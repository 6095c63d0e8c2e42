-- What the text of a path says.
use Rattle.std.specs.Prelude.{ℕ, Bool, false, cond, not, eqb, ◌&&◌, nat_le, List, [], ◌∷◌, ◌++◌, length, Option, Some}
use Rattle.std.specs.Prelude.{None, codes}
use Rattle.std.specs.List.{list_any, slice_split}
use Rattle.std.specs.Str.{bytes_eq}

abbrev pub is_slash : ℕ → Bool
is_slash b = eqb b 47

-- the part that leads to the folder above
abbrev pub is_parent : List ℕ → Bool
is_parent part = bytes_eq part (codes "..")

abbrev pub has_parent : List ℕ → Bool
has_parent path = list_any is_parent (slice_split is_slash path)

-- it is not empty, does not start at the root, and no part of it leads up
abbrev pub stays_below : List ℕ → Bool
stays_below [] = false
stays_below (b ∷ bs) = not (is_slash b) && not (has_parent (b ∷ bs))

-- the path that starts at a folder, where its text keeps it below and it is not too long; none is below the empty
-- folder
abbrev pub placed_below : List ℕ → List ℕ → Option (List ℕ)
placed_below [] path = None
placed_below (b ∷ bs) path =
    cond (stays_below path && nat_le (length (b ∷ bs ++ 47 ∷ path)) 4095) (Some (b ∷ bs ++ 47 ∷ path)) None
