-- How a table keeps its resources: in a slab, at the keys that are their Rids.
use Rattle.std.specs.Prelude.{ℕ, ◌+◌, ◌<◌, ◌^◌, List, [], ◌∷◌, Option, Some, None}
use Rattle.slab.specs.Slab.{Slab, ContainsKey}
use Rattle.jlr_resource.specs.declared.place.Place.{Place}
use Rattle.jlr_resource.specs.Resources.{HeldResource}

module _ {R : Type 0} where
  -- what the places hold, the first of which has this number
  abbrev pub held_from : ℕ → List (Option (Place R)) → List (HeldResource R)
  held_from first [] = []
  held_from first (None ∷ places) = held_from (first + 1) places
  held_from first (Some p ∷ places) =
      record { rid = first; action = p.action; kept = p.kept } ∷ held_from (first + 1) places

  -- what a slab holds, with rising keys
  abbrev pub held_by : Slab (Place R) → List (HeldResource R)
  held_by slab = held_from 0 slab.slots

  -- each key of the slab is the number of a Rid
  pub record AreRids (slab : Slab (Place R)) : Type 0 where
    pub fit : (key : ℕ) → ContainsKey slab key → key < 2 ^ 32
