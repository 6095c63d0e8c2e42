-- The elements of an array as links: new ones, and one that changes.
use Rattle.std.proofs.Common.{◌≡◌, ℕ, zero, suc, List, ◌∷◌, Option, None, map, set, replicate, refl, ap, ◌∙◌}
use Rattle.std.proofs.lemmas.List.{map-set}
use Rattle.jlr_cells.specs.Nulls.{link_of}

pub null_elements : (n : ℕ) → map link_of (replicate n 4294967295) ≡ replicate n None
null_elements zero = refl
null_elements (suc n) = ap (λ l. None ∷ l) (null_elements n)

pub set_mapped : (slots : List ℕ) (i n : ℕ) (target : Option ℕ) → link_of n ≡ target
    → map link_of (set slots i n) ≡ set (map link_of slots) i target
set_mapped slots i n target e = map-set link_of slots i n ∙ ap (set (map link_of slots) i) e
