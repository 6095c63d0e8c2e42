-- Turns one after the other.
use Rattle.std.proofs.Common.{List, [], ◌∷◌, ◌++◌, refl, subst}
use Rattle.jlr_prog.specs.Settling.{Turns}

-- one turn more
pub turns_more : {H : Type 0} (turn : H → H → Type 0) (states : List H) (old now new : H) → Turns turn states old now → turn now new
    → Turns turn (states ++ new ∷ []) old new
turns_more turn [] old now new h t = (subst (λ x. turn x new) h t, refl)
turns_more turn (next ∷ later) old now new h t = (h.0, turns_more turn later next now new h.1 t)
