-- The marked slots, as a set and as a list.
use Rattle.std.proofs.Common.{◌≡◌, ◌+◌, ℕ, zero, suc, ◌∷◌, length, filter, refl, ◌∙◌, ap, arith}
use Rattle.std.specs.List.{range_with_len}
use Rattle.jlr_machine.specs.ReachSet.{up_to}
use Rattle.jlr_sets.specs.SlotSets.{is_in, slots_below, slots_of}
use Rattle.jlr_marks.specs.Marking.{Marking}
use Rattle.jlr_process.specs.Settling.{marked_below}

same_range : (from n : ℕ) → range_with_len from n ≡ up_to from n
same_range from zero = refl
same_range from (suc n) = let next : from + 1 ≡ suc from = omega arith in ap (λ k. from ∷ range_with_len k n) next
    ∙ ap (λ l. from ∷ l) (same_range (suc from) n)

-- the marked slots, as a set and as a list
pub slots_marked : (m : Marking) (n : ℕ) → length m.bits ≡ n → slots_of m.bits ≡ marked_below m n
unfolding slots_below
slots_marked m n e = ap (λ k. filter (is_in m.bits) (range_with_len 0 k)) e ∙ ap (λ l. filter (is_in m.bits) l) (same_range 0 n)
