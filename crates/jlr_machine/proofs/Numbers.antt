-- The slots of a set are numbers of 32 bits.
use Rattle.std.proofs.Common.{ℕ, ◌<◌, ◌≤◌, ◌^◌, List, Bool, length, sym, subst, arith}
use Rattle.std.specs.Prelude.{slice_index_or}
use Rattle.std.specs.List.{All, range_with_len}
use Rattle.std.proofs.lemmas.List.Elements.{All-filter}
use Rattle.std.proofs.lemmas.List.FromFn.{get_or-range_with_len, length-range_with_len}
use Rattle.jlr_sets.specs.SlotSets.{is_in, slots_below, slots_of, IsSlotNumber}

range_below : (n k d : ℕ) → n ≤ 2 ^ 32 → k < length (range_with_len 0 n) → slice_index_or (range_with_len 0 n) k d < 2 ^ 32
range_below n k d few less =
    let inside : k < n = subst (λ m. k < m) (length-range_with_len 0 n) less in
    subst (λ s. s < 2 ^ 32) (sym (get_or-range_with_len 0 n k d inside)) (omega (arith, few, inside))

pub all_numbers : (places : List Bool) → length places ≤ 2 ^ 32 → All IsSlotNumber (slots_of places)
unfolding slots_below
all_numbers places few =
    All-filter (is_in places) IsSlotNumber (range_with_len 0 (length places)) (λ k d less. range_below (length places) k d few less)
