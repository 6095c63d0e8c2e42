use Rattle.std.proofs.Common.{ℕ, ◌*◌, ◌∙◌, false, length, replicate, ap, arith}
use Rattle.std.proofs.lemmas.List.{length-replicate}
use Rattle.jlr_sets.specs.Bits.{bits_of}
use Rattle.jlr_sets.proofs.Bits.{length-bits_of, bits_of_zeros, room_for}
use Rattle.jlr_sets.proofs.slots.SlotSet.with_cells.Goals as goal

pub returns-clause-empty : goal.returns-clause-empty
returns-clause-empty c =
    ap bits_of (c.in_ok-vec.ensures.items_if_clones_equal (λ y e. e)) ∙ bits_of_zeros c.div_ceil-count.result
    ∙ ap (λ n. replicate (64 * n) false) c.div_ceil-count.ensures

pub returns-clause-room : goal.returns-clause-room
returns-clause-room c =
    let words = c.in_ok-vec.field-0.items in
    let n = ap length (c.in_ok-vec.ensures.items_if_clones_equal (λ y e. e)) in
    rw length-bits_of (omega (
      arith,
      n,
      length-replicate {A = ℕ} c.div_ceil-count.result 0,
      c.div_ceil-count.ensures,
      room_for c.args.cells,
    ))
