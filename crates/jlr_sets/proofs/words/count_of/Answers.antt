use Rattle.std.proofs.Common.{◌≡◌, ◌<◌, ◌*◌, ◌^◌, length, get_or, sym, ◌∙◌, ap, arith, refl}
use Rattle.jlr_sets.specs.Bits.{bits_of}
use Rattle.jlr_sets.specs.SlotSets.{slots_below}
use Rattle.jlr_sets.proofs.Bits.{length-bits_of}
use Rattle.jlr_sets.proofs.Below.{slots_below-zero}
use Rattle.jlr_sets.proofs.BitCounts.{counted_word}
use Rattle.jlr_sets.proofs.words.count_of.Goals as goal

pub loop-word-init : goal.loop-word-init
loop-word-init c = sym (ap length (slots_below-zero (bits_of c.args.words.now)))

pub overflow_add-count : goal.overflow_add-count
overflow_add-count c =
    let fits : get_or c.args.words.now c.loop-word.word-index 0 < 2 ^ 64 = omega (arith, c.type_inv.words c.loop-word.word-index) in
    let h = counted_word c.args.words.now c.loop-word.word-index _ c.loop-word.count fits refl c.loop-word.invariant in
    omega (arith, h.1)

pub loop-word-preserved : goal.loop-word-preserved
loop-word-preserved c =
    let fits : get_or c.args.words.now c.loop-word.word-index 0 < 2 ^ 64 = omega (arith, c.type_inv.words c.loop-word.word-index) in
    let h = counted_word c.args.words.now c.loop-word.word-index _ c.loop-word.count fits refl c.loop-word.invariant in
    h.0

pub returns : goal.returns
returns c =
    let words = c.args.words.now in
    let all : 64 * c.loop-word.word-index ≡ length (bits_of words) = omega (arith, length-bits_of words) in
    c.loop-word.invariant ∙ ap (λ n. length (slots_below n (bits_of words))) all
