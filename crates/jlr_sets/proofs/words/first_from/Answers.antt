use Rattle.std.proofs.Common.{◌<◌, ◌/◌, ◌%◌, ◌^◌, get_or, arith, refl}
use Rattle.jlr_sets.proofs.Finding.{found, none_left, none_past, found_in_word, none_in_word, none_at_all, rest_fits}
use Rattle.jlr_sets.proofs.words.first_from.Goals as goal

pub returns-then-start-words : goal.returns-then-start-words
returns-then-start-words c = none_past c.args.words.now c.args.from (omega arith)

pub returns-then-rest-ne0 : goal.returns-then-rest-ne0
returns-then-rest-ne0 c =
    let from = c.args.from in
    let fits : get_or c.args.words.now (from / 64) 0 < 2 ^ 64 = omega (arith, c.type_inv.words (from / 64)) in
    found c.args.words.now from _ fits refl (omega arith) (rest_fits _ (from % 64) fits)

pub loop-at-init : goal.loop-at-init
loop-at-init c =
    let from = c.args.from in
    let fits : get_or c.args.words.now (from / 64) 0 < 2 ^ 64 = omega (arith, c.type_inv.words (from / 64)) in
    record { below = omega arith; none = none_left c.args.words.now from _ fits refl (omega arith) }

pub returns-then-word-ne0 : goal.returns-then-word-ne0
returns-then-word-ne0 c =
    let fits : get_or c.args.words.now c.loop-at.at 0 < 2 ^ 64 = omega (arith, c.type_inv.words c.loop-at.at) in
    found_in_word c.args.words.now c.args.from c.loop-at.at _ c.loop-at.invariant.below c.loop-at.invariant.none refl fits (omega arith)

pub loop-at-preserved : goal.loop-at-preserved
loop-at-preserved c =
    record {
      below =
          omega arith;
      none = none_in_word c.args.words.now c.args.from c.loop-at.at _ c.loop-at.invariant.none refl (omega arith);
    }

pub returns : goal.returns
returns c = none_at_all c.args.words.now c.args.from c.loop-at.at (omega arith) c.loop-at.invariant.none
