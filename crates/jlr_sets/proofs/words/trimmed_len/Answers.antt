use Rattle.std.proofs.Common.{◌<◌, ◌^◌, ◌-◌, get_or, arith}
use Rattle.jlr_sets.proofs.Ending.{some_bit}
use Rattle.jlr_sets.proofs.words.trimmed_len.Goals as goal

pub returns-then-words-len-ne0 : goal.returns-then-words-len-ne0
returns-then-words-len-ne0 c =
    let words = c.args.words.now in
    let at = c.loop-len.len - 1 in
    let fits : get_or words at 0 < 2 ^ 64 = omega (arith, c.type_inv.words at) in
    record {
      within =
          c.loop-len.invariant.within;
      zeros = c.loop-len.invariant.zeros;
      last = λ _. some_bit (get_or words at 0) fits (omega arith);
    }
