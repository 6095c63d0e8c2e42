use Rattle.std.proofs.Common.{rules, arith}
use Rattle.jlr_wire.proofs.Numbers.{one_digit, two_digits}
use Rattle.jlr_wire.proofs.number.short_number.Goals as goal

pub returns-in-len1 : goal.returns-in-len1
returns-in-len1 c =
    let e = c.is_ascii_digit.ensures.cases in
    one_digit c.args.text.now c.from.result (omega (arith, c.in-len1.len_at_least, c.in-len1.len_below)) (search rules) (search rules)

pub returns-in-len2 : goal.returns-in-len2
returns-in-len2 c =
    two_digits c.args.text.now c.from-in-len2.result c.from-in-len2-2.result (omega (arith, c.in-len2.len_at_least, c.in-len2.len_below))
    (search rules) (search rules) (search rules) (search rules) (search rules)
