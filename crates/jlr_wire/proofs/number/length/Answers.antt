use Rattle.std.proofs.Common.{arith, ap, Some, None, cond, nat_le}
use Rattle.jlr_wire.specs.Reading.{◌>>=◌}
use Rattle.jlr_wire.proofs.Numbers.{above_none}
use Rattle.jlr_wire.proofs.number.length.Goals as goal

pub returns-then-number-ge4097 : goal.returns-then-number-ge4097
returns-then-number-ge4097 c = ap (λ o. o >>= λ n. cond (nat_le 1 n) (Some n) None)
    (above_none 4097 c.args.text.now c.in_ok-number.number (omega arith) c.in_ok-number.ensures c.if-number-ge4097.true)
