use Rattle.std.proofs.Common.{arith}
use Rattle.jlr_wire.proofs.Numbers.{above_none}
use Rattle.jlr_wire.proofs.number.field.Goals as goal

pub returns-then-number-ge4096 : goal.returns-then-number-ge4096
returns-then-number-ge4096 c =
    above_none 4096 c.args.text.now c.in_ok-number.number (omega arith) c.in_ok-number.ensures c.if-number-ge4096.true
