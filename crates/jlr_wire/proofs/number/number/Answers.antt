use Rattle.std.proofs.Common.{◌∙◌}
use Rattle.jlr_wire.proofs.Numbers.{no_byte, narrowed}
use Rattle.jlr_wire.proofs.number.number.Goals as goal

pub returns-in_err-number : goal.returns-in_err-number
returns-in_err-number c = c.from_residual.ensures ∙ no_byte c.args.text.now c.in_err-number.ensures

pub returns : goal.returns
returns c = c.ok.ensures.value ∙ narrowed c.try_from.result c.args.text.now c.in_ok-number.number c.in_ok-number.ensures c.try_from.ensures
