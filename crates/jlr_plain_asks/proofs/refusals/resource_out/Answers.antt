use Rattle.std.proofs.Common.{sym, ◌∙◌, ap}
use Rattle.jlr_machine.specs.Refusals.{resource_is_out}
use Rattle.jlr_plain_asks.proofs.refusals.resource_out.Goals as goal

pub returns-in-CheckOut : goal.returns-in-CheckOut
returns-in-CheckOut c = c.out.ensures ∙ sym (ap (resource_is_out c.args.machine.now) c.in-CheckOut.is)

pub returns-in-Close : goal.returns-in-Close
returns-in-Close c = c.out-in-Close.ensures ∙ sym (ap (resource_is_out c.args.machine.now) c.in-Close.is)
