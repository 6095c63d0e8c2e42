use Rattle.jlr_laws.proofs.Refused.{lists_are_in_order}
use Rattle.jlr_laws.proofs.laws.each_list_of_refusals_is_in_order.Goals as goal

pub returns : goal.returns
returns c = lists_are_in_order
