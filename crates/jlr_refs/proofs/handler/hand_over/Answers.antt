use Rattle.std.proofs.Common.{sym, ◌∙◌}
use Rattle.jlr_refs.proofs.Handing.{hands_over_front}
use Rattle.jlr_refs.proofs.handler.hand_over.Goals as goal

pub deliver-requires-clause-front : goal.deliver-requires-clause-front
deliver-requires-clause-front c = sym c.first_pending.ensures ∙ c.in-Some.is

pub returns-clause-handed : goal.returns-clause-handed
returns-clause-handed c =
    hands_over_front c.args.heap.now.graph _ c.in-Some.slot _ c.requires.fit (sym c.first_pending.ensures ∙ c.in-Some.is)
    c.handed_at-handed.ensures c.deliver.ensures.delivered
