use Rattle.std.proofs.Common.{rules}
use Rattle.jlr_embed.proofs.Fitting.{back_carried, kind_carried, not_marked, suits_carried, stands_after}
use Rattle.jlr_embed.proofs.unrecorded.Unrecorded.carry.Goals as goal

pub unreachable-requires : goal.unreachable-requires
unreachable-requires g c = not_marked c.self.inside.core c.step.new.self c.args.event c.step.result c.step.new.choice.chosen
    c.step.ensures.step c.self.invariant.1 _ c.in-Marked.is c.requires.asks

pub invariant_of-self : goal.invariant_of-self
invariant_of-self g c = (
  search rules,
  stands_after c.self.inside.core c.step.new.self c.args.event c.step.result c.step.new.choice.chosen c.step.ensures.step
      c.self.invariant.1,
)

pub returns-clause-kind : goal.returns-clause-kind
returns-clause-kind g c = kind_carried c.self.inside.core c.step.new.self c.args.event c.step.result c.step.new.choice.chosen
    c.step.ensures.step c.self.invariant.1 c.in-Answered.answer c.in-Answered.resource c.in-Answered.is

pub returns-clause-suits : goal.returns-clause-suits
returns-clause-suits g c = suits_carried c.self.inside.core c.step.new.self c.args.event c.step.result c.step.new.choice.chosen
    c.step.ensures.step c.self.invariant.1 c.in-Answered.answer c.in-Answered.resource c.in-Answered.is

pub returns-clause-back : goal.returns-clause-back
returns-clause-back g c = back_carried c.self.inside.core c.step.new.self c.args.event c.step.result c.step.new.choice.chosen
    c.step.ensures.step c.self.invariant.1 c.in-Answered.answer c.in-Answered.resource c.in-Answered.is
