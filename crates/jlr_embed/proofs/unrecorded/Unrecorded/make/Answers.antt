use Rattle.std.proofs.Common.{rules, None}
use Rattle.jlr_event.specs.declared.event.Event.TheVariants.{Ask as Asks}
use Rattle.jlr_event.specs.declared.event.Reply.TheVariants.{Answered}
use Rattle.jlr_embed.proofs.Fitting.{kind_told, stands_after}
use Rattle.jlr_embed.proofs.unrecorded.Unrecorded.make.Goals as goal

pub invariant_of-self : goal.invariant_of-self
invariant_of-self g c = (
  search rules,
  stands_after c.self.inside.core c.answer-answer.new.self (Asks c.args.ask.now) (Answered c.answer-answer.result None)
      c.answer-answer.new.choice.chosen c.answer-answer.ensures.step c.self.invariant.1,
)

pub returns-clause-kind : goal.returns-clause-kind
returns-clause-kind g c = kind_told c.self.inside.core c.answer-answer.new.self (Asks c.args.ask.now) c.answer-answer.result None
    c.answer-answer.new.choice.chosen c.answer-answer.ensures.step c.self.invariant.1
