use Rattle.std.proofs.Common.{subst}
use Rattle.jlr_book.specs.Rules.{BookSteps}
use Rattle.jlr_heap.proofs.Stepping.{back_answered, kind_answered, never_marked, suits_answered}
use Rattle.jlr_heap.proofs.recorded.Recorded.step.Goals as goal

pub unreachable-requires : goal.unreachable-requires
unreachable-requires g c = never_marked c.args.seat c.self.inside.book c.step.new.self c.args.event c.requires.asks c.is_history.ensures _
    (subst (λ r. BookSteps c.args.seat c.self.inside.book c.args.event r c.step.new.self) c.in-Marked.is c.step.ensures)

pub returns-clause-kind : goal.returns-clause-kind
returns-clause-kind g c = kind_answered c.args.seat c.self.inside.book c.step.new.self c.args.event c.requires.asks c.is_history.ensures
    c.in-Answered.answer c.in-Answered.resource (subst (λ r. BookSteps c.args.seat c.self.inside.book c.args.event r c.step.new.self)
    c.in-Answered.is c.step.ensures)

pub returns-clause-suits : goal.returns-clause-suits
returns-clause-suits g c = suits_answered c.args.seat c.self.inside.book c.step.new.self c.args.event c.requires.asks c.is_history.ensures
    c.in-Answered.answer c.in-Answered.resource (subst (λ r. BookSteps c.args.seat c.self.inside.book c.args.event r c.step.new.self)
    c.in-Answered.is c.step.ensures)

pub returns-clause-back : goal.returns-clause-back
returns-clause-back g c = back_answered c.args.seat c.self.inside.book c.step.new.self c.args.event c.requires.asks c.is_history.ensures
    c.in-Answered.answer c.in-Answered.resource (subst (λ r. BookSteps c.args.seat c.self.inside.book c.args.event r c.step.new.self)
    c.in-Answered.is c.step.ensures)
