use Rattle.std.proofs.Common.{List, [], ◌∷◌, ◌++◌, ap, refl, inl, inr, arith, sym, subst, ◌∙◌}
use Rattle.jlr_plain.specs.declared.record.Record.{Record}
use Rattle.jlr_event.specs.declared.event.Reply.TheVariants.{Answered}
use Rattle.jlr_steps.specs.Steps.{IsStep}
use Rattle.jlr_event.specs.declared.event.Event.TheVariants.{Ask as Asks}
use Rattle.jlr_book.proofs.Entering.{adds_record, end_chose, not_refused, owed_less_by, turned_away}
use Rattle.jlr_book.proofs.entry.record_asked_end.Goals as goal

pub push_reserved-requires : goal.push_reserved-requires
push_reserved-requires g c =
    let s = subst (λ q. IsStep c.args.core.now (Asks c.args.ask) q c.step_ask.new.choice.chosen c.step_ask.new.self) c.in-Answered.is
    c.step_ask.ensures.step in
    let less = owed_less_by c.args.core.now c.step_ask.new.self (Asks c.args.ask) (Answered c.in-Answered.answer c.in-Answered.resource)
    c.step_ask.new.choice.chosen c.args.ask s refl c.requires.end
    (λ by e. not_refused c.in-Answered.answer by (sym c.is_refused.ensures ∙ c.if-is_refused.false) e) c.requires.stands in
    omega (arith, less, c.requires.places)

pub returns-then-is_refused-clause-writes : goal.returns-then-is_refused-clause-writes
returns-then-is_refused-clause-writes g c =
    let s = subst (λ q. IsStep c.args.core.now (Asks c.args.ask) q c.step_ask.new.choice.chosen c.step_ask.new.self) c.in-Answered.is
    c.step_ask.ensures.step in
    inr (turned_away c.args.core.now c.step_ask.new.self (Asks c.args.ask) c.in-Answered.answer c.in-Answered.resource
    c.step_ask.new.choice.chosen c.args.trace.now.items s (sym c.is_refused.ensures ∙ c.if-is_refused.true))

pub returns-else-is_refused-clause-writes : goal.returns-else-is_refused-clause-writes
returns-else-is_refused-clause-writes g c =
    let s = subst (λ q. IsStep c.args.core.now (Asks c.args.ask) q c.step_ask.new.choice.chosen c.step_ask.new.self) c.in-Answered.is
    c.step_ask.ensures.step in
    let nothing = end_chose c.args.core.now c.step_ask.new.self (Asks c.args.ask) c.in-Answered.answer c.in-Answered.resource c.args.ask
    c.step_ask.new.choice.chosen s refl c.requires.end c.requires.stands in
    let noted = subst (λ x. IsStep c.args.core.now (Asks c.args.ask) (Answered c.in-Answered.answer c.in-Answered.resource) x
    c.step_ask.new.self) (sym (c.nothing.ensures ∙ nothing)) s in
    let more = c.push_reserved.ensures.items
    ∙ ap {A = Record} {B = List Record} (λ r. c.args.trace.now.items ++ r ∷ []) c.new.ensures in
    inl (
      adds_record c.args.core.now c.step_ask.new.self (Asks c.args.ask) (Answered c.in-Answered.answer c.in-Answered.resource)
          c.in-Answered.answer c.args.ask c.nothing.result c.args.trace.now.items c.push_reserved.new.self.items c.args.seat noted
          refl refl more,
      λ by e. not_refused c.in-Answered.answer by (sym c.is_refused.ensures ∙ c.if-is_refused.false) e,
    )
