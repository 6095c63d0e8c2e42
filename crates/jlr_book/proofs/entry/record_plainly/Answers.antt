use Rattle.std.proofs.Common.{List, [], ◌∷◌, ◌++◌, ap, refl, subst, sym, ◌∙◌}
use Rattle.jlr_plain.specs.declared.record.Record.{Record}
use Rattle.jlr_steps.specs.Steps.{IsStep}
use Rattle.jlr_event.specs.declared.event.Event.TheVariants.{Ask as Asks}
use Rattle.jlr_book.proofs.Entering.{adds_record, answered, chosen_plainly}
use Rattle.jlr_book.proofs.entry.record_plainly.Goals as goal

pub answer_of-requires : goal.answer_of-requires
answer_of-requires g c =
    let made = c.step_ask-reply in
    answered c.args.core.now made.new.self (Asks c.args.ask) made.result made.new.choice.chosen c.args.ask made.ensures.step
    refl c.requires.stands

pub returns-clause-writes : goal.returns-clause-writes
returns-clause-writes g c =
    let made = c.step_ask-reply in
    let step = subst (λ chosen. IsStep c.args.core.now (Asks c.args.ask) made.result chosen made.new.self) (sym c.plain-choice.ensures)
    (chosen_plainly c.args.core.now made.new.self (Asks c.args.ask) made.result made.new.choice.chosen made.ensures.step
    c.requires.stands c.take_fresh.result c.requires.plain c.take_fresh.ensures.taken) in
    let more = c.push_reserved.ensures.items
    ∙ ap {A = Record} {B = List Record} (λ r. c.args.trace.now.items ++ r ∷ []) c.new.ensures in
    adds_record c.args.core.now made.new.self (Asks c.args.ask) made.result c.answer_of.result.now c.args.ask c.plain-choice.result
    c.args.trace.now.items c.push_reserved.new.self.items c.args.seat step refl c.answer_of.ensures more
