use Rattle.std.proofs.Common.{None, List, [], ◌∷◌, ◌++◌, ap, refl, subst, sym, ◌∙◌}
use Rattle.jlr_machine.specs.Chosen.{Chosen}
use Rattle.jlr_plain.specs.declared.record.Record.{Record}
use Rattle.jlr_event.specs.declared.event.Event.{Event}
use Rattle.jlr_event.specs.declared.event.Event.TheVariants.{Ask as Asks}
use Rattle.jlr_event.specs.declared.event.Reply.TheVariants.{Answered}
use Rattle.jlr_steps.specs.Steps.{IsStep}
use Rattle.jlr_book.proofs.Entering.{adds_record, brief_carries_none, chosen_plainly}
use Rattle.jlr_book.proofs.entry.record_in_place.Goals as goal

pub answer-answer-requires-clause-plain : goal.answer-answer-requires-clause-plain
answer-answer-requires-clause-plain g c = brief_carries_none c.args.ask c.requires.brief

pub returns-clause-writes : goal.returns-clause-writes
returns-clause-writes g c =
    let did = c.answer-answer in
    let fresh = c.take_fresh in
    let core = c.args.core.now in
    let asks : Event g.row.R.Denot = Asks c.args.ask in
    let reply = Answered did.result None in
    let step = subst (λ (x : Chosen). IsStep core asks reply x did.new.self) (sym c.plain-choice.ensures)
    (chosen_plainly core did.new.self asks reply did.new.choice.chosen did.ensures.step c.requires.stands
    fresh.result c.requires.plain fresh.ensures.taken) in
    let more = c.push_reserved.ensures.items
    ∙ ap {A = Record} {B = List Record} (λ r. c.args.trace.now.items ++ r ∷ []) c.new.ensures in
    adds_record core did.new.self asks reply did.result c.args.ask c.plain-choice.result c.args.trace.now.items
    c.push_reserved.new.self.items c.args.seat step refl refl more
