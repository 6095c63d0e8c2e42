use Rattle.std.proofs.Common.{Some, arith, sym, subst, refl, ap}
use Rattle.jlr_machine.specs.declared.ask.Ask.TheVariants as ask
use Rattle.jlr_machine.specs.Run.{no_choice}
use Rattle.jlr_plain.specs.Records.{replayed}
use Rattle.jlr_plain.proofs.Records.{as_many}
use Rattle.jlr_event.specs.declared.event.Event.TheVariants.{Ask as Asks}
use Rattle.jlr_event.specs.declared.event.Reply.TheVariants.{Answered}
use Rattle.jlr_steps.specs.Events.{handed_out, take_up_answered}
use Rattle.jlr_book.specs.Histories.{HasNumbers}
use Rattle.jlr_book.specs.Rules.{AsksBy}
use Rattle.jlr_book.proofs.Entering.{entry_recorded}
use Rattle.jlr_book.proofs.Histories.{asks_by, enter_goes_on, told}
use Rattle.jlr_book.proofs.book.Book.take_up_on.Goals as goal

pub invariant_of-self : goal.invariant_of-self
invariant_of-self g c =
    let old = c.self.inside in
    let kept = c.self.invariant in
    let core' = c.take_up-taken.new.self in
    let entries = replayed old.image old.trace.items in
    let entries' = replayed old.image c.push_reserved.new.self.items in
    let reply = Answered (take_up_answered c.take_up-taken.result) (handed_out c.take_up-taken.result) in
    let w = entry_recorded old.image old.trace.items c.push_reserved.new.self.items old.core core' c.args.seat (Asks ask.TakeUp) reply
    c.self.invariant.history.ends c.take_up_answer-answer.result ask.TakeUp no_choice c.nothing.result c.new.result
    c.take_up-taken.ensures.step
    c.nothing.ensures refl
    (ap (λ a. Some a) (sym c.take_up_answer-answer.ensures)) c.new.ensures c.push_reserved.ensures.items in
    let l = old.trace.ok.0 in
    let m = as_many old.image old.trace.items in
    let l' = c.push_reserved.new.self.ok.0 in
    let m' = as_many old.image c.push_reserved.new.self.items in
    let places = c.if-not-has_reserved_places.ensures in
    let numbers = subst HasNumbers (sym c.self.view_is) c.if-not-has_numbers.ensures in
    let x = enter_goes_on old.limits old.base old.image entries entries' old.core core' c.args.seat (Asks ask.TakeUp) reply
    kept.history w c.take_up-taken.ensures.cells (omega (arith, numbers, l, m)) in
    record {
      history = x.0;
      places = omega (arith, l, m, l', m', x.1, x.2, places.1, c.push_reserved.ensures.capacity);
      choice = kept.choice;
    }

pub returns : goal.returns
returns g c =
    let old = c.self.inside in
    let core' = c.take_up-taken.new.self in
    let entries = replayed old.image old.trace.items in
    let entries' = replayed old.image c.push_reserved.new.self.items in
    let reply = Answered (take_up_answered c.take_up-taken.result) (handed_out c.take_up-taken.result) in
    let w = entry_recorded old.image old.trace.items c.push_reserved.new.self.items old.core core' c.args.seat (Asks ask.TakeUp) reply
    c.self.invariant.history.ends c.take_up_answer-answer.result ask.TakeUp no_choice c.nothing.result c.new.result
    c.take_up-taken.ensures.step
    c.nothing.ensures refl
    (ap (λ a. Some a) (sym c.take_up_answer-answer.ensures)) c.new.ensures c.push_reserved.ensures.items in
    let l = old.trace.ok.0 in
    let m = as_many old.image old.trace.items in
    let places = c.if-not-has_reserved_places.ensures in
    let numbers = subst HasNumbers (sym c.self.view_is) c.if-not-has_numbers.ensures in
    let new = told old.limits old.base old.image entries' core' in
    subst (λ h. AsksBy c.args.seat h (Asks ask.TakeUp) reply new) c.self.view_is
    (asks_by old.limits old.base old.image entries entries' old.core core' c.args.seat (Asks ask.TakeUp) reply
    numbers (omega (arith, l, m, places.0)) w)
