use Rattle.std.proofs.Common.{None, refl, arith, sym, subst}
use Rattle.jlr_plain.specs.Records.{replayed}
use Rattle.jlr_plain.proofs.Records.{as_many}
use Rattle.jlr_event.specs.declared.event.Event.TheVariants.{Ask as Asks}
use Rattle.jlr_event.specs.declared.event.Reply.TheVariants.{Answered}
use Rattle.jlr_book.specs.Histories.{HasNumbers}
use Rattle.jlr_book.specs.Rules.{AsksBy, BookSteps}
use Rattle.jlr_book.proofs.Entering.{brief_is_no_end, entry_more}
use Rattle.jlr_book.proofs.Histories.{asks_by, enter_goes_on, steps_as_asked, told}
use Rattle.jlr_book.proofs.book.Book.try_in_place.Goals as goal

pub record_in_place-said-requires-clause-place : goal.record_in_place-said-requires-clause-place
record_in_place-said-requires-clause-place g c =
    let places = c.if-has_reserved_places.ensures in
    omega (arith, places.1)

pub invariant_of-self : goal.invariant_of-self
invariant_of-self g c =
    let old = c.self.inside in
    let kept = c.self.invariant in
    let new = c.record_in_place-said.new in
    let l = old.trace.ok.0 in
    let m = as_many old.image old.trace.items in
    let entries = replayed old.image old.trace.items in
    let entries' = replayed old.image new.trace.items in
    let w = entry_more old.image old.trace.items new.trace.items old.core new.core c.args.seat (Asks c.args.ask)
    (Answered c.record_in_place-said.result None) c.self.invariant.history.ends c.record_in_place-said.ensures.writes in
    let l' = new.trace.ok.0 in
    let m' = as_many old.image new.trace.items in
    let places = c.if-has_reserved_places.ensures in
    let numbers = subst HasNumbers (sym c.self.view_is) c.if-has_numbers.ensures in
    let reply = Answered c.record_in_place-said.result None in
    let x = enter_goes_on old.limits old.base old.image entries entries' old.core new.core c.args.seat
    (Asks c.args.ask) reply
    kept.history w c.record_in_place-said.ensures.cells (omega (arith, numbers, l, m)) in
    record {
      history = x.0;
      places = omega (arith, l, m, l', m', x.1, x.2, places.1, c.record_in_place-said.ensures.room);
      choice = omega (arith, kept.choice, c.record_in_place-said.ensures.choice);
    }

pub returns-then-not-will_collect : goal.returns-then-not-will_collect
returns-then-not-will_collect g c =
    let old = c.self.inside in
    let new = c.record_in_place-said.new in
    let l = old.trace.ok.0 in
    let m = as_many old.image old.trace.items in
    let entries = replayed old.image old.trace.items in
    let entries' = replayed old.image new.trace.items in
    let w = entry_more old.image old.trace.items new.trace.items old.core new.core c.args.seat (Asks c.args.ask)
    (Answered c.record_in_place-said.result None) c.self.invariant.history.ends c.record_in_place-said.ensures.writes in
    let places = c.if-has_reserved_places.ensures in
    let numbers = subst HasNumbers (sym c.self.view_is) c.if-has_numbers.ensures in
    let ask = c.args.ask in
    let brief = sym c.if-fits_fast_path.ensures in
    let here = told old.limits old.base old.image entries' new.core in
    let reply = Answered c.record_in_place-said.result None in
    let asks = subst (λ h. AsksBy c.args.seat h (Asks ask) reply here) c.self.view_is
    (asks_by old.limits old.base old.image entries entries' old.core new.core c.args.seat (Asks ask) reply
    numbers (omega (arith, l, m, places.0)) w) in
    subst (λ said. BookSteps c.args.seat c.args.self.now (Asks ask) (Answered said None) here) (sym c.write_over.ensures)
    (steps_as_asked c.args.seat c.args.self.now here (Asks ask) reply ask refl (brief_is_no_end ask brief) asks)
