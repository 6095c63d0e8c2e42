use Rattle.std.proofs.Common.{arith, subst, vec_capacity}
use Rattle.jlr_plain.specs.Records.{replayed}
use Rattle.jlr_plain.proofs.Records.{as_many}
use Rattle.jlr_book.specs.Rules.{EndsBy}
use Rattle.jlr_book.proofs.Entering.{end_more}
use Rattle.jlr_book.proofs.Histories.{end_goes_on, ends_by, told}
use Rattle.jlr_book.proofs.book.Book.end.Goals as goal

pub invariant_of-self : goal.invariant_of-self
invariant_of-self g c =
    let old = c.self.inside in
    let did = c.record_end in
    let new = did.new in
    let entries = replayed old.image old.trace.items in
    let entries' = replayed old.image new.trace.items in
    let l = old.trace.ok.0 in
    let l' = new.trace.ok.0 in
    let m = as_many old.image old.trace.items in
    let m' = as_many old.image new.trace.items in
    let kept = c.self.invariant in
    let w = end_more old.image old.trace.items new.trace.items old.core new.core c.args.seat c.args.event did.result kept.history.ends
    did.ensures.writes in
    let x = end_goes_on old.limits old.base (vec_capacity old.trace) old.image entries entries' old.core new.core c.args.seat
    c.args.event did.result c.args.ask kept.history c.requires.ask c.requires.end w did.ensures.cells
    (omega (arith, l, m, kept.places)) in
    record {
      history = x.0;
      places = omega (arith, l', m', x.1, did.ensures.room);
      choice = omega (arith, kept.choice, did.ensures.choice);
    }

pub returns : goal.returns
returns g c =
    let old = c.self.inside in
    let did = c.record_end in
    let new = did.new in
    let entries = replayed old.image old.trace.items in
    let entries' = replayed old.image new.trace.items in
    let w = end_more old.image old.trace.items new.trace.items old.core new.core c.args.seat c.args.event did.result
    c.self.invariant.history.ends did.ensures.writes in
    subst (λ h. EndsBy c.args.seat h c.args.event did.result (told old.limits old.base old.image entries' new.core)) c.self.view_is
    (ends_by old.limits old.base old.image entries entries' old.core new.core c.args.seat c.args.event did.result w)
