use Rattle.std.proofs.Common.{refl, arith, subst, vec_capacity}
use Rattle.jlr_machine.specs.Run.{no_choice}
use Rattle.jlr_plain.specs.Records.{replayed}
use Rattle.jlr_plain.proofs.Records.{as_many}
use Rattle.jlr_event.specs.declared.event.Event.TheVariants.{Mark}
use Rattle.jlr_event.specs.declared.event.Reply.TheVariants.{Marked}
use Rattle.jlr_book.specs.Rules.{MarksBy}
use Rattle.jlr_book.proofs.Histories.{mark_goes_on, told}
use Rattle.jlr_book.proofs.book.Book.mark.Goals as goal

pub invariant_of-self : goal.invariant_of-self
invariant_of-self g c =
    let old = c.self.inside in
    let new = c.mark.new in
    let l = old.trace.ok.0 in
    let m = as_many old.image old.trace.items in
    let entries = replayed old.image old.trace.items in
    let kept = c.self.invariant in
    let x = mark_goes_on old.limits old.base (vec_capacity old.trace) old.image entries old.core new.self (Mark c.args.budget)
    (Marked c.mark.result) no_choice
    kept.history c.mark.ensures.step refl c.mark.ensures.cells (omega (arith, l, m, kept.places)) in
    record { history = x.0; places = omega (arith, l, m, x.1); choice = omega (arith, kept.choice, c.mark.ensures.cells) }

pub returns : goal.returns
returns g c =
    let old = c.self.inside in
    let new = c.mark.new in
    let entries = replayed old.image old.trace.items in
    subst (λ h. MarksBy h c.args.budget c.mark.result (told old.limits old.base old.image entries new.self)) c.self.view_is
    (record { steps = (no_choice, c.mark.ensures.step); stays = refl })
