use Rattle.std.proofs.Common.{refl, arith, subst, vec_capacity}
use Rattle.jlr_plain.specs.Records.{replayed}
use Rattle.jlr_plain.proofs.Records.{as_many}
use Rattle.jlr_book.specs.Writing.{Pieces}
use Rattle.jlr_book.proofs.Histories.{mark_goes_on, told}
use Rattle.jlr_book.proofs.book.Book.mark_piece.Goals as goal

pub invariant_of-self : goal.invariant_of-self
invariant_of-self g c =
    let old = c.self.inside in
    let new = c.step.new in
    let l = old.trace.ok.0 in
    let m = as_many old.image old.trace.items in
    let entries = replayed old.image old.trace.items in
    let kept = c.self.invariant in
    let x = mark_goes_on old.limits old.base (vec_capacity old.trace) old.image entries old.core new.self c.args.event c.step.result
    new.choice.chosen
    kept.history c.step.ensures.step c.requires c.step.ensures.cells (omega (arith, l, m, kept.places)) in
    record { history = x.0; places = omega (arith, l, m, x.1); choice = omega (arith, kept.choice, c.step.ensures.room) }

pub returns : goal.returns
returns g c =
    let old = c.self.inside in
    let new = c.step.new in
    let entries = replayed old.image old.trace.items in
    subst (λ h. Pieces h c.args.event c.step.result (told old.limits old.base old.image entries new.self)) c.self.view_is
    (record { chosen = new.choice.chosen; step = c.step.ensures.step; stays = refl })
