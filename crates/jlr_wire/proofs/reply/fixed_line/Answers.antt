use Rattle.std.proofs.Common.{◌≡◌, ◌⊎◌, inl, inr, Some, refl, sym, ap, ◌∙◌}
use Rattle.std.specs.Prelude.{codes}
use Rattle.jlr_machine.specs.declared.ask.Answer.{Answer}
use Rattle.jlr_machine.specs.declared.ask.Answer.TheVariants.{Done, AlreadyDone, Truth}
use Rattle.jlr_wire.specs.Replies.{words}
use Rattle.jlr_wire.proofs.reply.fixed_line.Goals as goal

either : (a : Answer) → (a ≡ Done) ⊎ (a ≡ AlreadyDone) → words a ≡ Some (codes "ok")
either a (inl e) = ap words e
either a (inr e) = ap words e

pub returns-in-Done : goal.returns-in-Done
returns-in-Done c = (codes "ok", either _ c.in-Done.is, refl)

pub returns-in-Truth-true : goal.returns-in-Truth-true
returns-in-Truth-true c =
    (codes "yes", ap words (c.in-Truth-true.is ∙ ap Truth (sym c.in-Truth-true.field-0-is ∙ c.in-Truth-true.field-0-test)), refl)

pub returns-in-Truth-false : goal.returns-in-Truth-false
returns-in-Truth-false c =
    (codes "no", ap words (c.in-Truth-false.is ∙ ap Truth (sym c.in-Truth-false.field-0-is ∙ c.in-Truth-false.field-0-test)), refl)
