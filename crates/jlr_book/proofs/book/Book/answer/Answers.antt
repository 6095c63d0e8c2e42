use Rattle.std.proofs.Common.{◌≡◌, ◌∙◌, None, refl, subst}
use Rattle.jlr_event.specs.declared.event.Event.TheVariants.{Ask as Asks}
use Rattle.jlr_event.specs.declared.event.Reply.TheVariants.{Answered}
use Rattle.jlr_book.specs.Rules.{BookSteps}
use Rattle.jlr_book.proofs.book.Book.answer.Goals as goal
use Rattle.jlr_book.proofs.book.Book.answer.Goals.{then-is_behind, else-is_behind}

-- the image that follows is not seen
pub returns-in_default : goal.returns-in_default
returns-in_default g c =
    let same : c.if-is_behind.self ≡ c.args.self.now =
    elim c.if-is_behind.branch [ then-is_behind w ↦ w.self-is ∙ w.follow_some.ensures | else-is_behind w ↦ w.self-is ] in
    let reply = Answered c.try_in_place.new.answer None in
    (reply, subst (λ h. BookSteps c.args.seat h (Asks c.args.ask) reply c.try_in_place.new.self) same c.in_default.ensures, refl)
