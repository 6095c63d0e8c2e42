use Rattle.std.proofs.Common.{◌≡◌, true, false, Some, refl, sym, subst, ◌∙◌}
use Rattle.std.proofs.lemmas.Bool.{both_ways}
use Rattle.std.proofs.lemmas.Option.{none-some}
use Rattle.jlr_machine.specs.declared.ask.Ask.{Ask}
use Rattle.jlr_machine.specs.Refusals.{is_end}
use Rattle.jlr_laws.proofs.Frames.{some_same}
use Rattle.jlr_event.specs.declared.event.Event.{Event}
use Rattle.jlr_event.specs.declared.event.Event.TheVariants.{Ask as Asks, CheckIn, Mark, Opened}
use Rattle.jlr_event.specs.Events.{ask_of}
use Rattle.jlr_book.specs.Kinds.{hands_in_or_marks}
use Rattle.jlr_book.proofs.Histories.{steps_as_ended}
use Rattle.jlr_book.proofs.book.Book.step_with_resource.Goals as goal

-- what is no plain ask ends an open or a call
ends : {R : Type 0} (e : Event R) (asked : Ask) → hands_in_or_marks e ≡ true → ask_of e ≡ Some asked → is_end asked ≡ true
ends (Asks a) asked is e = absurd (both_ways false refl is)
ends (Opened k outcome) asked is e = subst (λ a. is_end a ≡ true) (some_same _ asked e) refl
ends (CheckIn k outcome resource) asked is e = subst (λ a. is_end a ≡ true) (some_same _ asked e) refl
ends (Mark budget) asked is e = absurd (none-some asked e)

pub returns : goal.returns
returns g c =
    let is : ask_of c.args.event ≡ Some c.in-Some.ask = sym c.end_of.ensures ∙ c.in-Some.is in
    steps_as_ended c.args.seat c.args.self.now c.end.new.self c.args.event c.end.result c.in-Some.ask is
    (ends c.args.event c.in-Some.ask c.requires.hands_in is) c.end.ensures
