-- What a book answers fits the room that was made for it.
use Rattle.std.proofs.Common.{◌≡◌, Bool, true, false, nat_lt, length, None, sym}
use Rattle.std.proofs.Common.{ap, subst}
use Rattle.jlr_machine.specs.declared.ask.Ask.TheVariants.{Abandon}
use Rattle.jlr_machine.specs.declared.ask.Answer.TheVariants.{Truth}
use Rattle.jlr_event.specs.declared.event.Event.TheVariants.{Ask as Asks}
use Rattle.jlr_event.specs.declared.event.Reply.TheVariants.{Answered}
use Rattle.jlr_steps.specs.Cores.{Kept}
use Rattle.jlr_book.specs.Histories.{History, IsHistory}
use Rattle.jlr_book.specs.Rules.{Cuts, GivesUp, Readies}
use Rattle.jlr_book.specs.Writing.{Stands}
use Rattle.jlr_book.proofs.Entering.{stands_there}
use Rattle.jlr_book.proofs.Histories.{stands_after}

module _ {R : Type 0} (h : History R) (is : IsHistory h) where
  pub stands_here : Stands h.core
  stands_here = stands_there h.image h.entries h.core is.ends

  -- so it does after an open cycle was given up
  given_up : (b : Bool) (core : Kept R) → GivesUp b h.core core → Stands core
  given_up true core s = stands_after h.image h.entries h.core core (Asks Abandon) (Answered (Truth true) None) s.0 s.1 is.ends
  given_up false core same = subst Stands (sym same) stands_here

  pub ready_stands : (ready : History R) → Readies h ready → Stands ready.core
  ready_stands ready r =
      elim (nat_lt (length h.entries) h.limits.trace) as (λ b. elim b as (λ _. Type 0) [ true ↦ ready ≡ h | false ↦ Cuts h ready ]
      → Stands ready.core) [
        | true ↦ λ same. subst Stands (sym (ap {A = History R} {B = Kept R} (λ x. x.core) same)) stands_here
        | false ↦ λ cut. given_up h.core.machine.cycle_open ready.core cut.gives_up
      ] r
