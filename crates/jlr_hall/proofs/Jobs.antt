-- A job comes with its resource.
use Rattle.std.proofs.Common.{◌≡◌, ℕ, Bool, true, false, Option, Some, None, inl, inr, refl, sym, ap, subst, is_some}
use Rattle.jlr_types.specs.declared.Refusal.{Refusal}
use Rattle.jlr_types.specs.declared.Refusal.TheVariants.{NoMemory, Exhausted}
use Rattle.jlr_types.specs.declared.Work.TheVariants.{Note, Resource as OnResource}
use Rattle.jlr_machine.specs.declared.ask.Ask.{Ask}
use Rattle.jlr_machine.specs.declared.ask.Answer.TheVariants.{Refused}
use Rattle.jlr_machine.specs.declared.ask.Answer.TheVariants as answer
use Rattle.jlr_machine.specs.Chosen.{Chosen}
use Rattle.jlr_machine.specs.Refusals.{is_end}
use Rattle.jlr_resource.specs.Resources.{Resources}
use Rattle.jlr_event.specs.declared.event.Event.{Event}
use Rattle.jlr_event.specs.declared.event.Reply.{Reply}
use Rattle.jlr_event.specs.declared.event.Reply.TheVariants.{Answered, Marked}
use Rattle.jlr_event.specs.Events.{ask_of, answer_in, resource_of_event, resource_of_reply}
use Rattle.jlr_book.specs.Cores.{Kept, GoesOut, IsStep}
use Rattle.jlr_book.specs.Histories.{History}
use Rattle.jlr_book.specs.Rules.{AsksBy, BookSteps, EndsBy, StepsBy}
use Rattle.jlr_hall.specs.Asking.{HasItsResource}

out_by : {R : Type 0} (t : Resources R) (came : Option R) (reply : Reply R) → GoesOut t came (answer_in reply) (resource_of_reply reply)
    → HasItsResource reply
out_by {R} t came (Answered (answer.Job action (Note n)) resource) out = ap {A = Option R} {B = Bool} is_some out
out_by t came (Answered (answer.Job action (OnResource rid)) None) out = absurd out
out_by t came (Answered (answer.Job action (OnResource rid)) (Some value)) out = refl
out_by t came (Answered answer resource) out = tt
out_by t came (Marked progress) out = tt

refused_without : {R : Type 0} (reply : Reply R) (by : Refusal) (resource : Option R) → reply ≡ Answered (Refused by) resource
    → HasItsResource reply
refused_without {R} reply by resource is = subst (λ (r : Reply R). HasItsResource r) (sym is) tt

module _ {R : Type 0} (seat : ℕ) (h : History R) (e : Event R) (reply : Reply R) (new : History R) where
  comes_by : (old core : Kept R) (chosen : Chosen) → IsStep old e reply chosen core → HasItsResource reply
  comes_by old core chosen s = out_by old.table (resource_of_event e) reply s.goes_out

  when_end : EndsBy seat h e reply new → HasItsResource reply
  when_end (inl x) = comes_by h.core new.core x.0.chosen x.0.step
  when_end (inr x) = comes_by h.core new.core x.steps.0 x.steps.1

  when_ask : AsksBy seat h e reply new → HasItsResource reply
  when_ask (inl x) = comes_by x.ready.core new.core x.enters.chosen x.enters.step
  when_ask (inr x) = elim x.why [
    | inl w ↦ refused_without reply NoMemory (resource_of_event e) w.1
    | inr w ↦
        refused_without reply Exhausted (resource_of_event e) w.1
  ]

  comes_when : (asked : Option Ask) → StepsBy seat asked h e reply new → HasItsResource reply
  comes_when None s = comes_by h.core new.core s.chosen s.step
  comes_when (Some ask) s = elim (is_end ask) as (λ b.
      elim b as (λ _. Type 0) [ true ↦ EndsBy seat h e reply new | false ↦ AsksBy seat h e reply new ] → HasItsResource reply) [
        | true ↦ when_end
        | false ↦ when_ask
      ] s

  pub comes_with : BookSteps seat h e reply new → HasItsResource reply
  comes_with s = comes_when (ask_of e) s
