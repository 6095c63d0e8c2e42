-- Commands of two asks, from their parts.
use Rattle.std.proofs.Common.{◌≡◌, ◌⊎◌, inl, inr, ℕ, true, false, Option, None, Result, Ok, refl, subst}
use Rattle.std.specs.Prelude.{⊤}
use Rattle.jlr_types.specs.declared.Fault.{Fault}
use Rattle.jlr_types.specs.declared.Work.{Work}
use Rattle.jlr_machine.specs.declared.ask.Answer.{Answer}
use Rattle.jlr_machine.specs.declared.ask.Answer.TheVariants.{AlreadyDone, Done, Handed, Job}
use Rattle.jlr_machine.specs.declared.ask.Handed.{Handed as What}
use Rattle.jlr_device.specs.Handling.{Handling}
use Rattle.jlr_event.specs.declared.event.Event.{Event}
use Rattle.jlr_machine.specs.declared.ask.Ask.TheVariants.{Close, Finish}
use Rattle.jlr_event.specs.declared.event.Event.TheVariants.{Ask as Asks}
use Rattle.jlr_event.specs.Events.{outcome_of, said_by}
use Rattle.jlr_event.specs.declared.event.Reply.{Reply}
use Rattle.jlr_event.specs.declared.event.Reply.TheVariants.{Answered}
use Rattle.jlr_session.specs.Calls.{Finishes}
use Rattle.jlr_session.specs.Asks.{Asking, TellsFinished, job_by}
use Rattle.jlr_heap.specs.Files.{IsAskedTwice, TellsClosed}

module _ {K R : Type 0} (asking : Asking K R) (old new : K) where
  pub told : (e e' : Event R) (a said : Answer) (out : Option R) → e ≡ e' → asking.asks old e (Answered a out) new → a ≡ said
      → (last : Reply R) × asking.asks old e' last new × (said_by last ≡ said)
  told e e' a said out same h is = (Answered a out, subst (λ e. asking.asks old e (Answered a out) new) same h, is)

  module _ (handling : Handling R) (guard : ℕ) (a : Answer) (held : Option R) where
    pub closed_now : (between : K) (action : ℕ) (work : Work) (outcome : Result (Unit {0}) Fault)
        → asking.asks old (Asks (Close 0 guard)) (Answered a held) between → a ≡ Job action work
        → Finishes handling held outcome → asking.asks between (Asks (Finish 0 action (outcome_of outcome))) (Answered Done None) new
        → IsAskedTwice asking (Close 0 guard) job_by (TellsFinished handling 0) ⊤ TellsClosed old (Ok true) new
    closed_now between action work outcome h is f h' =
        let first = subst (λ a. asking.asks old (Asks (Close 0 guard)) (Answered a held) between) is h in (
          Done,
          (
            Answered (Job action work) held,
            between,
            first,
            (Asks (Finish 0 action (outcome_of outcome)), Answered Done None, (outcome, f, refl), h', refl),
          ),
          tt,
        )

    pub closed_before : asking.asks old (Asks (Close 0 guard)) (Answered a held) new → (a ≡ AlreadyDone)
        ⊎ ((what : What) × (a ≡ Handed what))
        → IsAskedTwice asking (Close 0 guard) job_by (TellsFinished handling 0) ⊤ TellsClosed old (Ok false) new
    closed_before h is = elim is [
      | inl e ↦
          let first = subst (λ a. asking.asks old (Asks (Close 0 guard)) (Answered a held) new) e h in
          (AlreadyDone, (Answered AlreadyDone held, new, first, (refl, refl, tt)), tt)
      | inr e ↦
          let first = subst (λ a. asking.asks old (Asks (Close 0 guard)) (Answered a held) new) e.1 h in
          (Handed e.0, (Answered (Handed e.0) held, new, first, (refl, refl, tt)), tt)
    ]
