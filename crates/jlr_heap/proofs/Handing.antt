-- Steps of the handler over a book.
use Rattle.std.proofs.Common.{◌≡◌, ◌≢◌, inl, inr, ℕ, ◌<◌, arith, List, [], ◌∷◌, ◌++◌, Option, None, length, refl, sym, ◌∙◌, ap, subst}
use Rattle.jlr_machine.specs.declared.machine.Machine.{Machine}
use Rattle.jlr_machine.specs.declared.ask.Handed.{Handed}
use Rattle.jlr_machine.specs.declared.ask.Ask.TheVariants as ask
use Rattle.jlr_machine.specs.declared.ask.Answer.TheVariants as answer
use Rattle.jlr_event.specs.declared.event.Event.TheVariants.{Ask as Asks}
use Rattle.jlr_event.specs.declared.event.Reply.TheVariants.{Answered}
use Rattle.jlr_steps.specs.Cores.{Kept}
use Rattle.jlr_steps.specs.Steps.{IsStep, Steps}
use Rattle.jlr_embed.proofs.Fitting.{goes_back}
use Rattle.jlr_embed.proofs.Handing.{less_pending}
use Rattle.jlr_book.specs.Histories.{History, IsHistory}
use Rattle.jlr_book.specs.Rules.{BookSteps}
use Rattle.jlr_heap.specs.Recording.{HandsOne, HandsOverRecorded}
use Rattle.jlr_heap.proofs.Stepping.{IsReady, asked}

ready_less : {R : Type 0} (old : History R) (core new : Kept R) (what : Handed) (out : Option R) → IsReady old core
    → Steps core (Asks ask.HandOver) (Answered (answer.Handed what) out) new → old.core.machine.pending ≢ []
    → length new.machine.pending < length old.core.machine.pending
ready_less {R} old core new what out ready steps some =
    let same : core.machine.pending ≡ old.core.machine.pending = ap {A = Machine} {B = List ℕ} (λ n. n.pending) ready.0 in
    let nothing : out ≡ None = goes_back core.table None (answer.Handed what) out steps.1.goes_out in
    let step : IsStep core (Asks ask.HandOver) (Answered (answer.Handed what) None) steps.0 new =
    subst (λ o. IsStep core (Asks ask.HandOver) (Answered (answer.Handed what) o) steps.0 new) nothing steps.1 in
    let less = less_pending core new what steps.0 step (ready.1.0, ready.1.1) (λ e. some (sym same ∙ e)) in
    omega (arith, less, ap length same)

pub less_handed : {R : Type 0} (seat : ℕ) (old new : History R) (what : Handed) (out : Option R) → IsHistory old
    → BookSteps seat old (Asks ask.HandOver) (Answered (answer.Handed what) out) new → old.core.machine.pending ≢ []
    → length new.core.machine.pending < length old.core.machine.pending
less_handed {R} seat old new what out h steps some =
    elim (asked seat old new (Asks ask.HandOver) (Answered (answer.Handed what) out) ask.HandOver refl h steps) [
      | inl c ↦ ready_less old c.0 new.core what out c.1 c.2 some
      | inr d ↦ cc d.1
    ]

pub one_more : {R : Type 0} (states : List (History R)) (old mid new : History R) → HandsOverRecorded states old mid → HandsOne mid new
    → HandsOverRecorded (states ++ new ∷ []) old new
one_more [] old mid new h s = (subst (λ m. HandsOne m new) h s, refl)
one_more (x ∷ states) old mid new h s = (h.0, one_more states x mid new h.1 s)
