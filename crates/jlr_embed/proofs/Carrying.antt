-- A call, from what its event did and how it was told.
use Rattle.std.proofs.Common.{◌≡◌, ℕ, Bool, true, false, Option, Some, None, inl, inr, refl, subst, sym}
use Rattle.jlr_machine.specs.declared.ask.Answer.{Answer}
use Rattle.jlr_machine.specs.declared.ask.Answer.TheVariants.{Data, Faults, Names, Notes}
use Rattle.jlr_event.specs.declared.event.Event.{Event}
use Rattle.jlr_embed.specs.Kinds.{is_faulted, is_prepared, is_told, is_wrote, tells_done}
use Rattle.jlr_embed.specs.Calls.{Carries, HeapOfTokens, status_closed}
use Rattle.jlr_embed.specs.OneEvent.{AskedOnce, Carried}
use Rattle.jlr_embed.specs.Tells.{IsBare, TellsEnd, holds_memory}
use Rattle.jlr_embed.specs.Ways.{EndsOnly}

pub carried : (old : Option HeapOfTokens) (event : Event ℕ) (answer : Answer) (token : Option ℕ) (new : Option HeapOfTokens)
    (Silent : Type 0)
    (Tells : Answer → Option ℕ → Type 0)
    → Carried old event answer token new → Tells answer token → Carries old event Silent Tells new
carried None event answer token new Silent Tells c told = absurd c
carried (Some old) event answer token new Silent Tells c told = (answer, token, c.0, c.1, c.2, told)

pub ended : (old : Option HeapOfTokens) (event : Event ℕ) (answer : Answer) (new : Option HeapOfTokens) (status : ℕ)
    → AskedOnce old event answer new
    → TellsEnd status answer → EndsOnly old event status new
ended None event answer new status c told = absurd c
ended (Some old) event answer new status c told = (answer, c.0, c.1, c.2, told)

pub silent : (old : Option HeapOfTokens) (event : Event ℕ) (new : Option HeapOfTokens) (status : ℕ) → old ≡ None → new ≡ None → status
    ≡ status_closed
    → EndsOnly old event status new
silent old event new status none stays told = subst (λ (o : Option HeapOfTokens). EndsOnly o event status new) (sym none) (told, stays)

-- ---- An answer of a bare kind holds no memory

told_end : (a : Answer) → is_told tells_done a ≡ true → holds_memory a ≡ false
told_end (Data bytes) told = sym told
told_end (Names names) told = sym told
told_end (Notes notes) told = sym told
told_end (Faults faults) told = sym told
told_end a told = refl

told_prepared : (a : Answer) → is_told is_prepared a ≡ true → holds_memory a ≡ false
told_prepared (Data bytes) told = sym told
told_prepared (Names names) told = sym told
told_prepared (Notes notes) told = sym told
told_prepared (Faults faults) told = sym told
told_prepared a told = refl

told_fault : (a : Answer) → is_told is_faulted a ≡ true → holds_memory a ≡ false
told_fault (Data bytes) told = sym told
told_fault (Names names) told = sym told
told_fault (Notes notes) told = sym told
told_fault (Faults faults) told = sym told
told_fault a told = refl

told_wrote : (a : Answer) → is_told is_wrote a ≡ true → holds_memory a ≡ false
told_wrote (Data bytes) told = sym told
told_wrote (Names names) told = sym told
told_wrote (Notes notes) told = sym told
told_wrote (Faults faults) told = sym told
told_wrote a told = refl

pub bare : (kind : Answer → Bool) (a : Answer) → IsBare kind → is_told kind a ≡ true → holds_memory a ≡ false
bare kind a (inl ends) told = told_end a (subst (λ (k : Answer → Bool). is_told k a ≡ true) ends told)
bare kind a (inr (inl made)) told = told_prepared a (subst (λ (k : Answer → Bool). is_told k a ≡ true) made told)
bare kind a (inr (inr (inl faulted))) told = told_fault a (subst (λ (k : Answer → Bool). is_told k a ≡ true) faulted told)
bare kind a (inr (inr (inr wrote))) told = told_wrote a (subst (λ (k : Answer → Bool). is_told k a ≡ true) wrote told)
