-- One event of the heap behind a handle, which is open and stays so. No clause of a crate above names them.
use Rattle.std.specs.Prelude.{◌≡◌, ℕ, Option, Some, None}
use Rattle.jlr_machine.specs.declared.ask.Answer.{Answer}
use Rattle.jlr_event.specs.declared.event.Event.{Event}
use Rattle.jlr_event.specs.declared.event.Reply.TheVariants.{Answered}
use Rattle.jlr_steps.specs.Steps.{Steps}
use Rattle.jlr_embed.specs.Calls.{HeapOfTokens}

abbrev pub AskedOnce : Option HeapOfTokens → Event ℕ → Answer → Option HeapOfTokens → Type 0
AskedOnce None event answer new = ⊥
AskedOnce (Some old) event answer new = (h : HeapOfTokens) × (new ≡ Some h) × Steps old event (Answered answer None) h

abbrev pub Carried : Option HeapOfTokens → Event ℕ → Answer → Option ℕ → Option HeapOfTokens → Type 0
Carried None event answer token new = ⊥
Carried (Some old) event answer token new = (h : HeapOfTokens) × (new ≡ Some h)
    × Steps old event (Answered answer token) h
