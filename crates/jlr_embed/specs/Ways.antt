-- The ways in which a call tells its answer: what the heap behind the handle was, the event, what the call returns,
-- what stood behind its out pointer and what stands there, and what the heap is.
use Rattle.std.specs.Prelude.{◌≡◌, ℕ, ℤ, Bool, List, Option}
use Rattle.jlr_event.specs.declared.event.Event.{Event}
use Rattle.jlr_embed.specs.declared.handle.out.Counts.{Counts}
use Rattle.jlr_embed.specs.declared.handle.out.Failed.{Failed}
use Rattle.jlr_embed.specs.declared.handle.out.Taken.{Taken}
use Rattle.jlr_embed.specs.Calls.{CallsHeap, Carries, HeapOfTokens, status_closed, range}
use Rattle.jlr_embed.specs.Tells.{TellsCounts, TellsEnd, TellsFault, TellsHandle, TellsInteger, TellsJob, TellsName}
use Rattle.jlr_embed.specs.Tells.{TellsNote, TellsToken, TellsTruth}

-- an argument is out of its range: nothing is done
abbrev pub IsOutOfRange : Option HeapOfTokens → ℕ → Option HeapOfTokens → Type 0
IsOutOfRange old status new = (status ≡ range) × (new ≡ old)

-- nothing but how it ended
abbrev pub EndsOnly : Option HeapOfTokens → Event ℕ → ℕ → Option HeapOfTokens → Type 0
EndsOnly old event status new = CallsHeap old event (status ≡ status_closed) (TellsEnd status) new

abbrev pub GivesHandle : Option HeapOfTokens → Event ℕ → ℕ → ℕ → ℕ → Option HeapOfTokens → Type 0
GivesHandle old event status was is new =
    CallsHeap old event ((status ≡ status_closed) × (is ≡ was)) (TellsHandle status was is) new

abbrev pub GivesTruth : Option HeapOfTokens → Event ℕ → ℕ → Bool → Bool → Option HeapOfTokens → Type 0
GivesTruth old event status was is new = CallsHeap old event ((status ≡ status_closed) × (is ≡ was))
    (TellsTruth status was is)
    new

abbrev pub GivesInteger : Option HeapOfTokens → Event ℕ → ℕ → ℤ → ℤ → Option HeapOfTokens → Type 0
GivesInteger old event status was is new =
    CallsHeap old event ((status ≡ status_closed) × (is ≡ was)) (TellsInteger status was is) new

abbrev pub GivesCounts : Option HeapOfTokens → Event ℕ → ℕ → Counts → Counts → Option HeapOfTokens → Type 0
GivesCounts old event status was is new =
    CallsHeap old event ((status ≡ status_closed) × (is ≡ was)) (TellsCounts status was is) new

-- the item of an index
abbrev pub GivesName : ℕ → Option HeapOfTokens → Event ℕ → ℕ → List ℕ → List ℕ → Option HeapOfTokens → Type 0
GivesName index old event status was is new =
    CallsHeap old event ((status ≡ status_closed) × (is ≡ was)) (TellsName status was is index) new

abbrev pub GivesNote : ℕ → Option HeapOfTokens → Event ℕ → ℕ → ℕ → ℕ → Option HeapOfTokens → Type 0
GivesNote index old event status was is new =
    CallsHeap old event ((status ≡ status_closed) × (is ≡ was)) (TellsNote status was is index) new

abbrev pub GivesFailure : ℕ → Option HeapOfTokens → Event ℕ → ℕ → Failed → Failed → Option HeapOfTokens → Type 0
GivesFailure index old event status was is new =
    CallsHeap old event ((status ≡ status_closed) × (is ≡ was)) (TellsFault status was is index) new

-- ---- Of an event that may carry a token

abbrev pub EndsCarrying : Option HeapOfTokens → Event ℕ → ℕ → Option HeapOfTokens → Type 0
EndsCarrying old event status new = Carries old event (status ≡ status_closed) (λ answer token. TellsEnd status answer)
    new

abbrev pub Adopts : Option HeapOfTokens → Event ℕ → ℕ → ℕ → ℕ → Option HeapOfTokens → Type 0
Adopts old event status was is new =
    Carries old event ((status ≡ status_closed) × (is ≡ was)) (λ answer token. TellsHandle status was is answer) new

abbrev pub GivesJob : Option HeapOfTokens → Event ℕ → ℕ → Taken → Taken → Option HeapOfTokens → Type 0
GivesJob old event status was is new = Carries old event ((status ≡ status_closed) × (is ≡ was))
    (TellsJob status was is) new

abbrev pub GivesToken : Option HeapOfTokens → Event ℕ → ℕ → ℕ → ℕ → Option HeapOfTokens → Type 0
GivesToken old event status was is new =
    Carries old event ((status ≡ status_closed) × (is ≡ was)) (TellsToken status was is) new
