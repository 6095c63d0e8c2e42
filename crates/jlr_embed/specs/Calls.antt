-- What a call does to the heap behind a handle.
use Rattle.std.specs.Prelude.{◌≡◌, ℕ, Option, Some, None}
use Rattle.jlr_types.specs.declared.Progress.{Progress}
use Rattle.jlr_types.specs.declared.limits.LimitFault.{LimitFault}
use Rattle.jlr_types.specs.declared.limits.LimitFault.TheVariants.{Cells, Sessions, Resources, SoftAge, Trace, Budget}
use Rattle.jlr_machine.specs.declared.ask.Answer.{Answer}
use Rattle.jlr_machine.specs.declared.ask.Handed.{Handed}
use Rattle.jlr_machine.specs.declared.ask.Answer.TheVariants as answer
use Rattle.jlr_event.specs.declared.event.Event.{Event}
use Rattle.jlr_machine.specs.declared.ask.Ask.TheVariants.{HandOver}
use Rattle.jlr_event.specs.declared.event.Event.TheVariants.{Ask as Asks, Mark}
use Rattle.jlr_event.specs.declared.event.Reply.TheVariants.{Answered, Marked}
use Rattle.jlr_steps.specs.Cores.{Kept}
use Rattle.jlr_steps.specs.Steps.{IsEmpty, Steps}

-- a heap whose resources are tokens
abbrev pub HeapOfTokens : Type 0
HeapOfTokens = Kept ℕ

-- ---- What a call returns beside 0 and the number of a refusal, 1 to 19

-- the handle is closed
abbrev pub status_closed : ℕ
status_closed = 32

-- an argument is out of its range
abbrev pub range : ℕ
range = 33

-- there was nothing to do, or nothing there
abbrev pub idle : ℕ
idle = 34

-- a limit is out of its range
abbrev pub limit_status : LimitFault → ℕ
limit_status Cells = 35
limit_status Sessions = 36
limit_status Resources = 37
limit_status SoftAge = 38
limit_status Trace = 33
limit_status Budget = 33

-- ---- CallsHeap

-- Of a handle that is closed nothing is told, and it stays closed. A heap that is open stays open, and the call is one
-- event of it

-- an event that carries no token
abbrev pub CallsHeap : Option HeapOfTokens → Event ℕ → Type 0 → (Answer → Type 0) → Option HeapOfTokens → Type 0
CallsHeap None event Silent Tells new = Silent × (new ≡ None)
CallsHeap (Some old) event Silent Tells new =
    (answer : Answer) × (h : HeapOfTokens) × (new ≡ Some h) × Steps old event (Answered answer None) h × Tells answer

-- an event that may carry a token, in or out
abbrev pub Carries : Option HeapOfTokens → Event ℕ → Type 0 → (Answer → Option ℕ → Type 0) → Option HeapOfTokens
    → Type 0
Carries None event Silent Tells new = Silent × (new ≡ None)
Carries (Some old) event Silent Tells new =
    (answer : Answer) × (token : Option ℕ) × (h : HeapOfTokens) × (new ≡ Some h)
    × Steps old event (Answered answer token) h
    × Tells answer token

-- a step of the handler
abbrev pub HandsOverOnce : Option HeapOfTokens → Type 0 → (Handed → Type 0) → Option HeapOfTokens → Type 0
HandsOverOnce None Silent Tells new = Silent × (new ≡ None)
HandsOverOnce (Some old) Silent Tells new =
    (what : Handed) × (h : HeapOfTokens) × (new ≡ Some h) × Steps old (Asks HandOver) (Answered (answer.Handed what)
    None) h
    × Tells what

-- a piece of marking
abbrev pub Marks : Option HeapOfTokens → ℕ → Type 0 → (Progress → Type 0) → Option HeapOfTokens → Type 0
Marks None budget Silent Tells new = Silent × (new ≡ None)
Marks (Some old) budget Silent Tells new =
    (progress : Progress) × (h : HeapOfTokens) × (new ≡ Some h) × Steps old (Mark budget) (Marked progress) h
    × Tells progress

-- ---- The life of a handle

-- the empty heap of these limits is behind the handle
abbrev pub OpensHeap : ℕ → ℕ → ℕ → ℕ → Option HeapOfTokens → Type 0
OpensHeap cells sessions resources soft_age new =
    (h : HeapOfTokens) × (new ≡ Some h) × IsEmpty cells sessions resources soft_age 1 h

-- the first limit that is out of its range is told
abbrev pub TellsLimit : ℕ → Option LimitFault → Type 0
TellsLimit status None = ⊥
TellsLimit status (Some fault) = status ≡ limit_status fault
