-- A call is an entry, whose answer is what the call gives; and then the heap is settled, unless the program settles it
-- itself.
use Rattle.std.specs.Prelude.{◌≡◌, ℕ, ℤ, Bool, true, List, Option, Some, None, MatchBool, Result, Ok, Err}
use Rattle.jlr_types.specs.declared.Refusal.{Refusal}
use Rattle.jlr_machine.specs.declared.ask.Stat.{Stat as Counts}
use Rattle.jlr_machine.specs.declared.machine.Failure.{Failure}
use Rattle.jlr_machine.specs.declared.ask.Ask.{Ask}
use Rattle.jlr_machine.specs.declared.ask.Ask.TheVariants.{Join}
use Rattle.jlr_machine.specs.declared.ask.Answer.{Answer}
use Rattle.jlr_machine.specs.declared.ask.Answer.TheVariants as answer
use Rattle.jlr_event.specs.declared.event.Event.{Event}
use Rattle.jlr_event.specs.declared.event.Event.TheVariants.{Ask as Asks}
use Rattle.jlr_event.specs.declared.event.Reply.{Reply}
use Rattle.jlr_event.specs.declared.event.Reply.TheVariants.{Answered}
use Rattle.jlr_steps.specs.Cores.{Kept}
use Rattle.jlr_steps.specs.Steps.{IsEmpty, Steps}
use Rattle.jlr_session.specs.Asks.{Asking}
use Rattle.jlr_embed.specs.Settling.{SettlesAll}
use Rattle.jlr_heap.specs.declared.heap.Heap.{Heap}

-- with no history an ask and its reply are a step of the core
abbrev pub unrecorded : {R : Type 0} → Asking (Kept R) R
unrecorded = record { mutator = λ _. 0; asks = Steps; settling = SettlesAll }

module _ {K R : Type 0} (asking : Asking K R) where
  -- what follows a call
  abbrev pub FollowsCall : Heap K → K → Heap K → Type 0
  FollowsCall old between new = MatchBool old.settles (asking.settling between new.keeper) (new.keeper ≡ between)
      × (new.settles ≡ old.settles)

  -- an event with its reply leads from a heap to a heap
  abbrev pub IsReplied : Heap K → Event R → Reply R → Heap K → Type 0
  IsReplied old event reply new = (between : K) × asking.asks old.keeper event reply between × FollowsCall old between
      new

  -- the same of an ask with which nothing comes in or goes out
  abbrev pub IsEntry : Heap K → Ask → Answer → Heap K → Type 0
  IsEntry old ask answer new = IsReplied old (Asks ask) (Answered answer None) new

-- the handle that a call was given for null
abbrev pub or_null : Option ℕ → ℕ
or_null None = 0
or_null (Some h) = h

-- ---- The answer that a result tells

abbrev pub handle : Result ℕ Refusal → Answer
handle (Ok h) = answer.Handle h
handle (Err by) = answer.Refused by

abbrev pub handle_or_null : Result (Option ℕ) Refusal → Answer
handle_or_null (Ok h) = answer.Handle (or_null h)
handle_or_null (Err by) = answer.Refused by

abbrev pub truth : Result Bool Refusal → Answer
truth (Ok t) = answer.Truth t
truth (Err by) = answer.Refused by

abbrev pub integer : Result ℤ Refusal → Answer
integer (Ok n) = answer.Int n
integer (Err by) = answer.Refused by

abbrev pub counts : Result Counts Refusal → Answer
counts (Ok stat) = answer.Stat stat
counts (Err by) = answer.Refused by

abbrev pub names : Result (List (List ℕ)) Refusal → Answer
names (Ok told) = answer.Names told
names (Err by) = answer.Refused by

abbrev pub notes : Result (List ℕ) Refusal → Answer
notes (Ok told) = answer.Notes told
notes (Err by) = answer.Refused by

abbrev pub told_faults : Result (List Failure) Refusal → Answer
told_faults (Ok told) = answer.Faults told
told_faults (Err by) = answer.Refused by

-- ---- A call that gives nothing

abbrev pub GivesNothing : Result (Unit {0}) Refusal → Answer → Type 0
GivesNothing (Err by) told = told ≡ answer.Refused by
GivesNothing (Ok done) (answer.Refused by) = ⊥
GivesNothing (Ok done) told = Unit {0}

abbrev pub IsDone : {K R : Type 0} → Asking K R → Heap K → Ask → Result (Unit {0}) Refusal → Heap K → Type 0
IsDone asking old ask result new = (answer : Answer) × IsEntry asking old ask answer new × GivesNothing result answer

-- ---- The beginning: mutator 0 joins

-- a heap for which this answers, in which the mutator has joined
abbrev pub HasJoined : {K R : Type 0} → Asking K R → K → Heap K → Type 0
HasJoined asking keeper heap = IsDone asking (record { keeper = keeper; settles = true }) (Join 0) (Ok tt) heap

-- the join was refused, and left what answers so
abbrev pub CannotJoin : {K R : Type 0} → Asking K R → K → Refusal → K → Type 0
CannotJoin asking keeper by left =
    IsDone asking (record { keeper = keeper; settles = true }) (Join 0) (Err by)
    (record { keeper = left; settles = true })

-- it has joined the empty heap of the limits
abbrev pub IsJoined : {R : Type 0} → ℕ → ℕ → ℕ → ℕ → Heap (Kept R) → Type 0
IsJoined {R} cells sessions resources soft_age heap =
    (empty : Kept R) × IsEmpty cells sessions resources soft_age 1 empty × HasJoined unrecorded empty heap
