-- Calls on guarded files and sockets: the two asks of their command, and between them one call of the system.
use Rattle.std.specs.Prelude.{◌≡◌, ℕ, Bool, true, false, List, None, Result, Ok, Err, ⊤}
use Rattle.jlr_types.specs.declared.Fault.{Fault}
use Rattle.jlr_machine.specs.declared.ask.Ask.{Ask}
use Rattle.jlr_machine.specs.declared.ask.Answer.{Answer}
use Rattle.jlr_machine.specs.declared.ask.Answer.TheVariants as answer
use Rattle.jlr_machine.specs.declared.ask.CallOutcome.{CallOutcome}
use Rattle.jlr_machine.specs.declared.ask.CallOutcome.TheVariants.{Data, Failed, Wrote}
use Rattle.jlr_device.specs.Handling.{Handling}
use Rattle.jlr_device.specs.declared.device.Mode.{Mode}
use Rattle.jlr_event.specs.declared.event.Event.{Event}
use Rattle.jlr_machine.specs.declared.ask.Ask.TheVariants.{CheckOut, Close, Prepare}
use Rattle.jlr_event.specs.declared.event.Reply.{Reply}
use Rattle.jlr_event.specs.declared.event.Reply.TheVariants.{Answered}
use Rattle.jlr_session.specs.Calls.{Opening}
use Rattle.jlr_session.specs.Asks.{Asking, AsksTwice, TellsConnected, TellsFinished, TellsOpened, TellsRead}
use Rattle.jlr_event.specs.Events.{said_by}
use Rattle.jlr_session.specs.Asks.{TellsWritten, job_by, out_by, prepared_by}
use Rattle.jlr_heap.specs.declared.failed.Failed.{Failed as Why}
use Rattle.jlr_heap.specs.declared.failed.Failed.TheVariants as why
use Rattle.jlr_heap.specs.declared.heap.Heap.{Heap}
use Rattle.jlr_heap.specs.Entries.{FollowsCall}

-- ---- The answer that a result tells

abbrev pub failure : Why → Answer
failure (why.Refused by) = answer.Refused by
failure (why.Faulted fault) = answer.Faulted fault

abbrev pub guard_told : Result ℕ Why → Answer
guard_told (Ok guard) = answer.Handle guard
guard_told (Err cause) = failure cause

abbrev pub data_told : Result (List ℕ) Why → Answer
data_told (Ok bytes) = answer.Data bytes
data_told (Err cause) = failure cause

abbrev pub count_told : Result ℕ Why → Answer
count_told (Ok count) = answer.Wrote count
count_told (Err cause) = failure cause

abbrev pub finish_told : Result (Unit {0}) Why → Answer
finish_told (Ok done) = answer.Done
finish_told (Err cause) = failure cause

-- whether it was finished now; it was before, or is being finished, where not
abbrev pub TellsClosed : Result Bool Why → Answer → Type 0
TellsClosed (Ok true) answer.Done = Unit {0}
TellsClosed (Ok false) answer.AlreadyDone = Unit {0}
TellsClosed (Ok false) (answer.Handed what) = Unit {0}
TellsClosed (Err cause) said = said ≡ failure cause
TellsClosed _ _ = ⊥

-- ---- What the heap is told of a call

abbrev pub data_outcome : Result (List ℕ) Fault → CallOutcome
data_outcome (Ok bytes) = Data bytes
data_outcome (Err fault) = Failed fault

abbrev pub count_outcome : Result ℕ Fault → CallOutcome
count_outcome (Ok count) = Wrote count
count_outcome (Err fault) = Failed fault

-- ---- The calls

module _ {K R : Type 0} (asking : Asking K R) where
  -- an ask whose answer the result tells
  abbrev pub IsSaid : {T : Type 0} → (T → Answer) → K → Event R → T → K → Type 0
  IsSaid said_of old event result new = (last : Reply R) × asking.asks old event last new
      × (said_by last ≡ said_of result)

  -- the same of one with which nothing goes out
  abbrev pub IsEntered : {T : Type 0} → (T → Answer) → K → Event R → T → K → Type 0
  IsEntered said_of old event result new = asking.asks old event (Answered (said_of result) None) new

  -- An ask. Where its reply leads on, what it gives comes to a second ask. The result tells the last answer
  abbrev pub IsAskedTwice : {X T : Type 0} → Ask → (Reply R → Result X Answer) → (X → Event R → Type 0) → Type 0
      → (T → Answer → Type 0) → K → T → K → Type 0
  IsAskedTwice first leads comes_to rests tells old result new = (said : Answer)
      × AsksTwice asking first leads comes_to rests old said new × tells result said

  -- that, and what follows a call
  abbrev pub IsSettledCommand : {X T : Type 0} → Ask → (Reply R → Result X Answer) → (X → Event R → Type 0) → Type 0
      → (T → Answer → Type 0) → Heap K → T → Heap K → Type 0
  IsSettledCommand first leads comes_to rests tells old result new =
      (between : K) × IsAskedTwice first leads comes_to rests tells old.keeper result between
      × FollowsCall asking old between new

  abbrev pub IsOpened : {D : Type 0} → Opening D R → Mode → List ℕ → D → D → Heap K → Result ℕ Why → Heap K → Type 0
  IsOpened device mode path d d' = IsSettledCommand (Prepare 0) prepared_by (λ _. TellsOpened device 0 mode path d d')
      (d' ≡ d)
      (λ result said. said ≡ guard_told result)

  abbrev pub IsConnected : {D : Type 0} → Opening D R → List ℕ → D → D → Heap K → Result ℕ Why → Heap K → Type 0
  IsConnected device path d d' = IsSettledCommand (Prepare 0) prepared_by (λ _. TellsConnected device 0 path d d')
      (d' ≡ d)
      (λ result said. said ≡ guard_told result)

  abbrev pub IsRead : Handling R → ℕ → ℕ → Heap K → Result (List ℕ) Why → Heap K → Type 0
  IsRead resource guard count =
      IsSettledCommand (CheckOut 0 guard) out_by (TellsRead resource 0 count) ⊤ (λ result said. said ≡ data_told result)

  abbrev pub WritesFile : Handling R → ℕ → List ℕ → Heap K → Result ℕ Why → Heap K → Type 0
  WritesFile resource guard bytes =
      IsSettledCommand (CheckOut 0 guard) out_by (TellsWritten resource 0 bytes) ⊤ (λ result said. said
      ≡ count_told result)

  abbrev pub IsClosed : Handling R → ℕ → Heap K → Result Bool Why → Heap K → Type 0
  IsClosed resource guard = IsSettledCommand (Close 0 guard) job_by (TellsFinished resource 0) ⊤ TellsClosed
