-- How an answer is told: what a call returns, and what stands behind its out pointer, which was `old` and is `new`.
use Rattle.std.specs.Prelude.{◌≡◌, ◌⊎◌, ◌-◌, ◌==◌, ◌++◌, ℕ, ℤ, Bool, true, false, cond, List, Option, Some, None}
use Rattle.std.specs.Prelude.{length, replicate, slice_get}
use Rattle.jlr_types.specs.Numbers.{number_of}
use Rattle.jlr_types.specs.declared.Fault.{Fault}
use Rattle.jlr_types.specs.declared.Fault.TheVariants.{NotFound, Denied, Other}
use Rattle.jlr_types.specs.declared.Progress.{Progress}
use Rattle.jlr_types.specs.declared.Progress.TheVariants.{More, Done as Marked, Idle}
use Rattle.jlr_types.specs.declared.Work.{Work}
use Rattle.jlr_types.specs.declared.Work.TheVariants.{Note, Resource}
use Rattle.jlr_machine.specs.declared.machine.Failure.{Failure}
use Rattle.jlr_machine.specs.declared.ask.Outcome.{Outcome}
use Rattle.jlr_machine.specs.declared.ask.Outcome.TheVariants as outcome
use Rattle.jlr_machine.specs.declared.ask.Handed.{Handed as HandedOver}
use Rattle.jlr_machine.specs.declared.ask.Handed.TheVariants.{Queued, Lined, Skipped, Nothing}
use Rattle.jlr_machine.specs.declared.ask.Answer.{Answer}
use Rattle.jlr_machine.specs.declared.ask.Answer.TheVariants.{AlreadyDone, Data, Handle, Handed, Int, Job, Names, Notes}
use Rattle.jlr_machine.specs.declared.ask.Answer.TheVariants.{Faults, Out, Refused, Stat, Truth}
use Rattle.jlr_embed.specs.Kinds.{is_faulted, is_prepared, is_wrote, tells_done}
use Rattle.jlr_embed.specs.declared.handle.out.Counts.{Counts}
use Rattle.jlr_embed.specs.declared.handle.out.Failed.{Failed}
use Rattle.jlr_embed.specs.declared.handle.out.Taken.{Taken}
use Rattle.jlr_embed.specs.Calls.{idle}

-- bytes and lists lie in memory of their own
abbrev pub holds_memory : Answer → Bool
holds_memory (Data bytes) = true
holds_memory (Names names) = true
holds_memory (Notes notes) = true
holds_memory (Faults faults) = true
holds_memory _ = false

-- of these kinds is the answer of a call that tells nothing but how it ended; none of them holds memory
abbrev pub IsBare : (Answer → Bool) → Type 0
IsBare kind = (kind ≡ tells_done) ⊎ (kind ≡ is_prepared) ⊎ (kind ≡ is_faulted) ⊎ (kind ≡ is_wrote)

-- nothing but how it ended
abbrev pub TellsEnd : ℕ → Answer → Type 0
TellsEnd status (Refused by) = status ≡ number_of by
TellsEnd status _ = status ≡ 0

-- a handle, 0 for null
abbrev pub TellsHandle : ℕ → ℕ → ℕ → Answer → Type 0
TellsHandle status old new (Handle h) = (status ≡ 0) × (new ≡ h)
TellsHandle status old new (Refused by) = (status ≡ number_of by) × (new ≡ old)
TellsHandle status old new _ = ⊥

abbrev pub TellsTruth : ℕ → Bool → Bool → Answer → Type 0
TellsTruth status old new (Truth t) = (status ≡ 0) × (new ≡ t)
TellsTruth status old new (Refused by) = (status ≡ number_of by) × (new ≡ old)
TellsTruth status old new _ = ⊥

abbrev pub TellsInteger : ℕ → ℤ → ℤ → Answer → Type 0
TellsInteger status old new (Int n) = (status ≡ 0) × (new ≡ n)
TellsInteger status old new (Refused by) = (status ≡ number_of by) × (new ≡ old)
TellsInteger status old new _ = ⊥

abbrev pub TellsCounts : ℕ → Counts → Counts → Answer → Type 0
TellsCounts status old new (Stat s) =
    (status ≡ 0)
    × (new ≡ record { objects = s.objects; resources = s.resources; taken = s.taken; ok = s.ok; failed = s.failed })
TellsCounts status old new (Refused by) = (status ≡ number_of by) × (new ≡ old)
TellsCounts status old new _ = ⊥

-- ---- The handler, and pieces of marking

abbrev pub TellsHanded : ℕ → HandedOver → Type 0
TellsHanded status Nothing = status ≡ idle
TellsHanded status Queued = status ≡ 0
TellsHanded status Lined = status ≡ 0
TellsHanded status Skipped = status ≡ 0

-- whether marking is done
abbrev pub TellsProgress : ℕ → Bool → Bool → Progress → Type 0
TellsProgress status old new More = (status ≡ 0) × (new ≡ false)
TellsProgress status old new Marked = (status ≡ 0) × (new ≡ true)
TellsProgress status old new Idle = (status ≡ idle) × (new ≡ old)

-- ---- Jobs and tokens

-- the work of a job: its note, or the token that goes out with it
abbrev pub TellsWork : ℕ → Taken → ℕ → Work → Option ℕ → Type 0
TellsWork status new action work (Some token) =
    (status ≡ 0) × (new ≡ record { action = action; value = token; is_token = true })
TellsWork status new action (Note n) None =
    (status ≡ 0) × (new ≡ record { action = action; value = n; is_token = false })
TellsWork status new action (Resource rid) None = ⊥

abbrev pub TellsJob : ℕ → Taken → Taken → Answer → Option ℕ → Type 0
TellsJob status old new (Job action work) token = TellsWork status new action work token
TellsJob status old new AlreadyDone token = (status ≡ idle) × (new ≡ old)
TellsJob status old new (Handed what) token = (status ≡ idle) × (new ≡ old)
TellsJob status old new (Refused by) token = (status ≡ number_of by) × (new ≡ old)
TellsJob status old new _ token = ⊥

abbrev pub TellsHeld : ℕ → ℕ → Option ℕ → Type 0
TellsHeld status new None = ⊥
TellsHeld status new (Some token) = (status ≡ 0) × (new ≡ token)

-- a token that goes out for a call
abbrev pub TellsToken : ℕ → ℕ → ℕ → Answer → Option ℕ → Type 0
TellsToken status old new (Out rid) token = TellsHeld status new token
TellsToken status old new (Refused by) token = (status ≡ number_of by) × (new ≡ old)
TellsToken status old new _ token = ⊥

-- ---- Lists, by index

-- the bytes of a name, and zeros behind them
abbrev pub padded : List ℕ → List ℕ
padded name = name ++ replicate (33 - length name) 0

abbrev pub TellsNameAt : ℕ → List ℕ → List ℕ → Option (List ℕ) → Type 0
TellsNameAt status old new None = (status ≡ idle) × (new ≡ old)
TellsNameAt status old new (Some name) = (status ≡ 0) × (new ≡ padded name)

abbrev pub TellsName : ℕ → List ℕ → List ℕ → ℕ → Answer → Type 0
TellsName status old new index (Names names) = TellsNameAt status old new (slice_get names index)
TellsName status old new index (Refused by) = (status ≡ number_of by) × (new ≡ old)
TellsName status old new index _ = ⊥

abbrev pub TellsNoteAt : ℕ → ℕ → ℕ → Option ℕ → Type 0
TellsNoteAt status old new None = (status ≡ idle) × (new ≡ old)
TellsNoteAt status old new (Some note) = (status ≡ 0) × (new ≡ note)

abbrev pub TellsNote : ℕ → ℕ → ℕ → ℕ → Answer → Type 0
TellsNote status old new index (Notes notes) = TellsNoteAt status old new (slice_get notes index)
TellsNote status old new index (Refused by) = (status ≡ number_of by) × (new ≡ old)
TellsNote status old new index _ = ⊥

abbrev pub fault_status : Fault → ℕ
fault_status NotFound = 1
fault_status Denied = 2
fault_status Other = 3

abbrev pub TellsFaultAt : ℕ → Failed → Failed → Option Failure → Type 0
TellsFaultAt status old new None = (status ≡ idle) × (new ≡ old)
TellsFaultAt status old new (Some f) = (status ≡ 0) × (new ≡ record { action = f.action; fault = fault_status f.fault })

abbrev pub TellsFault : ℕ → Failed → Failed → ℕ → Answer → Type 0
TellsFault status old new index (Faults faults) = TellsFaultAt status old new (slice_get faults index)
TellsFault status old new index (Refused by) = (status ≡ number_of by) × (new ≡ old)
TellsFault status old new index _ = ⊥

-- ---- What the program says of an end: 0 that it went well, else by which fault not

abbrev pub fault_numbered : ℕ → Option Fault
fault_numbered n = cond (n == 1) (Some NotFound) (cond (n == 2) (Some Denied) (cond (n == 3) (Some Other) None))

abbrev pub failed_by : Option Fault → Option Outcome
failed_by None = None
failed_by (Some fault) = Some (outcome.Failed fault)

abbrev pub outcome_numbered : ℕ → Option Outcome
outcome_numbered n = cond (n == 0) (Some outcome.Ok) (failed_by (fault_numbered n))
