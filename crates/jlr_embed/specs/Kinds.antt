-- Which kind of answer each ask has, and what goes out with it.
use Rattle.std.specs.Prelude.{◌≡◌, Bool, true, false, ◌||◌, Option, Some, None}
use Rattle.jlr_types.specs.declared.Work.{Work}
use Rattle.jlr_types.specs.declared.Work.TheVariants.{Note, Resource as WorkOn}
use Rattle.jlr_machine.specs.declared.ask.Outcome.{Outcome}
use Rattle.jlr_machine.specs.declared.ask.Outcome.TheVariants.{Ok as Well, Failed}
use Rattle.jlr_machine.specs.declared.ask.CallOutcome.{CallOutcome}
use Rattle.jlr_machine.specs.declared.ask.CallOutcome.TheVariants as call
use Rattle.jlr_machine.specs.declared.ask.Handed.TheVariants.{Nothing}
use Rattle.jlr_machine.specs.declared.ask.Ask.{Ask}
use Rattle.jlr_machine.specs.declared.ask.Ask.TheVariants.{Join, Leave, New, Put, Get, SetInt, Int as AskInt, Dup, Drop}
use Rattle.jlr_machine.specs.declared.ask.Ask.TheVariants.{Same, MakeRef, Deref, Refers, Clear, Enqueue, Enqueued}
use Rattle.jlr_machine.specs.declared.ask.Ask.TheVariants.{MakeQueue, Poll, Remove, MakeCleaner, Register, Clean}
use Rattle.jlr_machine.specs.declared.ask.Ask.TheVariants.{Prepare, Opened, CheckOut, CheckIn, Close, Finish, Bind}
use Rattle.jlr_machine.specs.declared.ask.Ask.TheVariants.{Find, Unbind, Names as AskNames, Full, Stat as AskStat}
use Rattle.jlr_machine.specs.declared.ask.Ask.TheVariants.{Notes as AskNotes, Faults as AskFaults, HandOver, TakeUp}
use Rattle.jlr_machine.specs.declared.ask.Ask.TheVariants.{Begin, Collect, Abandon, Array}
use Rattle.jlr_machine.specs.declared.ask.Answer.{Answer}
use Rattle.jlr_machine.specs.declared.ask.Answer.TheVariants.{Done, Handle, Truth, Int, Data, Wrote, Faulted, Names}
use Rattle.jlr_machine.specs.declared.ask.Answer.TheVariants.{Notes, Faults, Stat, Job, AlreadyDone, Prepared, Out}
use Rattle.jlr_machine.specs.declared.ask.Answer.TheVariants.{Handed, Refused}
use Rattle.jlr_machine.specs.Refusals.{is_refusal}

-- ---- Kinds of answers

-- nothing but that the ask was carried out
abbrev pub tells_done : Answer → Bool
tells_done Done = true
tells_done _ = false

abbrev pub is_faulted : Answer → Bool
is_faulted (Faulted fault) = true
is_faulted _ = false

abbrev pub is_prepared : Answer → Bool
is_prepared (Prepared rid) = true
is_prepared _ = false

abbrev pub is_data : Answer → Bool
is_data (Data bytes) = true
is_data _ = false

abbrev pub is_wrote : Answer → Bool
is_wrote (Wrote n) = true
is_wrote _ = false

abbrev pub is_handle : Answer → Bool
is_handle (Handle h) = true
is_handle _ = false

abbrev pub is_truth : Answer → Bool
is_truth (Truth t) = true
is_truth _ = false

abbrev pub is_integer : Answer → Bool
is_integer (Int n) = true
is_integer _ = false

-- a job, or that there is none
abbrev pub is_job_answer : Answer → Bool
is_job_answer (Job action work) = true
is_job_answer AlreadyDone = true
is_job_answer (Handed Nothing) = true
is_job_answer _ = false

abbrev pub is_lent : Answer → Bool
is_lent (Out rid) = true
is_lent _ = false

abbrev pub is_handed : Answer → Bool
is_handed (Handed what) = true
is_handed _ = false

abbrev pub is_names : Answer → Bool
is_names (Names names) = true
is_names _ = false

abbrev pub is_notes : Answer → Bool
is_notes (Notes notes) = true
is_notes _ = false

abbrev pub is_faults : Answer → Bool
is_faults (Faults faults) = true
is_faults _ = false

abbrev pub is_stat : Answer → Bool
is_stat (Stat stat) = true
is_stat _ = false

-- ---- The kind of answer of each ask that is not refused

abbrev pub kind_of_open : Outcome → Answer → Bool
kind_of_open Well = is_handle
kind_of_open (Failed fault) = is_faulted

abbrev pub kind_of_call : CallOutcome → Answer → Bool
kind_of_call (call.Data bytes) = is_data
kind_of_call (call.Wrote n) = is_wrote
kind_of_call (call.Failed fault) = is_faulted

abbrev pub kind_of_finish : Outcome → Answer → Bool
kind_of_finish Well = tells_done
kind_of_finish (Failed fault) = is_faulted

abbrev pub answer_kind : Ask → Answer → Bool
answer_kind (Join k) = tells_done
answer_kind (Leave k) = tells_done
answer_kind (New k layout) = is_handle
answer_kind (Put k h f v) = tells_done
answer_kind (Get k h f) = is_handle
answer_kind (SetInt k h f n) = tells_done
answer_kind (AskInt k h f) = is_integer
answer_kind (Dup k h) = is_handle
answer_kind (Drop k h) = tells_done
answer_kind (Same k a b) = is_truth
answer_kind (MakeRef k kind h q) = is_handle
answer_kind (Deref k r) = is_handle
answer_kind (Refers k r h) = is_truth
answer_kind (Clear k r) = tells_done
answer_kind (Enqueue k r) = is_truth
answer_kind (Enqueued k r) = is_truth
answer_kind (MakeQueue k) = is_handle
answer_kind (Poll k q) = is_handle
answer_kind (Remove k q) = is_handle
answer_kind (MakeCleaner k) = is_handle
answer_kind (Register k c h note) = is_handle
answer_kind (Clean k c) = is_job_answer
answer_kind (Prepare k) = is_prepared
answer_kind (Opened k outcome) = kind_of_open outcome
answer_kind (CheckOut k h) = is_lent
answer_kind (CheckIn k outcome) = kind_of_call outcome
answer_kind (Close k h) = is_job_answer
answer_kind (Finish by action outcome) = kind_of_finish outcome
answer_kind (Bind k name h) = tells_done
answer_kind (Find k name) = is_handle
answer_kind (Unbind k name) = tells_done
answer_kind (AskNames k) = is_names
answer_kind (Full k mode) = tells_done
answer_kind (AskStat k) = is_stat
answer_kind (AskNotes k) = is_notes
answer_kind (AskFaults k) = is_faults
answer_kind HandOver = is_handed
answer_kind TakeUp = is_job_answer
answer_kind Begin = is_truth
answer_kind Collect = is_truth
answer_kind Abandon = is_truth
answer_kind (Array k n) = is_handle

abbrev pub kind_asked : Option Ask → Answer → Bool
kind_asked (Some ask) = answer_kind ask
kind_asked None = is_refusal

-- a refusal, or an answer of that kind
abbrev pub is_told : (Answer → Bool) → Answer → Bool
is_told kind answer = is_refusal answer || kind answer

-- ---- What goes out

-- with a job on a resource and with a call a token goes out, and with a note none
abbrev pub job_suits : {R : Type 0} → Work → Option R → Bool
job_suits (Note n) None = true
job_suits (Note n) (Some token) = false
job_suits (WorkOn rid) None = false
job_suits (WorkOn rid) (Some token) = true

abbrev pub call_suits : {R : Type 0} → Option R → Bool
call_suits None = false
call_suits (Some token) = true

abbrev pub suits : {R : Type 0} → Answer → Option R → Bool
suits (Job action work) token = job_suits work token
suits (Out rid) token = call_suits token
suits answer token = true

-- with a refusal what came in goes back, and with an answer that is neither a job nor a call nothing goes out
abbrev pub GoesBack : {R : Type 0} → Option R → Answer → Option R → Type 0
GoesBack came (Refused by) out = out ≡ came
GoesBack came (Job action work) out = Unit {0}
GoesBack came (Out rid) out = Unit {0}
GoesBack came answer out = out ≡ None
