-- How answers are spelled and read, and which have a spelling.
use Rattle.std.specs.Prelude.{ℕ, ◌<◌, ◌^◌, List, [], ◌∷◌, ◌++◌, length, Ok}
use Rattle.std.specs.Int.{w32, w64}
use Rattle.jlr_types.specs.Numbers.{number_of}
use Rattle.jlr_types.specs.declared.Refusal.{Refusal}
use Rattle.jlr_types.specs.declared.Refusal.TheVariants.{NoMemory, HeapFull, NoHandle, HandlesFull, WrongKind, NoField}
use Rattle.jlr_types.specs.declared.Refusal.TheVariants.{WrongType, Null, NoName, NamesFull, Busy, Closed, NoSession}
use Rattle.jlr_types.specs.declared.Refusal.TheVariants.{Exhausted, Malformed, TooLong, NotOut, WouldWait}
use Rattle.jlr_types.specs.declared.Refusal.TheVariants.{ResourcesFull}
use Rattle.jlr_machine.specs.declared.ask.Handed.{Handed as HandedOf}
use Rattle.jlr_machine.specs.declared.ask.Handed.TheVariants.{Queued, Lined, Skipped, Nothing}
use Rattle.jlr_machine.specs.declared.ask.Stat.{Stat as StatOf}
use Rattle.jlr_machine.specs.declared.ask.Answer.{Answer}
use Rattle.jlr_machine.specs.declared.ask.Answer.TheVariants.{Done, Handle, Truth, Int, Data, Wrote, Faulted, Names}
use Rattle.jlr_machine.specs.declared.ask.Answer.TheVariants.{Notes, Faults, Stat, Job, AlreadyDone, Prepared, Out}
use Rattle.jlr_machine.specs.declared.ask.Answer.TheVariants.{Handed, Refused}
use Rattle.jlr_trace_fields.specs.Spelling.{spelled_flag, spelled_32, spelled_64, spelled_signed, spelled_text}
use Rattle.jlr_trace_fields.specs.Spelling.{IsSigned}
use Rattle.jlr_trace_fields.specs.Spelling.{IsText, IsWithin}
use Rattle.jlr_trace_fields.specs.Reading.{Reader, ◌>>=◌, one_field, two_fields, five_fields, byte_at, byte_within_at}
use Rattle.jlr_trace_fields.specs.Reading.{number_at, signed_at, flag_at, picked_at, bytes_at, text_at}
use Rattle.jlr_machine.specs.Names.{is_name_byte}
use Rattle.jlr_trace_fields.specs.Items.{list_at, spelled_list, IsListed}
use Rattle.jlr_trace_fields.specs.Tables.{faults, fault_number}
use Rattle.jlr_trace_fields.specs.Objects.{spelled_work, WorkFits, work_read}
use Rattle.jlr_trace_fields.specs.Records.{NameFits, spelled_failure, FailureFits, failure_read}
use Rattle.jlr_trace_entries.specs.declared.answers.tag.Tag.{Tag}
use Rattle.jlr_trace_entries.specs.declared.answers.tag.Tag.TheVariants.{Done as TagDone, Handle as TagHandle}
use Rattle.jlr_trace_entries.specs.declared.answers.tag.Tag.TheVariants.{Truth as TagTruth}
use Rattle.jlr_trace_entries.specs.declared.answers.tag.Tag.TheVariants.{Int as TagInt, Data as TagData}
use Rattle.jlr_trace_entries.specs.declared.answers.tag.Tag.TheVariants.{Wrote as TagWrote}
use Rattle.jlr_trace_entries.specs.declared.answers.tag.Tag.TheVariants.{Faulted as TagFaulted, Names as TagNames}
use Rattle.jlr_trace_entries.specs.declared.answers.tag.Tag.TheVariants.{Notes as TagNotes}
use Rattle.jlr_trace_entries.specs.declared.answers.tag.Tag.TheVariants.{Faults as TagFaults, Stat as TagStat}
use Rattle.jlr_trace_entries.specs.declared.answers.tag.Tag.TheVariants.{Job as TagJob}
use Rattle.jlr_trace_entries.specs.declared.answers.tag.Tag.TheVariants.{AlreadyDone as TagAlreadyDone}
use Rattle.jlr_trace_entries.specs.declared.answers.tag.Tag.TheVariants.{Prepared as TagPrepared}
use Rattle.jlr_trace_entries.specs.declared.answers.tag.Tag.TheVariants.{Out as TagOut, Handed as TagHanded}
use Rattle.jlr_trace_entries.specs.declared.answers.tag.Tag.TheVariants.{Refused as TagRefused}

-- ---- Tables

-- counted from 1, each at its number
abbrev pub refusals : List Refusal
refusals = NoMemory ∷ HeapFull ∷ NoHandle ∷ HandlesFull ∷ WrongKind ∷ NoField ∷ WrongType ∷ Null ∷ NoName ∷ NamesFull
    ∷ Busy ∷ Closed ∷ NoSession ∷ Exhausted ∷ Malformed ∷ TooLong ∷ NotOut ∷ WouldWait ∷ ResourcesFull ∷ []

abbrev pub handings : List HandedOf
handings = Queued ∷ Lined ∷ Skipped ∷ Nothing ∷ []

abbrev pub handing_number : HandedOf → ℕ
handing_number Queued = 0
handing_number Lined = 1
handing_number Skipped = 2
handing_number Nothing = 3

-- ---- Counts

abbrev pub spelled_stat : StatOf → List ℕ
spelled_stat s = spelled_64 s.objects ++ spelled_64 s.resources ++ spelled_64 s.taken ++ spelled_64 s.ok
    ++ spelled_64 s.failed

pub record StatFits (s : StatOf) : Type 0 where
  pub objects : s.objects < 2 ^ 64
  pub resources : s.resources < 2 ^ 64
  pub taken : s.taken < 2 ^ 64
  pub ended_well : s.ok < 2 ^ 64
  pub failed : s.failed < 2 ^ 64

unfoldable pub stat_read : Reader StatOf
stat_read = five_fields (number_at w64) (number_at w64) (number_at w64) (number_at w64) (number_at w64)
    (λ objects resources taken good failed.
    record { objects = objects; resources = resources; taken = taken; ok = good; failed = failed })

-- ---- Answers: a number, and the fields in order

abbrev pub spelled_answer : Answer → List ℕ
spelled_answer Done = 0 ∷ []
spelled_answer (Handle x) = 1 ∷ x ∷ []
spelled_answer (Truth x) = 2 ∷ spelled_flag x
spelled_answer (Int x) = 3 ∷ spelled_signed x
spelled_answer (Data x) = 4 ∷ spelled_text x
spelled_answer (Wrote x) = 5 ∷ x ∷ []
spelled_answer (Faulted x) = 6 ∷ fault_number x ∷ []
spelled_answer (Names x) = 7 ∷ spelled_list spelled_text x
spelled_answer (Notes x) = 8 ∷ spelled_list spelled_32 x
spelled_answer (Faults x) = 9 ∷ spelled_list spelled_failure x
spelled_answer (Stat x) = 10 ∷ spelled_stat x
spelled_answer (Job action work) = 11 ∷ spelled_64 action ++ spelled_work work
spelled_answer AlreadyDone = 12 ∷ []
spelled_answer (Prepared x) = 13 ∷ spelled_32 x
spelled_answer (Out x) = 14 ∷ spelled_32 x
spelled_answer (Handed x) = 15 ∷ handing_number x ∷ []
spelled_answer (Refused x) = 16 ∷ number_of x ∷ []

abbrev pub AnswerFits : Answer → Type 0
AnswerFits Done = Unit {0}
AnswerFits (Handle x) = x < 256
AnswerFits (Truth x) = Unit {0}
AnswerFits (Int x) = IsSigned x
AnswerFits (Data x) = IsText 0 200 x
AnswerFits (Wrote x) = IsWithin 0 200 x
AnswerFits (Faulted x) = Unit {0}
AnswerFits (Names x) = IsListed NameFits x
AnswerFits (Notes x) = IsListed (λ n. n < 2 ^ 32) x
AnswerFits (Faults x) = IsListed FailureFits x
AnswerFits (Stat x) = StatFits x
AnswerFits (Job action work) = (action < 2 ^ 64) × WorkFits work
AnswerFits AlreadyDone = Unit {0}
AnswerFits (Prepared x) = x < 2 ^ 32
AnswerFits (Out x) = x < 2 ^ 32
AnswerFits (Handed x) = Unit {0}
AnswerFits (Refused x) = Unit {0}

-- its lists are short enough for their counts
abbrev pub AnswerCounts : Answer → Type 0
AnswerCounts (Names x) = length x < 2 ^ 32
AnswerCounts (Notes x) = length x < 2 ^ 32
AnswerCounts (Faults x) = length x < 2 ^ 32
AnswerCounts _ = Unit {0}

abbrev pub answer_tags : List Tag
answer_tags = TagDone ∷ TagHandle ∷ TagTruth ∷ TagInt ∷ TagData ∷ TagWrote ∷ TagFaulted ∷ TagNames ∷ TagNotes
    ∷ TagFaults
    ∷ TagStat ∷ TagJob ∷ TagAlreadyDone ∷ TagPrepared ∷ TagOut ∷ TagHanded ∷ TagRefused ∷ []

-- what stands behind the number of an answer
abbrev pub answer_body : Tag → Reader Answer
answer_body TagDone bytes = Ok (Done, bytes)
answer_body TagHandle bytes = one_field byte_at Handle bytes
answer_body TagTruth bytes = one_field flag_at Truth bytes
answer_body TagInt bytes = one_field signed_at Int bytes
answer_body TagData bytes = one_field (bytes_at 0 200) Data bytes
answer_body TagWrote bytes = one_field (byte_within_at 0 200) Wrote bytes
answer_body TagFaulted bytes = one_field (picked_at 1 faults) Faulted bytes
answer_body TagNames bytes = one_field (list_at 2 (text_at 1 32 is_name_byte)) Names bytes
answer_body TagNotes bytes = one_field (list_at 4 (number_at w32)) Notes bytes
answer_body TagFaults bytes = one_field (list_at 9 failure_read) Faults bytes
answer_body TagStat bytes = one_field stat_read Stat bytes
answer_body TagJob bytes = two_fields (number_at w64) work_read Job bytes
answer_body TagAlreadyDone bytes = Ok (AlreadyDone, bytes)
answer_body TagPrepared bytes = one_field (number_at w32) Prepared bytes
answer_body TagOut bytes = one_field (number_at w32) Out bytes
answer_body TagHanded bytes = one_field (picked_at 0 handings) Handed bytes
answer_body TagRefused bytes = one_field (picked_at 1 refusals) Refused bytes

unfoldable pub answer_read : Reader Answer
answer_read bytes = picked_at 0 answer_tags bytes >>= λ tag. answer_body tag.0 tag.1
