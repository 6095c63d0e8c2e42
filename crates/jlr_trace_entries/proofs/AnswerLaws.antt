-- Answers: what is read is what was written, and what was written is read again.
use Rattle.std.proofs.Common.{◌≡◌, ℕ, List, [], ◌∷◌, Ok, refl, ◌∙◌}
use Rattle.jlr_types.specs.Numbers.{number_of}
use Rattle.jlr_types.specs.declared.Refusal.{Refusal}
use Rattle.jlr_types.specs.declared.Refusal.TheVariants.{NoMemory, HeapFull, NoHandle, HandlesFull, WrongKind, NoField, WrongType, Null}
use Rattle.jlr_types.specs.declared.Refusal.TheVariants.{NoName, NamesFull, Busy, Closed, NoSession, Exhausted, Malformed, TooLong, NotOut}
use Rattle.jlr_types.specs.declared.Refusal.TheVariants.{WouldWait, ResourcesFull}
use Rattle.jlr_machine.specs.declared.ask.Handed.{Handed as HandedOf}
use Rattle.jlr_machine.specs.declared.ask.Handed.TheVariants.{Queued, Lined, Skipped, Nothing}
use Rattle.jlr_machine.specs.declared.ask.Stat.{Stat as StatOf}
use Rattle.jlr_machine.specs.declared.ask.Answer.TheVariants.{Done, Handle, Truth, Int, Data, Wrote, Faulted, Names, Notes, Faults, Stat}
use Rattle.jlr_machine.specs.declared.ask.Answer.TheVariants.{Job, AlreadyDone, Prepared, Out, Handed, Refused}
use Rattle.jlr_trace_fields.specs.Reading.{picked_at}
use Rattle.jlr_trace_fields.specs.Spelling.{spelled_8}
use Rattle.jlr_trace_fields.specs.Laws.{TakesBehind, TakesSpelled, ReadsAgain, IsField}
use Rattle.jlr_trace_fields.proofs.Steps.{bind_ok}
use Rattle.jlr_trace_fields.proofs.Numbers.{four_bytes, eight_bytes, four_least}
use Rattle.jlr_trace_fields.proofs.Basics.{byte, within, flag, signed, bytes, picked, picked_takes}
use Rattle.jlr_trace_fields.proofs.Lists.{list_field}
use Rattle.jlr_trace_fields.proofs.Products.{made_takes, one_takes, two_takes, five_takes, one_again, two_again, five_again}
use Rattle.jlr_trace_fields.proofs.TableLaws.{fault}
use Rattle.jlr_trace_fields.proofs.Objects.{work}
use Rattle.jlr_trace_fields.proofs.Records.{name, name_least, failure, failure_least}
use Rattle.jlr_trace_entries.specs.declared.answers.tag.Tag.{Tag}
use Rattle.jlr_trace_entries.specs.declared.answers.tag.Tag.TheVariants.{Done as TagDone, Handle as TagHandle, Truth as TagTruth}
use Rattle.jlr_trace_entries.specs.declared.answers.tag.Tag.TheVariants.{Int as TagInt}
use Rattle.jlr_trace_entries.specs.declared.answers.tag.Tag.TheVariants.{Data as TagData, Wrote as TagWrote, Faulted as TagFaulted}
use Rattle.jlr_trace_entries.specs.declared.answers.tag.Tag.TheVariants.{Names as TagNames}
use Rattle.jlr_trace_entries.specs.declared.answers.tag.Tag.TheVariants.{Notes as TagNotes, Faults as TagFaults, Stat as TagStat}
use Rattle.jlr_trace_entries.specs.declared.answers.tag.Tag.TheVariants.{Job as TagJob}
use Rattle.jlr_trace_entries.specs.declared.answers.tag.Tag.TheVariants.{AlreadyDone as TagAlreadyDone, Prepared as TagPrepared}
use Rattle.jlr_trace_entries.specs.declared.answers.tag.Tag.TheVariants.{Out as TagOut}
use Rattle.jlr_trace_entries.specs.declared.answers.tag.Tag.TheVariants.{Handed as TagHanded, Refused as TagRefused}
use Rattle.jlr_trace_entries.specs.Answers.{refusals, handings, handing_number, spelled_stat, StatFits, stat_read, spelled_answer}
use Rattle.jlr_trace_entries.specs.Answers.{AnswerFits}
use Rattle.jlr_trace_entries.specs.Answers.{answer_tags, answer_body, answer_read}

-- ---- Tables

refusal_again : (x : Refusal) (rest : List ℕ) → picked_at 1 refusals (number_of x ∷ rest) ≡ Ok (x, rest)
unfolding picked_at
refusal_again NoMemory rest = refl
refusal_again HeapFull rest = refl
refusal_again NoHandle rest = refl
refusal_again HandlesFull rest = refl
refusal_again WrongKind rest = refl
refusal_again NoField rest = refl
refusal_again WrongType rest = refl
refusal_again Null rest = refl
refusal_again NoName rest = refl
refusal_again NamesFull rest = refl
refusal_again Busy rest = refl
refusal_again Closed rest = refl
refusal_again NoSession rest = refl
refusal_again Exhausted rest = refl
refusal_again Malformed rest = refl
refusal_again TooLong rest = refl
refusal_again NotOut rest = refl
refusal_again WouldWait rest = refl
refusal_again ResourcesFull rest = refl

refusal : IsField (picked_at 1 refusals) (λ x. spelled_8 (number_of x)) (λ _. Unit {0})
refusal = picked 1 refusals number_of refl refusal_again

handed_again : (x : HandedOf) (rest : List ℕ) → picked_at 0 handings (handing_number x ∷ rest) ≡ Ok (x, rest)
unfolding picked_at
handed_again Queued rest = refl
handed_again Lined rest = refl
handed_again Skipped rest = refl
handed_again Nothing rest = refl

handed : IsField (picked_at 0 handings) (λ x. spelled_8 (handing_number x)) (λ _. Unit {0})
handed = picked 0 handings handing_number refl handed_again

-- ---- Counts

abbrev made_stat : ℕ → ℕ → ℕ → ℕ → ℕ → StatOf
made_stat objects resources taken good failed =
    record { objects = objects; resources = resources; taken = taken; ok = good; failed = failed }

stat_takes : TakesSpelled stat_read spelled_stat StatFits
unfolding stat_read
stat_takes = five_takes eight_bytes eight_bytes eight_bytes eight_bytes eight_bytes [] made_stat spelled_stat StatFits (λ a b c d e. refl)
    (λ a b c d e p q r s t. record { objects = p; resources = q; taken = r; ended_well = s; failed = t })

stat_again : ReadsAgain stat_read spelled_stat StatFits
unfolding stat_read
stat_again s rest fits = five_again eight_bytes eight_bytes eight_bytes eight_bytes eight_bytes made_stat s.objects s.resources s.taken s.ok
    s.failed fits.objects fits.resources fits.taken fits.ended_well fits.failed rest

stat : IsField stat_read spelled_stat StatFits
stat = record { takes = stat_takes; again = stat_again }

-- ---- Answers

abbrev tag_number : Tag → ℕ
tag_number TagDone = 0
tag_number TagHandle = 1
tag_number TagTruth = 2
tag_number TagInt = 3
tag_number TagData = 4
tag_number TagWrote = 5
tag_number TagFaulted = 6
tag_number TagNames = 7
tag_number TagNotes = 8
tag_number TagFaults = 9
tag_number TagStat = 10
tag_number TagJob = 11
tag_number TagAlreadyDone = 12
tag_number TagPrepared = 13
tag_number TagOut = 14
tag_number TagHanded = 15
tag_number TagRefused = 16

body_takes : (tag : Tag) → TakesBehind (tag_number tag ∷ []) (answer_body tag) spelled_answer AnswerFits
body_takes TagDone = made_takes (0 ∷ []) Done spelled_answer AnswerFits refl tt
body_takes TagHandle = one_takes byte (1 ∷ []) Handle spelled_answer AnswerFits (λ a. refl) (λ a p. p)
body_takes TagTruth = one_takes flag (2 ∷ []) Truth spelled_answer AnswerFits (λ a. refl) (λ a p. tt)
body_takes TagInt = one_takes signed (3 ∷ []) Int spelled_answer AnswerFits (λ a. refl) (λ a p. p)
body_takes TagData = one_takes (bytes 0 200) (4 ∷ []) Data spelled_answer AnswerFits (λ a. refl) (λ a p. p)
body_takes TagWrote = one_takes (within 0 200) (5 ∷ []) Wrote spelled_answer AnswerFits (λ a. refl) (λ a p. p)
body_takes TagFaulted = one_takes fault (6 ∷ []) Faulted spelled_answer AnswerFits (λ a. refl) (λ a p. tt)
body_takes TagNames = one_takes (list_field name name_least) (7 ∷ []) Names spelled_answer AnswerFits (λ a. refl) (λ a p. p)
body_takes TagNotes = one_takes (list_field four_bytes four_least) (8 ∷ []) Notes spelled_answer AnswerFits (λ a. refl) (λ a p. p)
body_takes TagFaults = one_takes (list_field failure failure_least) (9 ∷ []) Faults spelled_answer AnswerFits (λ a. refl) (λ a p. p)
body_takes TagStat = one_takes stat (10 ∷ []) Stat spelled_answer AnswerFits (λ a. refl) (λ a p. p)
body_takes TagJob = two_takes eight_bytes work (11 ∷ []) Job spelled_answer AnswerFits (λ a b. refl) (λ a b p q. (p, q))
body_takes TagAlreadyDone = made_takes (12 ∷ []) AlreadyDone spelled_answer AnswerFits refl tt
body_takes TagPrepared = one_takes four_bytes (13 ∷ []) Prepared spelled_answer AnswerFits (λ a. refl) (λ a p. p)
body_takes TagOut = one_takes four_bytes (14 ∷ []) Out spelled_answer AnswerFits (λ a. refl) (λ a p. p)
body_takes TagHanded = one_takes handed (15 ∷ []) Handed spelled_answer AnswerFits (λ a. refl) (λ a p. tt)
body_takes TagRefused = one_takes refusal (16 ∷ []) Refused spelled_answer AnswerFits (λ a. refl) (λ a p. tt)

answer_takes : TakesSpelled answer_read spelled_answer AnswerFits
unfolding answer_read
answer_takes bs x rest fits e =
    let a = bind_ok (picked_at 0 answer_tags bs) (λ tag. answer_body tag.0 tag.1) (x, rest) e in
    let t = picked_takes 0 answer_tags tag_number refl bs a.0.0 a.0.1 fits a.1 in
    let r = body_takes a.0.0 a.0.1 x rest t.rest_fits a.2 in
    (record { parts = t.parts ∙ r.0.parts; rest_fits = r.0.rest_fits }, r.1)

answer_again : ReadsAgain answer_read spelled_answer AnswerFits
unfolding answer_read picked_at
answer_again Done rest fits = refl
answer_again (Handle a) rest fits = one_again byte Handle a fits rest
answer_again (Truth a) rest fits = one_again flag Truth a tt rest
answer_again (Int a) rest fits = one_again signed Int a fits rest
answer_again (Data a) rest fits = one_again (bytes 0 200) Data a fits rest
answer_again (Wrote a) rest fits = one_again (within 0 200) Wrote a fits rest
answer_again (Faulted a) rest fits = one_again fault Faulted a tt rest
answer_again (Names a) rest fits = one_again (list_field name name_least) Names a fits rest
answer_again (Notes a) rest fits = one_again (list_field four_bytes four_least) Notes a fits rest
answer_again (Faults a) rest fits = one_again (list_field failure failure_least) Faults a fits rest
answer_again (Stat a) rest fits = one_again stat Stat a fits rest
answer_again (Job a b) rest fits = two_again eight_bytes work Job a b fits.0 fits.1 rest
answer_again AlreadyDone rest fits = refl
answer_again (Prepared a) rest fits = one_again four_bytes Prepared a fits rest
answer_again (Out a) rest fits = one_again four_bytes Out a fits rest
answer_again (Handed a) rest fits = one_again handed Handed a tt rest
answer_again (Refused a) rest fits = one_again refusal Refused a tt rest

pub answer : IsField answer_read spelled_answer AnswerFits
answer = record { takes = answer_takes; again = answer_again }
