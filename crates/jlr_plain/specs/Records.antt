-- Entries as a history keeps them: without the answers that the machine gives once more.
use Rattle.std.specs.Prelude.{ℕ, Bool, ◌^◌, cond, nat_lt, List, [], ◌∷◌}
use Rattle.jlr_machine.specs.declared.machine.Machine.{Machine}
use Rattle.jlr_machine.specs.declared.ask.Answer.{Answer}
use Rattle.jlr_machine.specs.declared.ask.Answer.TheVariants as answer
use Rattle.jlr_machine.specs.declared.entry.Entry.{Entry}
use Rattle.jlr_machine.specs.Run.{apply}
use Rattle.jlr_plain_asks.specs.Replaying.{long_reply, counts_with}
use Rattle.jlr_plain.specs.declared.record.ShortAnswer.{ShortAnswer}
use Rattle.jlr_plain.specs.declared.record.ShortAnswer.TheVariants as short
use Rattle.jlr_plain.specs.declared.record.Record.{Record}

-- ---- From an entry to its record

-- whether the number of objects has its place beside the answer
abbrev pub has_short_count : ℕ → Bool
has_short_count objects = nat_lt objects (2 ^ 32)

abbrev pub short_of : Answer → ShortAnswer
short_of answer.Done = short.Done
short_of (answer.Handle h) = short.Handle h
short_of (answer.Truth b) = short.Truth b
short_of (answer.Wrote n) = short.Wrote n
short_of (answer.Faulted fault) = short.Faulted fault
short_of answer.AlreadyDone = short.AlreadyDone
short_of (answer.Prepared rid) = short.Prepared
short_of (answer.Handed h) = short.Handed h
short_of (answer.Refused by) = short.Refused by
short_of (answer.Stat s) = cond (has_short_count s.objects) short.Counted short.Replayed
short_of a = short.Replayed

abbrev pub number_told : Answer → ℕ
number_told (answer.Prepared rid) = rid
number_told (answer.Stat s) = cond (has_short_count s.objects) s.objects 0
number_told a = 0

abbrev pub record_of : Entry → Record
record_of e = record {
  seat = e.seat;
  answer = short_of e.answer;
  number = number_told e.answer;
  ask = e.ask;
  choice = e.choice;
}

-- ---- And back

-- the answer that is kept, or the one that stands for it
abbrev pub answer_from : Answer → ShortAnswer → ℕ → Answer
answer_from long short.Done number = answer.Done
answer_from long (short.Handle h) number = answer.Handle h
answer_from long (short.Truth b) number = answer.Truth b
answer_from long (short.Wrote n) number = answer.Wrote n
answer_from long (short.Faulted fault) number = answer.Faulted fault
answer_from long short.AlreadyDone number = answer.AlreadyDone
answer_from long short.Prepared number = answer.Prepared number
answer_from long (short.Handed h) number = answer.Handed h
answer_from long (short.Refused by) number = answer.Refused by
answer_from long short.Counted number = counts_with number long
answer_from long short.Replayed number = long

-- the entry of a record, in the machine in which it came
abbrev pub entry_in : Machine → Record → Entry
entry_in m r = record {
  seat = r.seat;
  ask = r.ask;
  answer = answer_from (long_reply m r.ask) r.answer r.number;
  choice = r.choice;
}

-- the entries of records that begin in this machine
abbrev pub replayed : Machine → List Record → List Entry
replayed m [] = []
replayed m (r ∷ records) = let e = entry_in m r in e ∷ replayed (apply m e) records
