-- How entries are spelled and read, and which have a spelling.
use Rattle.std.specs.Prelude.{ℕ, ◌<◌, List, ◌∷◌, ◌++◌}
use Rattle.jlr_machine.specs.declared.ask.Ask.{Ask}
use Rattle.jlr_machine.specs.declared.ask.Answer.{Answer}
use Rattle.jlr_machine.specs.Chosen.{Chosen}
use Rattle.jlr_machine.specs.declared.entry.Entry.{Entry}
use Rattle.jlr_trace_fields.specs.declared.version.Version.{Version}
use Rattle.jlr_trace_fields.specs.Reading.{Reader, four_fields, byte_at}
use Rattle.jlr_trace_entries.specs.Asks.{spelled_ask, AskFits, ask_read}
use Rattle.jlr_trace_entries.specs.Answers.{spelled_answer, AnswerFits, AnswerCounts, answer_read}
use Rattle.jlr_trace_entries.specs.Choices.{spelled_choice, ChoiceFits, ChoiceCounts, choice_read}

abbrev pub spelled_entry : Version → Entry → List ℕ
spelled_entry version e = e.seat ∷ spelled_ask version e.ask ++ spelled_answer e.answer ++ spelled_choice e.choice

pub record EntryFits (version : Version) (e : Entry) : Type 0 where
  pub seat : e.seat < 256
  pub ask : AskFits version e.ask
  pub answer : AnswerFits e.answer
  pub choice : ChoiceFits e.choice

-- its ask has a spelling, and its lists are short enough for their counts
pub record EntryCounts (version : Version) (e : Entry) : Type 0 where
  pub ask : AskFits version e.ask
  pub answer : AnswerCounts e.answer
  pub choice : ChoiceCounts e.choice

abbrev pub made_entry : ℕ → Ask → Answer → Chosen → Entry
made_entry seat ask answer choice = record { seat = seat; ask = ask; answer = answer; choice = choice }

unfoldable pub entry_read : Version → Reader Entry
entry_read version = four_fields byte_at (ask_read version) answer_read choice_read made_entry
