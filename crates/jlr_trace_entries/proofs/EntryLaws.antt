-- Entries: what is read is what was written, and what was written is read again.
use Rattle.std.proofs.Common.{[], refl}
use Rattle.jlr_trace_fields.specs.declared.version.Version.{Version}
use Rattle.jlr_trace_fields.specs.Laws.{TakesSpelled, ReadsAgain, IsField}
use Rattle.jlr_trace_fields.proofs.Basics.{byte}
use Rattle.jlr_trace_fields.proofs.Products.{four_takes, four_again}
use Rattle.jlr_trace_entries.proofs.AskLaws.{ask}
use Rattle.jlr_trace_entries.proofs.AnswerLaws.{answer}
use Rattle.jlr_trace_entries.specs.Entries.{spelled_entry, EntryFits, made_entry, entry_read}
use Rattle.jlr_trace_entries.proofs.ChoiceLaws.{choice}

entry_takes : (version : Version) → TakesSpelled (entry_read version) (spelled_entry version) (EntryFits version)
unfolding entry_read
entry_takes version = four_takes byte (ask version) answer choice [] made_entry (spelled_entry version) (EntryFits version)
    (λ s a r c. refl) (λ s a r c f g h i. record { seat = f; ask = g; answer = h; choice = i })

entry_again : (version : Version) → ReadsAgain (entry_read version) (spelled_entry version) (EntryFits version)
unfolding entry_read
entry_again version e rest fits =
    four_again byte (ask version) answer choice made_entry e.seat e.ask e.answer e.choice fits.seat fits.ask fits.answer fits.choice rest

pub entry : (version : Version) → IsField (entry_read version) (spelled_entry version) (EntryFits version)
entry version = record { takes = entry_takes version; again = entry_again version }
