-- Entries, and the image.
use Rattle.std.proofs.Common.{◌%◌, Bool, true, false, cond, [], Some, None, Ok}
use Rattle.std.specs.Prelude.{nat_eq, nat_le}
use Rattle.std.specs.Int.{w16, w32, w64}
use Rattle.jlr_trace_fields.specs.declared.version.Version.{Version}
use Rattle.jlr_trace_fields.specs.Reading.{two_fields, number_at}
use Rattle.jlr_trace_fields.specs.Items.{items_at}
use Rattle.jlr_trace_entries.specs.Choices.{itself, collected_read, collection_read, fresh_read, made_choice, choice_read}
use Rattle.jlr_trace_entries.specs.Entries.{made_entry, entry_read}
use Rattle.jlr_trace_entries.specs.Images.{made_head, head_read, made_session, joined_read, session_read, waiting_read, records_read}
use Rattle.jlr_trace_entries.specs.Images.{counts_read, made_image, image_behind, image_read}
use Rattle.jlr_trace.specs.Steady.{IsSteady}
use Rattle.jlr_trace.proofs.Steps.{made, then_read, either, one, two, three, four, five}
use Rattle.jlr_trace.proofs.Fields.{byte, number, number_within, byte_within, flag, option}
use Rattle.jlr_trace.proofs.Items.{items, list, rising}
use Rattle.jlr_trace.proofs.Parts.{binding, failure, call, slot, job, resource, placed, held}
use Rattle.jlr_trace.proofs.Asks.{ask}
use Rattle.jlr_trace.proofs.Answers.{answer}

-- ---- Entries

collected : IsSteady collected_read
unfolding collected_read
collected = two (rising 4 slot itself) (list 4 (number w32)) (λ kept pending. record { kept = kept; pending = pending })

collection : (was_run : Bool) → IsSteady (collection_read was_run)
collection false = record { still = (made None).still }
collection true = record { still = (one collected Some).still }

fresh : (were_made : Bool) → IsSteady (fresh_read were_made)
fresh false = record { still = (made []).still }
fresh true = record { still = (then_read (byte_within 1 2) (items_at (number_at w32)) (items (number w32))).still }

choice : IsSteady choice_read
unfolding choice_read
choice =
    then_read (byte_within 0 3) (λ flags. two_fields (collection_read (nat_eq (flags % 2) 1)) (fresh_read (nat_le 2 flags)) made_choice)
    (λ flags. two (collection (nat_eq (flags % 2) 1)) (fresh (nat_le 2 flags)) made_choice)

pub entry : (version : Version) → IsSteady (entry_read version)
unfolding entry_read
entry version = four byte (ask version) answer choice made_entry

-- ---- The image

head : IsSteady head_read
unfolding head_read
head = four (number_within w32 16 65536) (byte_within 1 64) (number_within w16 1 256) (number w64) made_head

joined : IsSteady joined_read
unfolding joined_read
joined = three (rising 5 held (λ h. h.handle)) option call made_session

session : IsSteady session_read
unfolding session_read
session = then_read flag (λ is_joined bytes. cond is_joined (joined_read bytes) (Ok (None, bytes)))
    (λ is_joined. either is_joined joined (made None))

waiting : IsSteady waiting_read
unfolding waiting_read
waiting = three (list 6 binding) (list 4 (number w32)) (list 4 (number w32))
    (λ names pending line. record { names = names; pending = pending; line = line })

records : IsSteady records_read
unfolding records_read
records =
    four (rising 14 job (λ job. job.action)) (rising 13 resource (λ resource. resource.rid)) (list 9 failure) (list 4 (number w32))
    (λ jobs resources faults notes. record { jobs = jobs; resources = resources; faults = faults; notes = notes })

counts : IsSteady counts_read
unfolding counts_read
counts = four (number w64) (number w64) (number w64) (number w64)
    (λ next_action taken good failed. record { next_action = next_action; taken = taken; ok = good; failed = failed })

pub image : (version : Version) → IsSteady (image_read version)
unfolding image_read
image version =
    then_read head (image_behind version)
    (λ head. five (rising 5 (placed version) (λ p. p.slot)) (items session head.sessions) waiting records counts (made_image head))
