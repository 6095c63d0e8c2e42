-- The image: what is read is what was written, and what was written is read again.
use Rattle.std.proofs.Common.{◌≡◌, ℕ, ◌^◌, Bool, true, false, cond, List, [], ◌∷◌, ◌++◌, length, Option, Some, None, Ok, refl, sym, ap, ◌∙◌}
use Rattle.std.proofs.Common.{append_assoc, arith}
use Rattle.std.specs.List.{flat_map, AllByRecursion}
use Rattle.std.specs.Int.{w16, w32, to_be_bytes}
use Rattle.jlr_machine.specs.declared.machine.Binding.{Binding}
use Rattle.jlr_machine.specs.declared.machine.Failure.{Failure}
use Rattle.jlr_machine.specs.declared.machine.Job.{Job}
use Rattle.jlr_machine.specs.declared.machine.Resource.{Resource}
use Rattle.jlr_trace_fields.specs.declared.version.Version.{Version}
use Rattle.jlr_trace_fields.specs.Spelling.{spelled_flag, IsWithin}
use Rattle.jlr_trace_fields.specs.Reading.{Reader, number_within_at}
use Rattle.jlr_trace_fields.specs.Items.{items_at, spelled_list}
use Rattle.jlr_trace_fields.specs.Laws.{TakesBehind, TakesSpelled, ReadsAgain, IsField}
use Rattle.jlr_trace_fields.proofs.Numbers.{two_bytes, four_bytes, eight_bytes, four_least}
use Rattle.jlr_trace_fields.proofs.Basics.{within, number_within, flag, option}
use Rattle.jlr_trace_fields.proofs.Lists.{list_field, items_take, items_again}
use Rattle.jlr_trace_fields.proofs.Rising.{rising_field}
use Rattle.jlr_trace_fields.proofs.Products.{then_takes, made_takes, three_takes, four_takes, five_takes, then_again, three_again}
use Rattle.jlr_trace_fields.proofs.Products.{four_again}
use Rattle.jlr_trace_fields.proofs.Products.{five_again}
use Rattle.jlr_trace_fields.proofs.Records.{binding, binding_least, failure, failure_least, call, rising_job, job_least, rising_resource}
use Rattle.jlr_trace_fields.proofs.Records.{resource_least, rising_placed, placed_least, rising_held, held_least}
use Rattle.jlr_trace_fields.specs.Records.{spelled_placed}
use Rattle.jlr_trace_entries.specs.declared.image.Head.{Head}
use Rattle.jlr_trace_entries.specs.declared.image.Waiting.{Waiting}
use Rattle.jlr_trace_entries.specs.declared.image.Records.{Records}
use Rattle.jlr_trace_entries.specs.declared.image.Counts.{Counts}
use Rattle.jlr_trace_entries.specs.Images.{spelled_head, HeadFits, made_head, head_read, SessionText, spelled_session, JoinedFits}
use Rattle.jlr_trace_entries.specs.Images.{SessionFits}
use Rattle.jlr_trace_entries.specs.Images.{made_session, joined_read, session_read, spelled_waiting, WaitingFits, waiting_read}
use Rattle.jlr_trace_entries.specs.Images.{spelled_records}
use Rattle.jlr_trace_entries.specs.Images.{RecordsFit, records_read, spelled_counts, CountsFit, counts_read, spelled_image, ImageFits}
use Rattle.jlr_trace_entries.specs.Images.{made_image, image_behind, image_read}

cells : IsField (number_within_at w32 16 65536) (to_be_bytes w32) (IsWithin 16 65536)
cells = number_within w32 (2 ^ 32) 16 65536 (omega arith) four_bytes

limit_of_resources : IsField (number_within_at w16 1 256) (to_be_bytes w16) (IsWithin 1 256)
limit_of_resources = number_within w16 (2 ^ 16) 1 256 (omega arith) two_bytes

head_takes : TakesSpelled head_read spelled_head HeadFits
unfolding head_read
head_takes = four_takes cells (within 1 64) limit_of_resources eight_bytes [] made_head spelled_head HeadFits (λ c s r b. refl)
    (λ c s r b f g h i. record { cells = f; sessions = g; resources = h; base = i })

head_again : ReadsAgain head_read spelled_head HeadFits
unfolding head_read
head_again h rest fits = four_again cells (within 1 64) limit_of_resources eight_bytes made_head h.cells h.sessions h.resources h.base
    fits.cells fits.sessions fits.resources fits.base rest

head : IsField head_read spelled_head HeadFits
head = record { takes = head_takes; again = head_again }

-- ---- Sessions

joined_takes : TakesBehind (1 ∷ []) joined_read spelled_session SessionFits
unfolding joined_read
joined_takes = three_takes (rising_field rising_held held_least) option call (1 ∷ []) made_session spelled_session SessionFits
    (λ h f c. refl) (λ h f c p q r. record { handles = p; fence = q; call = r })

abbrev session_behind : Bool → Reader (Option SessionText)
session_behind is_joined bytes = cond is_joined (joined_read bytes) (Ok (None, bytes))

session_behind_takes : (b : Bool) → TakesBehind (cond b (1 ∷ []) (0 ∷ [])) (session_behind b) spelled_session SessionFits
session_behind_takes false = made_takes (0 ∷ []) None spelled_session SessionFits refl tt
session_behind_takes true = joined_takes

session_one : (b : Bool) (f : Unit {0}) → TakesBehind ([] ++ spelled_flag b) (session_behind b) spelled_session SessionFits
session_one false f = session_behind_takes false
session_one true f = session_behind_takes true

session_takes : TakesSpelled session_read spelled_session SessionFits
unfolding session_read
session_takes = then_takes flag [] session_behind spelled_session SessionFits session_one

joined_again : (s : SessionText) (rest : List ℕ) → JoinedFits s → session_read (spelled_session (Some s) ++ rest) ≡ Ok (Some s, rest)
unfolding session_read joined_read
joined_again s rest fits = then_again flag true tt session_behind (spelled_session (Some s) ++ rest) _ (Some s) rest refl
    (three_again (rising_field rising_held held_least) option call made_session s.handles s.fence s.call fits.handles fits.fence fits.call
    rest)

session_again : ReadsAgain session_read spelled_session SessionFits
unfolding session_read
session_again None rest fits = then_again flag false tt session_behind (spelled_session None ++ rest) rest None rest refl refl
session_again (Some s) rest fits = joined_again s rest fits

-- so many sessions
abbrev AreSessions : ℕ → List (Option SessionText) → Type 0
AreSessions count xs = (length xs ≡ count) × AllByRecursion SessionFits xs

sessions : (count : ℕ) → IsField (items_at session_read count) (flat_map spelled_session) (AreSessions count)
sessions count = record {
  takes = λ bytes xs rest fits e. let t = items_take session_read spelled_session SessionFits session_takes count bytes xs rest fits e in
      (t.0, (t.1, t.2));
  again = λ xs rest fits. ap (λ n. items_at session_read n (flat_map spelled_session xs ++ rest)) (sym fits.0)
      ∙ items_again session_read spelled_session SessionFits session_again xs rest fits.1;
}

-- ---- What waits, the records, and the counts

abbrev made_waiting : List Binding → List ℕ → List ℕ → Waiting
made_waiting names pending line = record { names = names; pending = pending; line = line }

waiting_takes : TakesSpelled waiting_read spelled_waiting WaitingFits
unfolding waiting_read
waiting_takes = three_takes (list_field binding binding_least) (list_field four_bytes four_least) (list_field four_bytes four_least) []
    made_waiting spelled_waiting WaitingFits (λ n p l. refl) (λ n p l f g h. record { names = f; pending = g; line = h })

waiting_again : ReadsAgain waiting_read spelled_waiting WaitingFits
unfolding waiting_read
waiting_again w rest fits = three_again (list_field binding binding_least) (list_field four_bytes four_least)
    (list_field four_bytes four_least) made_waiting w.names w.pending w.line fits.names fits.pending fits.line rest

waiting : IsField waiting_read spelled_waiting WaitingFits
waiting = record { takes = waiting_takes; again = waiting_again }

abbrev made_records : List Job → List Resource → List Failure → List ℕ → Records
made_records jobs resources faults notes = record { jobs = jobs; resources = resources; faults = faults; notes = notes }

records_takes : TakesSpelled records_read spelled_records RecordsFit
unfolding records_read
records_takes = four_takes (rising_field rising_job job_least) (rising_field rising_resource resource_least)
    (list_field failure failure_least) (list_field four_bytes four_least) [] made_records spelled_records RecordsFit (λ j r f n. refl)
    (λ j r f n p q s t. record { jobs = p; resources = q; faults = s; notes = t })

records_again : ReadsAgain records_read spelled_records RecordsFit
unfolding records_read
records_again r rest fits = four_again (rising_field rising_job job_least) (rising_field rising_resource resource_least)
    (list_field failure failure_least) (list_field four_bytes four_least) made_records r.jobs r.resources r.faults r.notes fits.jobs
    fits.resources fits.faults fits.notes rest

records : IsField records_read spelled_records RecordsFit
records = record { takes = records_takes; again = records_again }

abbrev made_counts : ℕ → ℕ → ℕ → ℕ → Counts
made_counts next_action taken good failed = record { next_action = next_action; taken = taken; ok = good; failed = failed }

counts_takes : TakesSpelled counts_read spelled_counts CountsFit
unfolding counts_read
counts_takes = four_takes eight_bytes eight_bytes eight_bytes eight_bytes [] made_counts spelled_counts CountsFit (λ a b c d. refl)
    (λ a b c d p q r s. record { next_action = p; taken = q; ended_well = r; failed = s })

counts_again : ReadsAgain counts_read spelled_counts CountsFit
unfolding counts_read
counts_again c rest fits = four_again eight_bytes eight_bytes eight_bytes eight_bytes made_counts c.next_action c.taken c.ok c.failed
    fits.next_action fits.taken fits.ended_well fits.failed rest

counts : IsField counts_read spelled_counts CountsFit
counts = record { takes = counts_takes; again = counts_again }

-- ---- The image

behind_takes : (version : Version) (h : Head) → HeadFits h
    → TakesBehind (spelled_head h) (image_behind version h) spelled_image (ImageFits version)
behind_takes version h f = five_takes (rising_field (rising_placed version) (placed_least version)) (sessions h.sessions) waiting records
    counts (spelled_head h) (made_image h) spelled_image (ImageFits version) (λ o m w r c. refl)
    (λ o m w r c p q s t u. record { head = f; objects = p; mutators = q.1; sessions = q.0; waiting = s; records = t; counts = u })

image_takes : (version : Version) → TakesSpelled (image_read version) spelled_image (ImageFits version)
unfolding image_read
image_takes version = then_takes head [] (image_behind version) spelled_image (ImageFits version) (behind_takes version)

parted : (h o m w r c rest : List ℕ) → (((((h ++ o) ++ m) ++ w) ++ r) ++ c) ++ rest ≡ h ++ (((((o ++ m) ++ w) ++ r) ++ c) ++ rest)
parted h o m w r c rest = simp append_assoc

image_again : (version : Version) → ReadsAgain (image_read version) spelled_image (ImageFits version)
unfolding image_read
image_again version t rest fits =
    then_again head t.head fits.head (image_behind version) (spelled_image t ++ rest)
    (spelled_list spelled_placed t.objects ++ flat_map spelled_session t.mutators ++ spelled_waiting t.waiting
    ++ spelled_records t.records ++ spelled_counts t.counts ++ rest) t rest
    (parted (spelled_head t.head) (spelled_list spelled_placed t.objects) (flat_map spelled_session t.mutators)
    (spelled_waiting t.waiting) (spelled_records t.records) (spelled_counts t.counts) rest)
    (five_again (rising_field (rising_placed version) (placed_least version)) (sessions t.head.sessions) waiting records counts
    (made_image t.head) t.objects t.mutators t.waiting t.records t.counts fits.objects (fits.sessions, fits.mutators) fits.waiting
    fits.records fits.counts rest)

pub image : (version : Version) → IsField (image_read version) spelled_image (ImageFits version)
image version = record { takes = image_takes version; again = image_again version }
