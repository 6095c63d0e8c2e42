-- How the image at the head of a trace file is spelled and read, and which has a spelling.
use Rattle.std.specs.Prelude.{ℕ, suc, false, ◌<◌, ◌≤◌, ◌≡◌, ◌^◌, List, [], ◌∷◌, ◌++◌, length, Option, Some, None, Ok}
use Rattle.std.specs.Prelude.{nat_lt, if◌then◌else◌, option_map, map}
use Rattle.std.specs.List.{flat_map, list_any, AllByRecursion}
use Rattle.std.specs.Int.{w16, w32, w64}
use Rattle.jlr_machine.specs.declared.object.Object.{Object}
use Rattle.jlr_machine.specs.declared.machine.Call.{Call}
use Rattle.jlr_machine.specs.declared.machine.Session.{Session}
use Rattle.jlr_machine.specs.declared.machine.Machine.{Machine}
use Rattle.jlr_trace_fields.specs.declared.version.Version.{Version}
use Rattle.jlr_trace_fields.specs.Spelling.{spelled_8, spelled_16, spelled_32, spelled_64, spelled_option, IsWithin}
use Rattle.jlr_trace_fields.specs.Spelling.{SlotFits}
use Rattle.jlr_trace_fields.specs.Reading.{Reader, ◌>>=◌, three_fields, four_fields, five_fields, byte_within_at}
use Rattle.jlr_trace_fields.specs.Reading.{number_at}
use Rattle.jlr_trace_fields.specs.Reading.{number_within_at, flag_at, option_at}
use Rattle.jlr_trace_fields.specs.Items.{items_at, list_at, rising_at, spelled_list, IsListed, IsRising}
use Rattle.jlr_trace_fields.specs.declared.parts.record.Placed.{Placed}
use Rattle.jlr_trace_fields.specs.declared.parts.record.Held.{Held}
use Rattle.jlr_trace_fields.specs.Records.{spelled_binding, BindingFits, binding_read, spelled_failure, FailureFits}
use Rattle.jlr_trace_fields.specs.Records.{failure_read, spelled_call, CallFits, call_read, spelled_job, JobFits}
use Rattle.jlr_trace_fields.specs.Records.{job_after}
use Rattle.jlr_trace_fields.specs.Records.{spelled_resource, ResourceFits, resource_after, spelled_placed, PlacedFits}
use Rattle.jlr_trace_fields.specs.Records.{placed_after, spelled_held, HeldFits, held_after}
use Rattle.jlr_trace_entries.specs.declared.image.Head.{Head}
use Rattle.jlr_trace_entries.specs.declared.image.Waiting.{Waiting}
use Rattle.jlr_trace_entries.specs.declared.image.Records.{Records}
use Rattle.jlr_trace_entries.specs.declared.image.Counts.{Counts}
use Rattle.jlr_trace_entries.specs.declared.image.Image.{Image}
use Rattle.jlr_trace_entries.specs.Choices.{SlotIs}

-- ---- Tables as lists: what is there, place by place, counted from a number

abbrev pub listed_from : {A B : Type 0} → (ℕ → A → B) → ℕ → List (Option A) → List B
listed_from make n [] = []
listed_from make n (None ∷ places) = listed_from make (suc n) places
listed_from make n (Some x ∷ places) = make n x ∷ listed_from make (suc n) places

abbrev pub placed : ℕ → Object → Placed
placed slot object = record { slot = slot; object = object }

abbrev pub handle_held : ℕ → ℕ → Held
handle_held handle slot = record { handle = handle; slot = slot }

-- ---- The head

abbrev pub spelled_head : Head → List ℕ
spelled_head h = spelled_32 h.cells ++ spelled_8 h.sessions ++ spelled_16 h.resources ++ spelled_64 h.base

pub record HeadFits (h : Head) : Type 0 where
  pub cells : IsWithin 16 65536 h.cells
  pub sessions : IsWithin 1 64 h.sessions
  pub resources : IsWithin 1 256 h.resources
  pub base : h.base < 2 ^ 64

abbrev pub made_head : ℕ → ℕ → ℕ → ℕ → Head
made_head cells sessions resources base =
    record { cells = cells; sessions = sessions; resources = resources; base = base }

unfoldable pub head_read : Reader Head
head_read = four_fields (number_within_at w32 16 65536) (byte_within_at 1 64) (number_within_at w16 1 256)
    (number_at w64) made_head

-- ---- Sessions

-- a joined session, with its handles as a list
pub record SessionText : Type 0 where
  pub handles : List Held
  pub fence : Option ℕ
  pub call : Call

abbrev pub session_text : Session → SessionText
session_text s = record { handles = listed_from handle_held 0 s.handles; fence = s.fence; call = s.call }

abbrev pub spelled_session : Option SessionText → List ℕ
spelled_session None = 0 ∷ []
spelled_session (Some s) = 1 ∷ spelled_list spelled_held s.handles ++ spelled_option s.fence ++ spelled_call s.call

pub record JoinedFits (s : SessionText) : Type 0 where
  pub handles : IsRising HeldFits (λ h. h.handle) s.handles
  pub fence : SlotFits s.fence
  pub call : CallFits s.call

abbrev pub SessionFits : Option SessionText → Type 0
SessionFits None = Unit {0}
SessionFits (Some s) = JoinedFits s

abbrev pub made_session : List Held → Option ℕ → Call → Option SessionText
made_session handles fence call = Some (record { handles = handles; fence = fence; call = call })

unfoldable pub joined_read : Reader (Option SessionText)
joined_read = three_fields (rising_at 5 held_after (λ h. h.handle)) option_at call_read made_session

unfoldable pub session_read : Reader (Option SessionText)
session_read bytes =
    flag_at bytes >>= λ is_joined. if is_joined.0 then joined_read is_joined.1 else Ok (None, is_joined.1)

-- ---- What waits, the records, and the counts

abbrev pub spelled_waiting : Waiting → List ℕ
spelled_waiting w = spelled_list spelled_binding w.names ++ spelled_list spelled_32 w.pending
    ++ spelled_list spelled_32 w.line

pub record WaitingFits (w : Waiting) : Type 0 where
  pub names : IsListed BindingFits w.names
  pub pending : IsListed SlotIs w.pending
  pub line : IsListed SlotIs w.line

unfoldable pub waiting_read : Reader Waiting
waiting_read = three_fields (list_at 6 binding_read) (list_at 4 (number_at w32)) (list_at 4 (number_at w32))
    (λ names pending line. record { names = names; pending = pending; line = line })

abbrev pub spelled_records : Records → List ℕ
spelled_records r = spelled_list spelled_job r.jobs ++ spelled_list spelled_resource r.resources
    ++ spelled_list spelled_failure r.faults ++ spelled_list spelled_32 r.notes

pub record RecordsFit (r : Records) : Type 0 where
  pub jobs : IsRising JobFits (λ job. job.action) r.jobs
  pub resources : IsRising ResourceFits (λ resource. resource.rid) r.resources
  pub faults : IsListed FailureFits r.faults
  pub notes : IsListed (λ n. n < 2 ^ 32) r.notes

unfoldable pub records_read : Reader Records
records_read = four_fields (rising_at 14 job_after (λ job. job.action))
    (rising_at 13 resource_after (λ resource. resource.rid)) (list_at 9 failure_read) (list_at 4 (number_at w32))
    (λ jobs resources faults notes. record { jobs = jobs; resources = resources; faults = faults; notes = notes })

abbrev pub spelled_counts : Counts → List ℕ
spelled_counts c = spelled_64 c.next_action ++ spelled_64 c.taken ++ spelled_64 c.ok ++ spelled_64 c.failed

pub record CountsFit (c : Counts) : Type 0 where
  pub next_action : c.next_action < 2 ^ 64
  pub taken : c.taken < 2 ^ 64
  pub ended_well : c.ok < 2 ^ 64
  pub failed : c.failed < 2 ^ 64

unfoldable pub counts_read : Reader Counts
counts_read = four_fields (number_at w64) (number_at w64) (number_at w64) (number_at w64)
    (λ next_action taken good failed. record { next_action = next_action; taken = taken; ok = good; failed = failed })

-- ---- The image

-- an image with its tables as lists
pub record ImageText : Type 0 where
  pub head : Head
  pub objects : List Placed
  pub mutators : List (Option SessionText)
  pub waiting : Waiting
  pub records : Records
  pub counts : Counts

abbrev pub head_of : Machine → ℕ → Head
head_of m base = made_head (length m.objects) (length m.mutators) m.resource_limit base

abbrev pub waiting_of : Machine → Waiting
waiting_of m = record { names = m.names; pending = m.pending; line = m.line }

abbrev pub records_of : Machine → Records
records_of m = record { jobs = m.jobs; resources = m.resources; faults = m.faults; notes = m.notes }

abbrev pub counts_of : Machine → Counts
counts_of m = record { next_action = m.next_action; taken = m.taken; ok = m.ok; failed = m.failed }

abbrev pub whole_image : ℕ → Machine → List Placed → Image
whole_image base machine strays = record { base = base; machine = machine; strays = strays }

abbrev pub image_text : Image → ImageText
image_text i = record {
  head = head_of i.machine i.base;
  objects = listed_from placed 0 i.machine.objects ++ i.strays;
  mutators = map (option_map session_text) i.machine.mutators;
  waiting = waiting_of i.machine;
  records = records_of i.machine;
  counts = counts_of i.machine;
}

abbrev pub spelled_image : ImageText → List ℕ
spelled_image t = spelled_head t.head ++ spelled_list spelled_placed t.objects ++ flat_map spelled_session t.mutators
    ++ spelled_waiting t.waiting ++ spelled_records t.records ++ spelled_counts t.counts

pub record ImageFits (version : Version) (t : ImageText) : Type 0 where
  pub head : HeadFits t.head
  pub objects : IsRising (PlacedFits version) (λ p. p.slot) t.objects
  pub mutators : AllByRecursion SessionFits t.mutators
  pub sessions : length t.mutators ≡ t.head.sessions
  pub waiting : WaitingFits t.waiting
  pub records : RecordsFit t.records
  pub counts : CountsFit t.counts

abbrev pub made_image : Head → List Placed → List (Option SessionText) → Waiting → Records → Counts → ImageText
made_image head objects mutators waiting records counts =
    record {
      head =
          head;
      objects = objects;
      mutators = mutators;
      waiting = waiting;
      records = records;
      counts = counts;
    }

-- what stands behind a head
abbrev pub image_behind : Version → Head → Reader ImageText
image_behind version head = five_fields (rising_at 5 (placed_after version) (λ p. p.slot))
    (items_at session_read head.sessions) waiting_read records_read counts_read (made_image head)

unfoldable pub image_read : Version → Reader ImageText
image_read version bytes = head_read bytes >>= λ head. image_behind version head.0 head.1

-- a session's handles have 251 places, and 256 where one is above 250
abbrev pub places_of : List Held → ℕ
places_of handles = if list_any (λ h. nat_lt 250 h.handle) handles then 256 else 251

abbrev pub HasPlaces : Option Session → Type 0
HasPlaces None = Unit {0}
HasPlaces (Some s) = length s.handles ≡ places_of (listed_from handle_held 0 s.handles)

-- what the text of an image does not say: no cycle is open, nothing was seen, strays lie in no cells, and how many
-- places handles have
pub record HasShape (i : Image) : Type 0 where
  pub closed : i.machine.cycle_open ≡ false
  pub nothing_seen : i.machine.seen ≡ []
  pub apart : AllByRecursion (λ p. length i.machine.objects ≤ p.slot) i.strays
  pub places : AllByRecursion HasPlaces i.machine.mutators
