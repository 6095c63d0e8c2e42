-- What writing an image asks of its parts: that their lists are short enough for their counts.
use Rattle.std.specs.Prelude.{ℕ, ◌+◌, ◌<◌, ◌≤◌, ◌^◌, List, [], ◌++◌, length, Option, Some, None}
use Rattle.std.specs.List.{AllByRecursion}
use Rattle.jlr_machine.specs.Objects.{occupied}
use Rattle.jlr_machine.specs.declared.object.Object.{Object}
use Rattle.jlr_machine.specs.declared.machine.Session.{Session}
use Rattle.jlr_machine.specs.declared.machine.Machine.{Machine}
use Rattle.jlr_trace_fields.specs.Items.{spelled_list}
use Rattle.jlr_trace_fields.specs.declared.parts.record.Placed.{Placed}
use Rattle.jlr_trace_fields.specs.Objects.{ObjectCounts}
use Rattle.jlr_trace_fields.specs.Records.{spelled_held, spelled_placed, PlacedCounts}
use Rattle.jlr_trace_entries.specs.Images.{listed_from, placed, handle_held, session_text, spelled_session}

-- what stands at one place of a table
abbrev pub spelled_place : {A B : Type 0} → (ℕ → A → B) → (B → List ℕ) → ℕ → Option A → List ℕ
spelled_place make spelled number None = []
spelled_place make spelled number (Some x) = spelled (make number x)

abbrev pub spelled_handles : List (Option ℕ) → List ℕ
spelled_handles handles = spelled_list spelled_held (listed_from handle_held 0 handles)

abbrev pub spelled_objects : List (Option Object) → List Placed → List ℕ
spelled_objects places strays = spelled_list spelled_placed (listed_from placed 0 places ++ strays)

abbrev pub spelled_session_of : Option Session → List ℕ
spelled_session_of None = spelled_session None
spelled_session_of (Some s) = spelled_session (Some (session_text s))

abbrev pub PlaceCounts : Option Object → Type 0
PlaceCounts None = Unit {0}
PlaceCounts (Some object) = ObjectCounts object

abbrev pub SessionCounts : Option Session → Type 0
SessionCounts None = Unit {0}
SessionCounts (Some s) = length s.handles ≤ 256

pub record MachineCounts (m : Machine) : Type 0 where
  pub cells : length m.objects ≤ 65536
  pub objects : AllByRecursion PlaceCounts m.objects
  pub sessions : length m.mutators < 256
  pub handles : AllByRecursion SessionCounts m.mutators
  pub limit : m.resource_limit < 2 ^ 16
  pub names : length m.names < 2 ^ 32
  pub pending : length m.pending < 2 ^ 32
  pub line : length m.line < 2 ^ 32
  pub jobs : length m.jobs < 2 ^ 32
  pub resources : length m.resources < 2 ^ 32
  pub faults : length m.faults < 2 ^ 32
  pub notes : length m.notes < 2 ^ 32

-- a machine, and objects in slots that are no cells of it
pub record ImageCounts (m : Machine) (strays : List Placed) : Type 0 where
  pub machine : MachineCounts m
  pub all : occupied m.objects + length strays < 2 ^ 32
  pub each : AllByRecursion PlacedCounts strays
