-- How the records of an image are spelled and read, and which have a spelling.
use Rattle.std.specs.Prelude.{ℕ, zero, suc, ◌<◌, ◌^◌, List, [], ◌∷◌, ◌++◌, Option, Ok, Err, if◌then◌else◌}
use Rattle.std.specs.Int.{w32, w64}
use Rattle.jlr_machine.specs.declared.machine.Binding.{Binding}
use Rattle.jlr_machine.specs.declared.machine.Failure.{Failure}
use Rattle.jlr_machine.specs.declared.machine.Job.{Job}
use Rattle.jlr_machine.specs.declared.machine.Resource.{Resource}
use Rattle.jlr_machine.specs.declared.machine.Call.{Call}
use Rattle.jlr_machine.specs.declared.machine.Call.TheVariants.{Free, Opening as CallOpening, Out as CallOut}
use Rattle.jlr_machine.specs.declared.machine.Call.TheVariants.{Job as CallJob}
use Rattle.jlr_trace_fields.specs.declared.fault.Fault.TheVariants.{Range}
use Rattle.jlr_trace_fields.specs.declared.version.Version.{Version}
use Rattle.jlr_trace_fields.specs.Spelling.{spelled_8, spelled_32, spelled_64, spelled_text, IsTextOf}
use Rattle.jlr_trace_fields.specs.Reading.{Reader, ◌>>=◌, one_field, two_fields, byte_at, number_at, picked_at, text_at}
use Rattle.jlr_machine.specs.Names.{is_name_byte}
use Rattle.jlr_trace_fields.specs.Items.{may_follow}
use Rattle.jlr_trace_fields.specs.declared.parts.record.Placed.{Placed}
use Rattle.jlr_trace_fields.specs.declared.parts.record.Held.{Held}
use Rattle.jlr_trace_fields.specs.Tables.{faults, fault_number, resource_states, resource_state_number}
use Rattle.jlr_trace_fields.specs.Objects.{spelled_object, ObjectFits, ObjectCounts, object_read, spelled_work}
use Rattle.jlr_trace_fields.specs.Objects.{WorkFits}
use Rattle.jlr_trace_fields.specs.Objects.{work_read}

abbrev pub NameFits : List ℕ → Type 0
NameFits name = IsTextOf 1 32 is_name_byte name

-- ---- Bindings and failures

abbrev pub spelled_binding : Binding → List ℕ
spelled_binding b = spelled_text b.name ++ spelled_32 b.slot

pub record BindingFits (b : Binding) : Type 0 where
  pub name : NameFits b.name
  pub slot : b.slot < 2 ^ 32

unfoldable pub binding_read : Reader Binding
binding_read = two_fields (text_at 1 32 is_name_byte) (number_at w32) (λ name slot. record {
  name = name;
  slot =
      slot;
})

abbrev pub spelled_failure : Failure → List ℕ
spelled_failure f = spelled_64 f.action ++ spelled_8 (fault_number f.fault)

abbrev pub FailureFits : Failure → Type 0
FailureFits f = f.action < 2 ^ 64

unfoldable pub failure_read : Reader Failure
failure_read =
    two_fields (number_at w64) (picked_at 1 faults) (λ action fault. record { action = action; fault = fault })

-- ---- Calls

abbrev pub spelled_call : Call → List ℕ
spelled_call Free = 0 ∷ []
spelled_call (CallOpening rid) = 1 ∷ spelled_32 rid
spelled_call (CallOut rid) = 2 ∷ spelled_32 rid
spelled_call (CallJob action) = 3 ∷ spelled_64 action

abbrev pub CallFits : Call → Type 0
CallFits Free = Unit {0}
CallFits (CallOpening rid) = rid < 2 ^ 32
CallFits (CallOut rid) = rid < 2 ^ 32
CallFits (CallJob action) = action < 2 ^ 64

abbrev pub call_behind : ℕ → Reader Call
call_behind zero bytes = Ok (Free, bytes)
call_behind (suc zero) bytes = one_field (number_at w32) CallOpening bytes
call_behind (suc (suc zero)) bytes = one_field (number_at w32) CallOut bytes
call_behind (suc (suc (suc zero))) bytes = one_field (number_at w64) CallJob bytes
call_behind (suc (suc (suc (suc n)))) bytes = Err Range

unfoldable pub call_read : Reader Call
call_read bytes = byte_at bytes >>= λ kind. call_behind kind.0 kind.1

-- ---- Records with rising keys; a key that does not rise is met before the rest of its record

unfoldable pub slot_after : Option ℕ → Reader ℕ
slot_after before bytes = number_at w32 bytes >>= λ s. if may_follow before s.0 then Ok s else Err Range

abbrev pub spelled_job : Job → List ℕ
spelled_job job = spelled_64 job.action ++ spelled_work job.work ++ spelled_8 job.by

pub record JobFits (job : Job) : Type 0 where
  pub action : job.action < 2 ^ 64
  pub work : WorkFits job.work
  pub by : job.by < 256

abbrev pub job_behind : ℕ → Reader Job
job_behind action = two_fields work_read byte_at (λ work by. record { action = action; work = work; by = by })

unfoldable pub job_after : Option ℕ → Reader Job
job_after before bytes =
    number_at w64 bytes >>= λ action. if may_follow before action.0 then job_behind action.0 action.1 else Err Range

abbrev pub spelled_resource : Resource → List ℕ
spelled_resource r = spelled_32 r.rid ++ spelled_64 r.action ++ spelled_8 (resource_state_number r.state)

pub record ResourceFits (r : Resource) : Type 0 where
  pub rid : r.rid < 2 ^ 32
  pub action : r.action < 2 ^ 64

abbrev pub resource_behind : ℕ → Reader Resource
resource_behind rid = two_fields (number_at w64) (picked_at 0 resource_states)
    (λ action state. record { rid = rid; action = action; state = state })

unfoldable pub resource_after : Option ℕ → Reader Resource
resource_after before bytes =
    number_at w32 bytes >>= λ rid. if may_follow before rid.0 then resource_behind rid.0 rid.1 else Err Range

-- an object and its slot
abbrev pub spelled_placed : Placed → List ℕ
spelled_placed p = spelled_32 p.slot ++ spelled_object p.object

pub record PlacedFits (version : Version) (p : Placed) : Type 0 where
  pub slot : p.slot < 2 ^ 32
  pub object : ObjectFits version p.object

abbrev pub PlacedCounts : Placed → Type 0
PlacedCounts p = ObjectCounts p.object

abbrev pub placed_behind : Version → ℕ → Reader Placed
placed_behind version slot = one_field (object_read version) (λ object. record { slot = slot; object = object })

unfoldable pub placed_after : Version → Option ℕ → Reader Placed
placed_after version before bytes =
    number_at w32 bytes >>= λ slot. if may_follow before slot.0 then placed_behind version slot.0 slot.1 else Err Range

-- a handle and the slot that it names
abbrev pub spelled_held : Held → List ℕ
spelled_held h = h.handle ∷ spelled_32 h.slot

pub record HeldFits (h : Held) : Type 0 where
  pub handle : h.handle < 256
  pub slot : h.slot < 2 ^ 32

abbrev pub held_behind : ℕ → Reader Held
held_behind handle = one_field (number_at w32) (λ slot. record { handle = handle; slot = slot })

unfoldable pub held_after : Option ℕ → Reader Held
held_after before bytes =
    byte_at bytes >>= λ handle. if may_follow before handle.0 then held_behind handle.0 handle.1 else Err Range
