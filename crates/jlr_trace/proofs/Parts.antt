-- What lists of a trace file hold: objects and the records of an image.
use Rattle.std.proofs.Common.{ℕ, zero, suc, Bool, true, false, cond, Option, Ok, Err}
use Rattle.std.specs.Int.{w16, w32, w64}
use Rattle.jlr_types.specs.declared.FieldValue.TheVariants.{Int, Ref}
use Rattle.jlr_types.specs.declared.Work.TheVariants.{Note, Resource as WorkOn}
use Rattle.jlr_machine.specs.declared.object.Object.TheVariants.{Reference, Queue, Cleaner, Cleanable, Guard}
use Rattle.jlr_machine.specs.declared.machine.Call.TheVariants.{Free, Opening as CallOpening, Out as CallOut, Job as CallJob}
use Rattle.jlr_trace_fields.specs.declared.fault.Fault.TheVariants.{Range}
use Rattle.jlr_trace_fields.specs.declared.version.Version.{Version}
use Rattle.jlr_trace_fields.specs.declared.version.Version.TheVariants.{One, Two}
use Rattle.jlr_trace_fields.specs.Reading.{one_field, option_at}
use Rattle.jlr_machine.specs.Names.{is_name_byte}
use Rattle.jlr_trace_fields.specs.Items.{items_at, may_follow}
use Rattle.jlr_trace_fields.specs.Tables.{ref_kinds, ref_states, clean_states, faults, resource_states}
use Rattle.jlr_trace_fields.specs.Objects.{value_behind, value_read, work_behind, work_read, typed, array, plain_read, array_read, array_in}
use Rattle.jlr_trace_fields.specs.Objects.{reference_read, queue_read, cleanable_read, guard_read, object_behind, object_read}
use Rattle.jlr_trace_fields.specs.Records.{binding_read, failure_read, call_behind, call_read, slot_after, job_behind, job_after}
use Rattle.jlr_trace_fields.specs.Records.{resource_behind}
use Rattle.jlr_trace_fields.specs.Records.{resource_after, placed_behind, placed_after, held_behind, held_after}
use Rattle.jlr_trace.specs.Steady.{IsSteady}
use Rattle.jlr_trace.proofs.Steps.{made, never, then_read, either, one, two, four}
use Rattle.jlr_trace.proofs.Fields.{byte, number, number_within, signed, byte_within, flag, option, picked, text}
use Rattle.jlr_trace.proofs.Items.{items, list}

value_after : (is_slot : Bool) → IsSteady (value_behind is_slot)
value_after false = one signed Int
value_after true = one option Ref

value : IsSteady value_read
unfolding value_read
value = then_read flag value_behind value_after

work_after : (is_resource : Bool) → IsSteady (work_behind is_resource)
work_after false = one (number w32) Note
work_after true = one (number w32) WorkOn

pub work : IsSteady work_read
unfolding work_read
work = then_read flag work_behind work_after

-- ---- Objects

plain : IsSteady plain_read
unfolding plain_read
plain = then_read (byte_within 0 8) (λ count. one_field (items_at value_read count) typed) (λ count. one (items value count) typed)

array_of : IsSteady array_read
unfolding array_read
array_of = then_read (number_within w16 1 4096) (λ count. one_field (items_at option_at count) array)
    (λ count. one (items option count) array)

array_of_version : (version : Version) → IsSteady (array_in version)
array_of_version One = never
array_of_version Two = record { still = array_of.still }

reference : IsSteady reference_read
unfolding reference_read
reference = four (picked 0 ref_kinds) option option (picked 0 ref_states)
    (λ kind referent queue state. Reference (record { kind = kind; referent = referent; queue = queue; state = state }))

queue : IsSteady queue_read
unfolding queue_read
queue = one (list 4 (number w32)) Queue

cleanable : IsSteady cleanable_read
unfolding cleanable_read
cleanable = four option (number w64) work (picked 0 clean_states)
    (λ referent action work state. Cleanable (record { referent = referent; action = action; work = work; state = state }))

guard : IsSteady guard_read
unfolding guard_read
guard = two (number w32) (number w32) (λ rid cleanable. Guard (record { rid = rid; cleanable = cleanable }))

object_after : (version : Version) (kind : ℕ) → IsSteady (object_behind version kind)
object_after version zero = record { still = never.still }
object_after version (suc zero) = record { still = plain.still }
object_after version (suc (suc zero)) = record { still = reference.still }
object_after version (suc (suc (suc zero))) = record { still = queue.still }
object_after version (suc (suc (suc (suc zero)))) = record { still = (made Cleaner).still }
object_after version (suc (suc (suc (suc (suc zero))))) = record { still = cleanable.still }
object_after version (suc (suc (suc (suc (suc (suc zero)))))) = record { still = guard.still }
object_after version (suc (suc (suc (suc (suc (suc (suc zero))))))) = record { still = (array_of_version version).still }
object_after version (suc (suc (suc (suc (suc (suc (suc (suc n)))))))) = record { still = never.still }

object : (version : Version) → IsSteady (object_read version)
unfolding object_read
object version = then_read byte (object_behind version) (object_after version)

-- ---- Records

pub binding : IsSteady binding_read
unfolding binding_read
binding = two (text 1 32 is_name_byte) (number w32) (λ name slot. record { name = name; slot = slot })

pub failure : IsSteady failure_read
unfolding failure_read
failure = two (number w64) (picked 1 faults) (λ action fault. record { action = action; fault = fault })

call_after : (kind : ℕ) → IsSteady (call_behind kind)
call_after zero = record { still = (made Free).still }
call_after (suc zero) = record { still = (one (number w32) CallOpening).still }
call_after (suc (suc zero)) = record { still = (one (number w32) CallOut).still }
call_after (suc (suc (suc zero))) = record { still = (one (number w64) CallJob).still }
call_after (suc (suc (suc (suc n)))) = record { still = never.still }

pub call : IsSteady call_read
unfolding call_read
call = then_read byte call_behind call_after

-- ---- Records with rising keys

pub slot : (before : Option ℕ) → IsSteady (slot_after before)
unfolding slot_after
slot before = then_read (number w32) (λ s bytes. cond (may_follow before s) (Ok (s, bytes)) (Err Range))
    (λ s. either (may_follow before s) (made s) never)

pub job : (before : Option ℕ) → IsSteady (job_after before)
unfolding job_after
job before =
    then_read (number w64) (λ action bytes. cond (may_follow before action) (job_behind action bytes) (Err Range))
    (λ action. either (may_follow before action) (two work byte (λ work by. record { action = action; work = work; by = by })) never)

pub resource : (before : Option ℕ) → IsSteady (resource_after before)
unfolding resource_after
resource before =
    then_read (number w32) (λ rid bytes. cond (may_follow before rid) (resource_behind rid bytes) (Err Range))
    (λ rid. either (may_follow before rid) (two (number w64) (picked 0 resource_states)
    (λ action state. record { rid = rid; action = action; state = state })) never)

pub placed : (version : Version) (before : Option ℕ) → IsSteady (placed_after version before)
unfolding placed_after
placed version before =
    then_read (number w32) (λ slot bytes. cond (may_follow before slot) (placed_behind version slot bytes) (Err Range))
    (λ slot. either (may_follow before slot) (one (object version) (λ object. record { slot = slot; object = object })) never)

pub held : (before : Option ℕ) → IsSteady (held_after before)
unfolding held_after
held before =
    then_read byte (λ handle bytes. cond (may_follow before handle) (held_behind handle bytes) (Err Range))
    (λ handle. either (may_follow before handle) (one (number w32) (λ slot. record { handle = handle; slot = slot })) never)
