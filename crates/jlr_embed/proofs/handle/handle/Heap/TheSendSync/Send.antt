-- What a handle owns may be given back by any thread.
use base.Shift.{Keyless}
use mir.Raw.{raw}
use denote.Memory.{lone}
use denote.Builtin.{u64}
use denote.RawPtr.{Ptr}
use denote.Struct.Struct.{exits_of}
use denote.Struct.Owning.{shape, fields, to}
use denote.Param.Send.{IsSend, AllSend, owning_send, struct_send, sendable}
use Rattle.std.proofs.Crossing as heap
use Rattle.std.proofs.alloc.Global.TheSendSync as alloc
use Rattle.std_alloc.proofs.SendSync.{quiet, lies}
use Rattle.std.specs.Prelude.{ℕ, Option, None, Some}
use Rattle.std.specs.Global.{Global}
use Rattle.jlr_steps.specs.Cores.{Kept}
use Rattle.jlr_embed.proofs.unrecorded.Unrecorded.TheSendSync.{the_send as counter}
use Rattle.jlr_embed.specs.Held.{heap_held, heap_row as R}
use Rattle.jlr_embed.specs.contracts.handle.handle.Heap.{the_row, the_type}

held_keyless : (a : Global) (p : Ptr) (v : Option (Kept ℕ)) → Keyless (heap_held a p v)
held_keyless a p None = tt
held_keyless a p (Some x) = (lies R (counter u64 (search sendable)) p x, heap.frees.frees a (raw (lone R.mir)) p)

pub send : IsSend the_row
send =
    let all : AllSend (fields the_type) = (search sendable, (alloc.the_field_send, tt)) in
    owning_send the_type all (λ d. held_keyless d.alloc d.at d.value)
    (λ k. quiet (to the_type) (exits_of k (fields the_type)) ((struct_send (shape the_type) all).leaving k))
