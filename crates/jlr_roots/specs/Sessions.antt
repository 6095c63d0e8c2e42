-- What a member holds as a session of the machine, and changes to one session.
use Rattle.std.specs.Prelude.{◌<◌, ℕ, Bool, false, if◌then◌else◌, List, Option, Some, None, option_and_then, map}
use Rattle.std.specs.Prelude.{slice_index_or, length}
use Rattle.jlr_machine.specs.declared.machine.Call.{Call}
use Rattle.jlr_machine.specs.declared.machine.Session.{Session}
use Rattle.jlr_machine.specs.declared.machine.Call.TheVariants.{Free}
use Rattle.jlr_machine.specs.Objects.{Table, at, set_at, empty_at, some_and}
use Rattle.jlr_machine.specs.Calls.{no_handles}
use Rattle.jlr_machine.specs.Refusals.{is_in_flight}
use Rattle.jlr_roots.specs.declared.member.Member.{Member}
use Rattle.jlr_roots.specs.HandleTable.{IsHandleTable, has_handle_room, lowest_free}

-- a joined member's handles, its call, and the fence of that call
abbrev pub session_in : Member → Option Session
session_in m = if m.joined then Some (record { handles = m.handles; fence = m.fence; call = m.call }) else None

-- the sessions, by mutator
abbrev pub sessions_in : List Member → Table Session
sessions_in members = map session_in members

-- a member that is not joined, with no handle in use and no call
abbrev pub absent : Member
absent = record { joined = false; handles = no_handles; fence = None; call = Free }

-- each member has a table of handles, joined or not; there are few
pub record AreMembers (members : List Member) : Type 0 where
  pub tables : (k : ℕ) → k < length members → IsHandleTable (slice_index_or members k absent).handles
  pub few : length members < 256

-- ---- One mutator of all

abbrev pub session_has_free_handle : Table Session → ℕ → Bool
session_has_free_handle mutators k = some_and (λ s. has_handle_room s.handles) (at mutators k)

-- the lowest free handle, or 0 of one who is not joined
abbrev pub lowest_in : Option Session → ℕ
lowest_in s = elim s [ None ↦ 0 | Some x ↦ lowest_free x.handles ]

abbrev pub lowest_handle : Table Session → ℕ → ℕ
lowest_handle mutators k = lowest_in (at mutators k)

-- the slot that a handle stands for
abbrev pub slot_held : Table Session → ℕ → ℕ → Option ℕ
slot_held mutators k handle = option_and_then (λ s. at s.handles handle) (at mutators k)

-- a call is in flight, as the refusal Busy asks it
abbrev pub session_has_call : Table Session → ℕ → Bool
session_has_call mutators k = some_and (λ s. is_in_flight s.call) (at mutators k)

-- the session holds a slot by a handle; it no longer uses the handle
abbrev pub with_slot : ℕ → ℕ → Session → Session
with_slot handle slot s = record s { handles = set_at s.handles handle slot }

abbrev pub without_handle : ℕ → Session → Session
without_handle handle s = record s { handles = empty_at s.handles handle }

-- the session is in this call, with this fence
abbrev pub session_in_call : Option ℕ → Call → Session → Session
session_in_call fence call s = record s { fence = fence; call = call }
