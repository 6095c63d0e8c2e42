-- The changes of one object or one session, as the plain program lists them.
use Rattle.std.specs.Prelude.{ℕ, drop, ◌++◌, [], ◌∷◌, Option, Some, None}
use Rattle.jlr_machine.specs.declared.object.Object.{Object}
use Rattle.jlr_machine.specs.declared.object.RefState.TheVariants.{Queued, Removed}
use Rattle.jlr_machine.specs.declared.object.CleanState.TheVariants.{Lined}
use Rattle.jlr_machine.specs.declared.object.Cleanable.{Cleanable}
use Rattle.jlr_machine.specs.declared.machine.Session.{Session}
use Rattle.jlr_machine.specs.declared.machine.Machine.{Machine}
use Rattle.jlr_machine.specs.declared.ask.Handed.{Handed}
use Rattle.jlr_machine.specs.Objects.{set_at, empty_at, with_field, with_reference, with_members, with_cleanable}
use Rattle.jlr_machine.specs.Lookups.{free_handle}
use Rattle.jlr_machine.specs.Calls.{unreferred, spent, taken_up, delivered}
use Rattle.jlr_plain_asks.specs.declared.changes.objects.Change.{Change}
use Rattle.jlr_plain_asks.specs.declared.changes.objects.Change.TheVariants.{Set, Unrefer, Enqueue, Remove, DropFirst}
use Rattle.jlr_plain_asks.specs.declared.changes.objects.Change.TheVariants.{Spend}
use Rattle.jlr_plain_asks.specs.declared.changes.objects.Change.TheVariants.{Line}
use Rattle.jlr_plain_asks.specs.declared.changes.sessions.SessionChange.{SessionChange}
use Rattle.jlr_plain_asks.specs.declared.changes.sessions.SessionChange.TheVariants.{Hold, Release, Call}

abbrev pub change_of : Change → Object → Object
change_of (Set f v) = with_field f v
change_of Unrefer = with_reference unreferred
change_of Enqueue = with_reference (λ r. record r { state = Queued; queue = None })
change_of Remove = with_reference (λ r. record r { state = Removed })
change_of DropFirst = with_members (drop 1)
change_of Spend = with_cleanable spent
change_of Line = with_cleanable (λ c. record c { state = Lined })

-- a queue with a last member more
abbrev pub appended : ℕ → Object → Object
appended s = with_members (λ members. members ++ s ∷ [])

abbrev pub session_change_of : SessionChange → Session → Session
session_change_of (Hold s) = λ session. record session { handles = set_at session.handles (free_handle session) s }
session_change_of (Release h) = λ session. record session { handles = empty_at session.handles h }
session_change_of (Call fence call) = λ session. record session { fence = fence; call = call }

-- the handler's step with what is at a slot, before it leaves the pending list
abbrev pub delivered_if : Machine → ℕ → Option Handed → Machine
delivered_if m s None = m
delivered_if m s (Some step) = delivered m s step

-- the cleaner's take-up of what is at a slot, before it leaves the line
abbrev pub taken_by_cleaner : Machine → ℕ → Option Cleanable → Machine
taken_by_cleaner m s None = m
taken_by_cleaner m s (Some c) = taken_up m 255 s c
