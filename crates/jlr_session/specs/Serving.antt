-- A whole session over a port and a device.
use Rattle.std.specs.Prelude.{◌≡◌, ℕ, ◌⊎◌, List, [], take}
use Rattle.jlr_types.specs.declared.Refusal.{Refusal}
use Rattle.jlr_machine.specs.declared.ask.Answer.{Answer}
use Rattle.jlr_machine.specs.declared.ask.Answer.TheVariants.{Refused}
use Rattle.jlr_machine.specs.declared.ask.Ask.TheVariants.{Join, Leave}
use Rattle.jlr_event.specs.declared.event.Event.TheVariants.{Ask as Asks}
use Rattle.jlr_event.specs.Events.{said_by}
use Rattle.jlr_event.specs.declared.event.Reply.{Reply}
use Rattle.jlr_device.specs.Handling.{Handling}
use Rattle.jlr_session.specs.Calls.{Opening}
use Rattle.jlr_session.specs.Asks.{Asking, by_asks}
use Rattle.jlr_session.specs.Turns.{reply_line}
use Rattle.jlr_session.specs.Sessions.{Ended}
use Rattle.jlr_session.specs.declared.shell.SessionEnd.{SessionEnd}
use Rattle.jlr_session.specs.declared.shell.SessionEnd.TheVariants.{NotJoined, WriteFault}

-- the refusal of a join goes out, and a settling follows; or a write fails, and a prefix of it goes out
abbrev pub IsTurnedAway : {P R : Type 0} → Asking P R → Refusal → SessionEnd → P → List ℕ → P → Type 0
IsTurnedAway port by end p out p' =
    ((end ≡ NotJoined by) × (out ≡ reply_line (Refused by)) × port.settling p p')
    ⊎ ((end ≡ WriteFault) × (n : ℕ) × (out ≡ take n (reply_line (Refused by))) × (p' ≡ p))

module _ {P D R : Type 0} (port : Asking P R) (device : Opening D R) (resource : Handling R) where
  -- a refused join ends the session before a byte is read; after any other the lines are carried out, and then the
  -- mutator leaves
  abbrev pub Follows : Answer → Type 0 → SessionEnd → List ℕ → P → D → List ℕ → P → D → Type 0
  Follows (Refused by) at_end end bytes p d out p' d' = IsTurnedAway port by end p out p' × (bytes ≡ []) × (d' ≡ d)
  Follows answer at_end end bytes p d out p' d' =
      (left : P) × (last : Reply R) × Ended (by_asks port device resource) at_end end bytes (p, d) out (left, d')
      × port.asks left (Asks (Leave (port.mutator left))) last p'

  -- the mutator joins, and the session follows
  abbrev pub Serves : Type 0 → SessionEnd → List ℕ → P → D → List ℕ → P → D → Type 0
  Serves at_end end bytes p d out p' d' =
      (reply : Reply R) × (joined : P) × port.asks p (Asks (Join (port.mutator p))) reply joined
      × Follows (said_by reply) at_end end bytes joined d out p' d'
