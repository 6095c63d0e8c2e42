-- A session whose mutator has joined.
use Rattle.std.proofs.Common.{◌≡◌, ℕ, List, refl}
use Rattle.jlr_types.specs.declared.Refusal.{Refusal}
use Rattle.jlr_machine.specs.declared.ask.Answer.{Answer}
use Rattle.jlr_machine.specs.declared.ask.Answer.TheVariants.{Done, Handle, Truth, Int, Data, Wrote, Faulted, Names, Notes, Faults, Stat}
use Rattle.jlr_machine.specs.declared.ask.Answer.TheVariants.{Job, AlreadyDone, Prepared, Out, Handed, Refused}
use Rattle.jlr_machine.specs.declared.ask.Ask.TheVariants.{Leave}
use Rattle.jlr_event.specs.declared.event.Event.TheVariants.{Ask as Asks}
use Rattle.jlr_event.specs.declared.event.Reply.{Reply}
use Rattle.jlr_device.specs.Handling.{Handling}
use Rattle.jlr_session.specs.Calls.{Opening}
use Rattle.jlr_session.specs.Asks.{Asking, by_asks}
use Rattle.jlr_session.specs.Sessions.{Ended}
use Rattle.jlr_session.specs.Serving.{Follows}
use Rattle.jlr_session.specs.declared.shell.SessionEnd.{SessionEnd}

-- any answer but a refusal lets the session go on
pub goes_on : {P D R : Type 0} (port : Asking P R) (device : Opening D R) (resource : Handling R) (answer : Answer) (at_end : Type 0)
    (end : SessionEnd) (bytes : List ℕ) (p : P) (d : D) (out : List ℕ) (p' : P) (d' : D)
    → ((by : Refusal) → answer ≡ Refused by → ⊥)
    → (left : P) × (last : Reply R) × Ended (by_asks port device resource) at_end end bytes (p, d) out (left, d')
    × port.asks left (Asks (Leave (port.mutator left))) last p'
    → Follows port device resource answer at_end end bytes p d out p' d'
goes_on port device resource Done at_end end bytes p d out p' d' not_refused session = session
goes_on port device resource (Handle h) at_end end bytes p d out p' d' not_refused session = session
goes_on port device resource (Truth b) at_end end bytes p d out p' d' not_refused session = session
goes_on port device resource (Int n) at_end end bytes p d out p' d' not_refused session = session
goes_on port device resource (Data b) at_end end bytes p d out p' d' not_refused session = session
goes_on port device resource (Wrote n) at_end end bytes p d out p' d' not_refused session = session
goes_on port device resource (Faulted f) at_end end bytes p d out p' d' not_refused session = session
goes_on port device resource (Names n) at_end end bytes p d out p' d' not_refused session = session
goes_on port device resource (Notes n) at_end end bytes p d out p' d' not_refused session = session
goes_on port device resource (Faults f) at_end end bytes p d out p' d' not_refused session = session
goes_on port device resource (Stat s) at_end end bytes p d out p' d' not_refused session = session
goes_on port device resource (Job a w) at_end end bytes p d out p' d' not_refused session = session
goes_on port device resource AlreadyDone at_end end bytes p d out p' d' not_refused session = session
goes_on port device resource (Prepared r) at_end end bytes p d out p' d' not_refused session = session
goes_on port device resource (Out r) at_end end bytes p d out p' d' not_refused session = session
goes_on port device resource (Handed h) at_end end bytes p d out p' d' not_refused session = session
goes_on port device resource (Refused by) at_end end bytes p d out p' d' not_refused session = absurd (not_refused by refl)
