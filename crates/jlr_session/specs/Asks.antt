-- What each command asks of a port, and what it asks of a device or a resource between two asks.
use Rattle.std.specs.Prelude.{◌≡◌, ℕ, List, Option, Some, None, Result, Ok, Err, MatchResult, ⊤}
use Rattle.jlr_types.specs.declared.Fault.{Fault}
use Rattle.jlr_types.specs.declared.RefKind.TheVariants as kind
use Rattle.jlr_machine.specs.declared.ask.Ask.{Ask}
use Rattle.jlr_machine.specs.declared.ask.Ask.TheVariants as ask
use Rattle.jlr_machine.specs.declared.ask.Answer.{Answer}
use Rattle.jlr_machine.specs.declared.ask.Answer.TheVariants as answer
use Rattle.jlr_machine.specs.declared.ask.CallOutcome.{CallOutcome}
use Rattle.jlr_device.specs.declared.device.Mode.{Mode}
use Rattle.jlr_cleaner.specs.declared.job.Job.{Job}
use Rattle.jlr_event.specs.declared.event.Event.{Event}
use Rattle.jlr_event.specs.declared.event.Event.TheVariants as event
use Rattle.jlr_event.specs.Events.{no_answer, outcome_of, said_by}
use Rattle.jlr_event.specs.declared.event.Reply.{Reply}
use Rattle.jlr_event.specs.declared.event.Reply.TheVariants.{Answered, Marked}
use Rattle.jlr_wire.specs.declared.command.Command.{Command}
use Rattle.jlr_wire.specs.declared.command.Command.TheVariants.{New, Put, Get, SetInt, Int, Dup, Drop, Same, Soft, Weak}
use Rattle.jlr_wire.specs.declared.command.Command.TheVariants.{Phantom, Deref, Refers, Clear, Enqueue, Enqueued, Queue}
use Rattle.jlr_wire.specs.declared.command.Command.TheVariants.{Poll, Remove, Cleaner, Register, Clean, Open, Connect}
use Rattle.jlr_wire.specs.declared.command.Command.TheVariants.{Read, Write, Close, Bind, Find, Unbind, Names, Full}
use Rattle.jlr_wire.specs.declared.command.Command.TheVariants.{Stat, Notes, Faults, Bye, Array}
use Rattle.jlr_session.specs.Carrying.{Carrying}
use Rattle.jlr_device.specs.Handling.{Handling}
use Rattle.jlr_session.specs.Calls.{Opening, Opens, Connects, ReadsUpTo, Writes, Finishes}

-- In whose name a port asks, what an ask and its reply do to it, and what a settling does.
pub record Asking (P R : Type 0) : Type 1 where
  pub mutator : P → ℕ
  pub asks : P → Event R → Reply R → P → Type 0
  pub settling : P → P → Type 0

-- ---- What replies say

-- room was made for a resource
abbrev pub room_prepared : Answer → Result (Unit {0}) Answer
room_prepared (answer.Prepared rid) = Ok tt
room_prepared answer = Err answer

abbrev pub prepared_by : {R : Type 0} → Reply R → Result (Unit {0}) Answer
prepared_by reply = room_prepared (said_by reply)

-- a resource was handed out for a call
abbrev pub out_with : {R : Type 0} → Answer → Option R → Result R Answer
out_with (answer.Out rid) (Some resource) = Ok resource
out_with answer resource = Err answer

abbrev pub out_by : {R : Type 0} → Reply R → Result R Answer
out_by (Answered answer resource) = out_with answer resource
out_by (Marked progress) = Err no_answer

-- a cleaning action was taken up
abbrev pub job_with : {R : Type 0} → Answer → Option R → Result (Job R) Answer
job_with (answer.Job action work) resource = Ok (record { action = action; work = work; resource = resource })
job_with answer resource = Err answer

abbrev pub job_by : {R : Type 0} → Reply R → Result (Job R) Answer
job_by (Answered answer resource) = job_with answer resource
job_by (Marked progress) = Err no_answer

-- ---- What commands ask

-- the ask of a command that asks once, in the name of m; none for a command that may ask twice, and for bye
abbrev pub ask_by : ℕ → Command → Option Ask
ask_by m (New layout) = Some (ask.New m layout)
ask_by m (Array length) = Some (ask.Array m length)
ask_by m (Put h k v) = Some (ask.Put m h k v)
ask_by m (Get h k) = Some (ask.Get m h k)
ask_by m (SetInt h k n) = Some (ask.SetInt m h k n)
ask_by m (Int h k) = Some (ask.Int m h k)
ask_by m (Dup h) = Some (ask.Dup m h)
ask_by m (Drop h) = Some (ask.Drop m h)
ask_by m (Same a b) = Some (ask.Same m a b)
ask_by m (Soft h q) = Some (ask.MakeRef m kind.Soft h q)
ask_by m (Weak h q) = Some (ask.MakeRef m kind.Weak h q)
ask_by m (Phantom h q) = Some (ask.MakeRef m kind.Phantom h q)
ask_by m (Deref r) = Some (ask.Deref m r)
ask_by m (Refers r h) = Some (ask.Refers m r h)
ask_by m (Clear r) = Some (ask.Clear m r)
ask_by m (Enqueue r) = Some (ask.Enqueue m r)
ask_by m (Enqueued r) = Some (ask.Enqueued m r)
ask_by m Queue = Some (ask.MakeQueue m)
ask_by m (Poll q) = Some (ask.Poll m q)
ask_by m (Remove q) = Some (ask.Remove m q)
ask_by m Cleaner = Some (ask.MakeCleaner m)
ask_by m (Register c h note) = Some (ask.Register m c h note)
ask_by m (Bind name h) = Some (ask.Bind m name h)
ask_by m (Find name) = Some (ask.Find m name)
ask_by m (Unbind name) = Some (ask.Unbind m name)
ask_by m Names = Some (ask.Names m)
ask_by m (Full mode) = Some (ask.Full m mode)
ask_by m Stat = Some (ask.Stat m)
ask_by m Notes = Some (ask.Notes m)
ask_by m Faults = Some (ask.Faults m)
ask_by m (Open mode path) = None
ask_by m (Connect path) = None
ask_by m (Read h count) = None
ask_by m (Write h bytes) = None
ask_by m (Clean c) = None
ask_by m (Close h) = None
ask_by m Bye = None

-- ---- What a device or a resource is asked between two asks, and the second ask that tells it

-- the device opened a file, or failed
abbrev pub TellsOpened : {D R : Type 0} → Opening D R → ℕ → Mode → List ℕ → D → D → Event R → Type 0
TellsOpened {D} {R} device m mode path d d' second = (outcome : Result R Fault) × Opens device mode path d outcome d'
    × (second ≡ event.Opened m outcome)

-- the device joined a socket, or failed
abbrev pub TellsConnected : {D R : Type 0} → Opening D R → ℕ → List ℕ → D → D → Event R → Type 0
TellsConnected {D} {R} device m path d d' second = (outcome : Result R Fault) × Connects device path d outcome d'
    × (second ≡ event.Opened m outcome)

-- the resource was read, and comes back
abbrev pub TellsRead : {R : Type 0} → Handling R → ℕ → ℕ → R → Event R → Type 0
TellsRead {R} resource m count r second = (outcome : CallOutcome) × (r' : R) × ReadsUpTo resource count r outcome r'
    × (second ≡ event.CheckIn m outcome r')

-- the resource was written, and comes back
abbrev pub TellsWritten : {R : Type 0} → Handling R → ℕ → List ℕ → R → Event R → Type 0
TellsWritten {R} resource m bytes r second = (outcome : CallOutcome) × (r' : R) × Writes resource bytes r outcome r'
    × (second ≡ event.CheckIn m outcome r')

-- the work of a job that by took up was done
abbrev pub TellsFinished : {R : Type 0} → Handling R → ℕ → Job R → Event R → Type 0
TellsFinished resource by job second = (outcome : Result (Unit {0}) Fault) × Finishes resource job.resource outcome
    × (second ≡ event.Ask (ask.Finish by job.action (outcome_of outcome)))

-- ---- How commands are carried out

module _ {P R : Type 0} (port : Asking P R) where
  -- one ask, whose answer is the last; where nothing is asked the answer is ok
  abbrev pub AsksOnce : Option Ask → P → Answer → P → Type 0
  AsksOnce None p said p' = (said ≡ answer.Done) × (p' ≡ p)
  AsksOnce (Some first) p said p' = (reply : Reply R) × port.asks p (event.Ask first) reply p' × (said ≡ said_by reply)

  -- An ask. Where its reply leads on, what it gives comes to a second ask, whose answer is the last; else the first
  -- answer is the last, and rests holds
  abbrev pub AsksTwice : {X : Type 0} → Ask → (Reply R → Result X Answer) → (X → Event R → Type 0) → Type 0 → P → Answer
      → P → Type 0
  AsksTwice {X} first leads comes_to rests p said p' = (reply : Reply R) × (between : P)
      × port.asks p (event.Ask first) reply between
      × MatchResult (leads reply)
      (λ x. (second : Event R) × (last : Reply R) × comes_to x second × port.asks between second last p'
      × (said ≡ said_by last))
      (λ answer. (said ≡ answer) × (p' ≡ between) × rests)

module _ {P D R : Type 0} (port : Asking P R) (device : Opening D R) (resource : Handling R) where
  -- A command in the name of m: at most two asks, and at most one call of the device or of a resource between them
  abbrev pub CarriesOut : ℕ → Command → P → D → Answer → P → D → Type 0
  CarriesOut m (Open mode path) p d said p' d' =
      AsksTwice port (ask.Prepare m) prepared_by (λ u. TellsOpened device m mode path d d') (d' ≡ d) p said p'
  CarriesOut m (Connect path) p d said p' d' =
      AsksTwice port (ask.Prepare m) prepared_by (λ u. TellsConnected device m path d d') (d' ≡ d) p said p'
  CarriesOut m (Read h count) p d said p' d' =
      AsksTwice port (ask.CheckOut m h) out_by (TellsRead resource m count) ⊤ p said p' × (d' ≡ d)
  CarriesOut m (Write h bytes) p d said p' d' =
      AsksTwice port (ask.CheckOut m h) out_by (TellsWritten resource m bytes) ⊤ p said p' × (d' ≡ d)
  CarriesOut m (Clean c) p d said p' d' = AsksTwice port (ask.Clean m c) job_by (TellsFinished resource m) ⊤ p said p'
      × (d' ≡ d)
  CarriesOut m (Close h) p d said p' d' = AsksTwice port (ask.Close m h) job_by (TellsFinished resource m) ⊤ p said p'
      × (d' ≡ d)
  CarriesOut m command p d said p' d' = AsksOnce port (ask_by m command) p said p' × (d' ≡ d)

  -- each command is carried out in the name of the port's mutator, and a settling is the port's
  abbrev pub by_asks : Carrying (P × D)
  by_asks = record {
    command = λ old command said new. CarriesOut (port.mutator old.0) command old.0 old.1 said new.0 new.1;
    settling = λ old new. port.settling old.0 new.0 × (new.1 ≡ old.1);
  }
