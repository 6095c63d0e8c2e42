-- Calls of devices and of resources. A call that fails is counted; where no failure more can be counted none is made,
-- and its outcome is other.
use Rattle.std.specs.Prelude.{◌≡◌, ℕ, ◌≤◌, ◌⊎◌, min, List, take, length, replicate, Option, Some, None, Result, Ok, Err}
use Rattle.std.specs.Prelude.{IfOk, ⊤}
use Rattle.jlr_types.specs.declared.Fault.{Fault}
use Rattle.jlr_types.specs.declared.Fault.TheVariants.{Other}
use Rattle.jlr_machine.specs.declared.ask.CallOutcome.{CallOutcome}
use Rattle.jlr_machine.specs.declared.ask.CallOutcome.TheVariants.{Data, Wrote, Failed}
use Rattle.jlr_device.specs.declared.device.Mode.{Mode}
use Rattle.jlr_device.specs.declared.resource.Finished.{Finished}
use Rattle.jlr_device.specs.Failures.{Counts, CountsOneMore, IsHighest}
use Rattle.jlr_device.specs.Handling.{Handling}

-- What the calls of a device may do, its count of failures, and those of its resources.
pub record Opening (D R : Type 0) : Type 1 where
  pub count : D → ℕ
  pub failures : R → ℕ
  pub opens : D → Mode → List ℕ → Result R Fault → D → Type 0
  pub connects : D → List ℕ → Result R Fault → D → Type 0

-- a call was made, told its outcome, and raised the count by one if that is a fault; or the count was at its last
-- value, and none was made
abbrev pub Calls : {T : Type 0} → ℕ → Result T Fault → ℕ → Type 0 → Type 0 → Type 0
Calls before outcome after made unmade =
    (CountsOneMore before × Counts before outcome after × made) ⊎ (IsHighest before × (outcome ≡ Err Other) × unmade)

-- a file is opened, and no call of it has failed yet
abbrev pub Opens : {D R : Type 0} → Opening D R → Mode → List ℕ → D → Result R Fault → D → Type 0
Opens device mode path old outcome new =
    Calls (device.count old) outcome (device.count new) (device.opens old mode path outcome new) (new ≡ old)
    × IfOk outcome (λ r. device.failures r ≡ 0)

-- a socket is joined, and no call of it has failed yet
abbrev pub Connects : {D R : Type 0} → Opening D R → List ℕ → D → Result R Fault → D → Type 0
Connects device path old outcome new =
    Calls (device.count old) outcome (device.count new) (device.connects old path outcome new) (new ≡ old)
    × IfOk outcome (λ r. device.failures r ≡ 0)

-- the bytes that a read gave, at the front of its buffer
abbrev pub read_outcome : Result ℕ Fault → List ℕ → CallOutcome
read_outcome (Ok n) buffer = Data (take n buffer)
read_outcome (Err fault) buffer = Failed fault

abbrev pub write_outcome : Result ℕ Fault → CallOutcome
write_outcome (Ok n) = Wrote n
write_outcome (Err fault) = Failed fault

-- a buffer for so many bytes, at most 200
abbrev pub room_for : ℕ → List ℕ
room_for count = take (min 200 count) (replicate 200 0)

-- so many bytes are read, or as many of them as there are
abbrev pub ReadsUpTo : {R : Type 0} → Handling R → ℕ → R → CallOutcome → R → Type 0
ReadsUpTo resource count old outcome new = (result : Result ℕ Fault) × (buffer : List ℕ)
    × Calls (resource.count old) result (resource.count new) (resource.reads old (room_for count) result buffer new)
    (new ≡ old)
    × IfOk result (λ n. n ≤ count) × (outcome ≡ read_outcome result buffer)

-- bytes are written, or a prefix of them
abbrev pub Writes : {R : Type 0} → Handling R → List ℕ → R → CallOutcome → R → Type 0
Writes resource bytes old outcome new = (result : Result ℕ Fault)
    × Calls (resource.count old) result (resource.count new) (resource.writes old bytes result new) (new ≡ old)
    × IfOk result (λ n. n ≤ length bytes) × (outcome ≡ write_outcome result)

-- a resource is ended once; where there is none, as for a note, all is well
abbrev pub Finishes : {R : Type 0} → Handling R → Option R → Result (Unit {0}) Fault → Type 0
Finishes resource None outcome = outcome ≡ Ok tt
Finishes resource (Some r) outcome = (finished : Finished) × (outcome ≡ finished.outcome)
    × Calls (resource.count r) outcome finished.failures (resource.finishes r finished) ⊤
