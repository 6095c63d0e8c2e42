-- What a script makes of the calls of a device and of its resources.
use Rattle.std.specs.Prelude.{◌≡◌, ℕ, min, List, [], ◌++◌, length, take, drop, Option, Some, None, Result, Ok, Err}
use Rattle.std.specs.Prelude.{slice_get}
use Rattle.jlr_types.specs.declared.Fault.{Fault}
use Rattle.jlr_device.specs.declared.resource.Finished.{Finished}
use Rattle.jlr_device.specs.declared.script.Script.{Script}
use Rattle.jlr_device.specs.declared.script.Step.{Step}
use Rattle.jlr_device.specs.declared.script.Step.TheVariants.{Bytes, Take, Fail}

-- the scripts that a device has left, and its failures
pub record Scripts : Type 0 where
  pub scripts : List Script
  pub failures : ℕ

-- the steps that a resource has left, the outcome of its finish, and its failures
pub record ScriptSteps : Type 0 where
  pub steps : List Step
  pub finished : Result (Unit {0}) Fault
  pub failures : ℕ

-- ---- OpensScript

-- after the last script opens succeed, and the resource does as it is asked
abbrev pub opened_by : Option Script → Result ScriptSteps Fault
opened_by None = Ok (record { steps = []; finished = Ok tt; failures = 0 })
opened_by (Some s) = elim s.opened [
  | Ok _ ↦ Ok (record { steps = s.steps.items; finished = s.finished; failures = 0 })
  | Err fault ↦ Err fault
]

-- each open and each joining takes one script
pub record OpensScript (old : Scripts) (result : Result ScriptSteps Fault) (new : Scripts) : Type 0 where
  pub answer : result ≡ opened_by (slice_get old.scripts 0)
  pub left : new.scripts ≡ drop 1 old.scripts

-- ---- ReadsScript and writes

-- the bytes of a step for a read
abbrev pub step_bytes : Option Step → List ℕ
step_bytes None = []
step_bytes (Some (Bytes bytes)) = bytes.items
step_bytes (Some (Take n)) = []
step_bytes (Some (Fail fault)) = []

-- a read of so many bytes: what fits of the step's bytes, else none
abbrev pub read_by : Option Step → ℕ → Result ℕ Fault
read_by None asked = Ok 0
read_by (Some (Bytes bytes)) asked = Ok (min asked (length bytes.items))
read_by (Some (Take n)) asked = Ok 0
read_by (Some (Fail fault)) asked = Err fault

-- a write of so many bytes: as many as the step takes, else all
abbrev pub written_by : Option Step → ℕ → Result ℕ Fault
written_by None asked = Ok asked
written_by (Some (Bytes bytes)) asked = Ok asked
written_by (Some (Take n)) asked = Ok (min asked n)
written_by (Some (Fail fault)) asked = Err fault

-- the buffer with bytes at its front, as many as fit
abbrev pub filled : List ℕ → List ℕ → List ℕ
filled bytes buf = take (length buf) bytes ++ drop (length bytes) buf

-- each read takes one step, also one that is not for it
pub record ReadsScript (old : ScriptSteps) (buf : List ℕ) (result : Result ℕ Fault) (now : List ℕ) (new : ScriptSteps) :
    Type 0 where
  pub answer : result ≡ read_by (slice_get old.steps 0) (length buf)
  pub bytes : now ≡ filled (step_bytes (slice_get old.steps 0)) buf
  pub left : new.steps ≡ drop 1 old.steps
  pub finish : new.finished ≡ old.finished

-- each write takes one step, also one that is not for it
pub record WritesScript (old : ScriptSteps) (bytes : List ℕ) (result : Result ℕ Fault) (new : ScriptSteps) : Type 0
  where
    pub answer : result ≡ written_by (slice_get old.steps 0) (length bytes)
    pub left : new.steps ≡ drop 1 old.steps
    pub finish : new.finished ≡ old.finished

-- ---- The end

abbrev pub FinishesScript : ScriptSteps → Finished → Type 0
FinishesScript old result = result.outcome ≡ old.finished
