-- What an audit says of a history.
use Rattle.std.specs.Prelude.{◌≡◌, ℕ, zero, suc, ◌≤◌, List, [], ◌∷◌, Some, take, slice_get, length}
use Rattle.jlr_machine.specs.declared.machine.Machine.{Machine}
use Rattle.jlr_machine.specs.declared.entry.Entry.{Entry}
use Rattle.jlr_machine.specs.Run.{IsLegal, Run}
use Rattle.jlr_machine.specs.WellFormed.{IsImage}
use Rattle.jlr_trace_fields.specs.declared.parts.record.Placed.{Placed}
use Rattle.jlr_trace.specs.declared.file.TraceFile.{TraceFile}
use Rattle.jlr_audit.specs.declared.verdict.Verdict.{Verdict}
use Rattle.jlr_audit.specs.declared.verdict.Verdict.TheVariants.{Legal, Illegal}

-- each entry is legal where it stands
abbrev pub IsRun : Machine → List Entry → Type 0
IsRun m entries = (n : Machine) × Run m entries n

-- the entry at k, counted from 0, is the first that is not legal where it stands
pub record IsFirstIllegal (m : Machine) (entries : List Entry) (k : ℕ) : Type 0 where
  pub entry : Entry
  pub there : slice_get entries k ≡ Some entry
  pub before : Machine
  pub run : Run m (take k entries) before
  pub illegal : ¬ (IsLegal before entry)

-- so many of the first entries are legal where they stand, and the one behind them, if there is one, is not
pub record IsLegalFront (m : Machine) (entries : List Entry) (count : ℕ) : Type 0 where
  pub within : count ≤ length entries
  pub left : Machine
  pub run : Run m (take count entries) left
  pub stops : (e : Entry) → slice_get entries count ≡ Some e → ¬ (IsLegal left e)

-- Illegal 0 says that the image is none, Illegal k that the k-th entry, counted from 1, is the first that is not legal
abbrev pub IsVerdict : Machine → List Entry → Verdict → Type 0
IsVerdict image entries Legal = IsImage image × IsRun image entries
IsVerdict image entries (Illegal zero) = ¬ (IsImage image)
IsVerdict image entries (Illegal (suc k)) = IsImage image × IsFirstIllegal image entries k

-- with objects in slots that are no cells the image is none, whatever the rest
abbrev pub IsVerdictWith : List Placed → Machine → List Entry → Verdict → Type 0
IsVerdictWith [] image entries v = IsVerdict image entries v
IsVerdictWith (p ∷ strays) image entries v = v ≡ Illegal 0

-- the verdict on a trace file
abbrev pub IsFileVerdict : TraceFile → Verdict → Type 0
IsFileVerdict file v = IsVerdictWith file.strays file.image file.entries v
