-- What an audit says of a history that comes as a stream.
use Rattle.std.specs.Prelude.{◌≡◌, List, Option, Some, None, Result, Ok}
use Rattle.jlr_machine.specs.declared.machine.Machine.{Machine}
use Rattle.jlr_machine.specs.declared.entry.Entry.{Entry}
use Rattle.jlr_trace_fields.specs.declared.parts.record.Placed.{Placed}
use Rattle.jlr_trace.specs.declared.file.TraceFault.{TraceFault}
use Rattle.jlr_audit.specs.declared.verdict.Verdict.{Verdict}
use Rattle.jlr_audit.specs.Verdicts.{IsVerdictWith}

-- these entries come, up to the end
abbrev pub AreComing : List Entry → Option (Result (List Entry) TraceFault) → Type 0
AreComing entries None = Unit {0}
AreComing entries (Some read) = read ≡ Ok entries

-- entries come up to the end, and this is the verdict on them
pub record IsStreamVerdict (strays : List Placed) (image : Machine) (coming : Option (Result (List Entry) TraceFault))
    (v : Verdict) : Type 0 where
  pub entries : List Entry
  pub come : AreComing entries coming
  pub verdict : IsVerdictWith strays image entries v

-- no other verdict holds on the entries that come
abbrev pub IsOnlyVerdict : List Placed → Machine → Option (Result (List Entry) TraceFault) → Verdict → Type 0
IsOnlyVerdict strays image None v = Unit {0}
IsOnlyVerdict strays image (Some read) v = (entries : List Entry) (w : Verdict) → read ≡ Ok entries
    → IsVerdictWith strays image entries w → w ≡ v
