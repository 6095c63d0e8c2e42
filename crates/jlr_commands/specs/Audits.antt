-- What the audit of bytes comes to.
use Rattle.std.specs.Prelude.{◌≡◌, ◌⊎◌, ℕ, List, [], ◌∷◌, ◌++◌, Option, Some, None, Result, MatchResult, alloc_error}
use Rattle.std.specs.Prelude.{codes, decimal, length}
use Rattle.jlr_trace_fields.specs.declared.version.Version.{Version}
use Rattle.jlr_trace_fields.specs.declared.version.Version.TheVariants.{One, Two}
use Rattle.jlr_trace.specs.declared.file.TraceFile.{TraceFile}
use Rattle.jlr_trace.specs.declared.file.TraceFault.{TraceFault}
use Rattle.jlr_trace.specs.declared.file.TraceFault.TheVariants.{Truncated, BadMark, BadVersion, BadEntry, NoMemory}
use Rattle.jlr_trace.specs.declared.window.StreamFault.{StreamFault}
use Rattle.jlr_trace.specs.declared.window.StreamFault.TheVariants.{Unread, Damaged}
use Rattle.jlr_trace.specs.Files.{HasSpelling, file_text, spelled_file, file_read, FileFails}
use Rattle.jlr_audit.specs.declared.verdict.Verdict.{Verdict}
use Rattle.jlr_audit.specs.declared.verdict.Verdict.TheVariants.{Legal, Illegal}
use Rattle.jlr_audit.specs.Verdicts.{IsFileVerdict}
use Rattle.jlr_commands.specs.declared.audit.Judged.{Judged}
use Rattle.jlr_command_line.specs.declared.fault.ProgramFault.{ProgramFault}
use Rattle.jlr_command_line.specs.declared.fault.ProgramFault.TheVariants as program

-- the bytes spell a history with so many entries behind so many others, in this version, and this is the verdict on it
pub record IsJudged (bytes : List ℕ) (j : Judged) : Type 0 where
  pub file : TraceFile
  pub spelling : HasSpelling file
  pub spelled : bytes ≡ spelled_file (file_text file)
  pub verdict : IsFileVerdict file j.verdict
  pub entries : j.entries ≡ length file.entries
  pub base : j.base ≡ file.base
  pub version : j.version ≡ file.version

-- what a fault of a trace file is to the program
abbrev pub damage : TraceFault → ProgramFault
damage Truncated = program.TraceTruncated
damage BadMark = program.BadMark
damage BadVersion = program.BadVersion
damage (BadEntry k) = program.BadEntry k
damage NoMemory = program.NoMemory alloc_error

-- the fault is the first one of the bytes, or that memory ran out
abbrev pub IsDamage : List ℕ → ProgramFault → Type 0
IsDamage bytes fault = (first : TraceFault) × FileFails first (file_read bytes) × (fault ≡ damage first)

-- a read failed, or there was no memory
abbrev pub IsUnread : ProgramFault → Type 0
IsUnread (program.CannotRead place) = Unit {0}
IsUnread (program.NoMemory error) = Unit {0}
IsUnread _ = ⊥

-- what a fault of a stream is to the program
abbrev pub TellsStreamFault : StreamFault → ProgramFault → Type 0
TellsStreamFault (Unread kind) fault = IsUnread fault
TellsStreamFault (Damaged first) fault = fault ≡ damage first

-- ---- Of all bytes that a reader gives, where they are known

abbrev pub IsStreamJudged : Option (List ℕ) → Judged → Type 0
IsStreamJudged None j = Unit {0}
IsStreamJudged (Some bytes) j = IsJudged bytes j

abbrev pub IsStreamDamage : Option (List ℕ) → ProgramFault → Type 0
IsStreamDamage None fault = Unit {0}
IsStreamDamage (Some bytes) fault = IsUnread fault ⊎ IsDamage bytes fault

-- ---- What is told of a verdict

abbrev pub number_of_version : Version → ℕ
number_of_version One = 1
number_of_version Two = 2

-- how many entries are legal, or which is the first that is not
abbrev pub verdict_text : Verdict → ℕ → List ℕ
verdict_text Legal entries = codes "legal " ++ decimal entries
verdict_text (Illegal k) entries = codes "illegal " ++ decimal k

abbrev pub version_text : Version → List ℕ
version_text version = codes " version " ++ decimal (number_of_version version)

abbrev pub verdict_line : Judged → List ℕ
verdict_line j = verdict_text j.verdict j.entries ++ version_text j.version ++ 10 ∷ []

-- an entry, or the image, is not legal
abbrev pub TellsIllegal : Verdict → ProgramFault → Type 0
TellsIllegal verdict fault = (fault ≡ program.Illegal) × ((k : ℕ) × (verdict ≡ Illegal k))

-- what the program comes to: well where the verdict is legal, and `Illegal` where it is not
abbrev pub IsVerdictOutcome : Verdict → Result (Unit {0}) ProgramFault → Type 0
IsVerdictOutcome verdict result = MatchResult result (λ _. verdict ≡ Legal) (TellsIllegal verdict)

-- the bytes spell a legal history
abbrev pub IsStreamLegal : Option (List ℕ) → Type 0
IsStreamLegal bytes = (j : Judged) × IsStreamJudged bytes j × (j.verdict ≡ Legal)
