-- What the end of a session is to the program.
use Rattle.std.specs.Prelude.{◌≡◌, ◌≢◌, Option, None, Some, Result, IsErrAnd, MatchResult}
use Rattle.jlr_session.specs.declared.shell.SessionEnd.{SessionEnd}
use Rattle.jlr_session.specs.declared.shell.SessionEnd.TheVariants.{Bye, End, Truncated, ReadFault, WriteFault}
use Rattle.jlr_session.specs.declared.shell.SessionEnd.TheVariants.{TooManyLines as ManyLines, NotJoined as RefusedJoin}
use Rattle.jlr_command_line.specs.declared.fault.ProgramFault.{ProgramFault}
use Rattle.jlr_command_line.specs.declared.fault.ProgramFault.TheVariants.{Read, Write, Unfinished, TooManyLines}
use Rattle.jlr_command_line.specs.declared.fault.ProgramFault.TheVariants.{NotJoined}
use Rattle.jlr_command_line.specs.Status.{status_of}

-- what the end of a session is to the program: nothing, or why it ends with a status other than 0
abbrev pub fault_after : SessionEnd → Option ProgramFault
fault_after Bye = None
fault_after End = None
fault_after Truncated = Some Unfinished
fault_after ReadFault = Some Read
fault_after WriteFault = Some Write
fault_after ManyLines = Some TooManyLines
fault_after (RefusedJoin by) = Some NotJoined

-- what the program comes to where a session ended so
abbrev pub IsOutcome : SessionEnd → Result (Unit {0}) ProgramFault → Type 0
IsOutcome end result = MatchResult result (λ _. fault_after end ≡ None) (λ fault. fault_after end ≡ Some fault)

-- there was no memory for the session
abbrev pub SessionOutOfMemory : Result (Unit {0}) ProgramFault → Type 0
SessionOutOfMemory result = IsErrAnd result (λ fault. (status_of fault ≡ 5) × (fault ≢ NotJoined))
