-- The exit statuses.
use Rattle.std.specs.Prelude.{ℕ}
use Rattle.jlr_command_line.specs.declared.fault.ProgramFault.{ProgramFault}
use Rattle.jlr_command_line.specs.declared.fault.ProgramFault.TheVariants.{Read, Write, CommandLine, Unfinished}
use Rattle.jlr_command_line.specs.declared.fault.ProgramFault.TheVariants.{TooManyLines, CannotRead, CannotSave}
use Rattle.jlr_command_line.specs.declared.fault.ProgramFault.TheVariants.{CannotListen, CannotConnect, NotEnded}
use Rattle.jlr_command_line.specs.declared.fault.ProgramFault.TheVariants.{Disagree, Illegal, TraceTruncated, BadMark}
use Rattle.jlr_command_line.specs.declared.fault.ProgramFault.TheVariants.{BadVersion, BadEntry, NotJoined, NoMemory}

-- the status that the program ends with
abbrev pub status_of : ProgramFault → ℕ
status_of Read = 1
status_of Write = 1
status_of (CommandLine error) = 2
status_of Unfinished = 4
status_of TooManyLines = 4
status_of (CannotRead path) = 1
status_of (CannotSave path) = 1
status_of (CannotListen path) = 1
status_of (CannotConnect path) = 1
status_of NotEnded = 1
status_of (Disagree seat) = 3
status_of Illegal = 3
status_of TraceTruncated = 4
status_of BadMark = 4
status_of BadVersion = 4
status_of (BadEntry k) = 4
status_of NotJoined = 5
status_of (NoMemory error) = 5
