-- What an error of the system is to a session.
use Rattle.std.specs.declared.io.ErrorKind.{ErrorKind}
use Rattle.std.specs.declared.io.ErrorKind.TheVariants as kind
use Rattle.jlr_types.specs.declared.Fault.{Fault}
use Rattle.jlr_types.specs.declared.Fault.TheVariants.{NotFound, Denied, Other}

abbrev pub fault_of_kind : ErrorKind → Fault
fault_of_kind kind.NotFound = NotFound
fault_of_kind kind.PermissionDenied = Denied
fault_of_kind _ = Other
