-- Values that are named by their places in a table.
use Rattle.std.specs.Prelude.{ℕ, List, [], ◌∷◌}
use Rattle.jlr_types.specs.declared.Fault.{Fault as DeviceFault}
use Rattle.jlr_types.specs.declared.Fault.TheVariants.{NotFound, Denied, Other}
use Rattle.jlr_types.specs.declared.RefKind.{RefKind}
use Rattle.jlr_types.specs.declared.RefKind.TheVariants.{Soft, Weak, Phantom}
use Rattle.jlr_machine.specs.declared.object.RefState.{RefState}
use Rattle.jlr_machine.specs.declared.object.RefState.TheVariants.{Fresh, Pending, Queued, Removed}
use Rattle.jlr_machine.specs.declared.object.CleanState.{CleanState}
use Rattle.jlr_machine.specs.declared.object.CleanState.TheVariants.{Armed, Pending as PendingClean, Lined, Spent}
use Rattle.jlr_machine.specs.declared.machine.ResourceState.{ResourceState}
use Rattle.jlr_machine.specs.declared.machine.ResourceState.TheVariants.{Opening, Idle, Out, Closing}

abbrev pub ref_kinds : List RefKind
ref_kinds = Soft ∷ Weak ∷ Phantom ∷ []

abbrev pub ref_kind_number : RefKind → ℕ
ref_kind_number Soft = 0
ref_kind_number Weak = 1
ref_kind_number Phantom = 2

abbrev pub ref_states : List RefState
ref_states = Fresh ∷ Pending ∷ Queued ∷ Removed ∷ []

abbrev pub ref_state_number : RefState → ℕ
ref_state_number Fresh = 0
ref_state_number Pending = 1
ref_state_number Queued = 2
ref_state_number Removed = 3

abbrev pub clean_states : List CleanState
clean_states = Armed ∷ PendingClean ∷ Lined ∷ Spent ∷ []

abbrev pub clean_state_number : CleanState → ℕ
clean_state_number Armed = 0
clean_state_number PendingClean = 1
clean_state_number Lined = 2
clean_state_number Spent = 3

abbrev pub resource_states : List ResourceState
resource_states = Opening ∷ Idle ∷ Out ∷ Closing ∷ []

abbrev pub resource_state_number : ResourceState → ℕ
resource_state_number Opening = 0
resource_state_number Idle = 1
resource_state_number Out = 2
resource_state_number Closing = 3

-- counted from 1
abbrev pub faults : List DeviceFault
faults = NotFound ∷ Denied ∷ Other ∷ []

abbrev pub fault_number : DeviceFault → ℕ
fault_number NotFound = 1
fault_number Denied = 2
fault_number Other = 3
