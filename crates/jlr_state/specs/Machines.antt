-- The machine that a core's state is.
use Rattle.jlr_machine.specs.declared.machine.Machine.{Machine}
use Rattle.jlr_state.specs.declared.state.State.{State}
use Rattle.jlr_state.specs.State.{machine_with}

abbrev pub machine_of : {R : Type 0} → State R → Machine
machine_of s = machine_with s.cleaner s.heap.graph s.cycle_open
