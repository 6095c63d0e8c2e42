-- What a state keeps beside its heap.
use Rattle.jlr_machine.specs.declared.machine.Machine.{Machine}
use Rattle.jlr_state.specs.declared.state.State.{State}
use Rattle.jlr_state.specs.State.{frame}

abbrev pub frame_of : {R : Type 0} → State R → Machine
frame_of s = frame s.cleaner s.cycle_open
