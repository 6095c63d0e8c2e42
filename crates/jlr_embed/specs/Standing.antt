-- A core stands for a machine.
use Rattle.jlr_machine.specs.declared.machine.Machine.{Machine}
use Rattle.jlr_steps.specs.Cores.{Kept, StandsIn}

abbrev pub StandsForMachine : {R : Type 0} → Kept R → Type 0
StandsForMachine core = (m : Machine) × StandsIn core m
