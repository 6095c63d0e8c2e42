-- What a core is seen as, and what its steps are, for crates above: the definitions are those of the core and of its
-- state.
pub use Rattle.jlr_steps.specs.Cores.{Kept, StandsIn}
pub use Rattle.jlr_steps.specs.Steps.{IsStep, Steps}
pub use Rattle.jlr_steps.specs.Events.{EntersLegally, GoesOut, MayWantMemory, WantsMemory, entry_of, handed_out}
pub use Rattle.jlr_steps.specs.Events.{take_up_answered}
