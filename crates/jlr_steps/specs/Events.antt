-- What an event and its reply are to the machine, for crates above: the definitions are those of the state.
pub use Rattle.jlr_state.specs.Events.{EntersLegally, MayWantMemory, WantsMemory, carries_none}
pub use Rattle.jlr_state.specs.Flows.{GoesOut}
pub use Rattle.jlr_state.specs.State.{entry_of}
pub use Rattle.jlr_state.specs.TakeUps.{handed_out, take_up_answered}
