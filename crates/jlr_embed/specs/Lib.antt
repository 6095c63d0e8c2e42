-- Which kind of answer each ask has, and what goes out with it; and what follows a collection.
pub mod Kinds
pub mod Standing
pub mod Settling
-- What a handle owns, what a call does to the heap behind it, and how its answer is told.
pub mod Held
pub mod Calls
pub mod Tells
pub mod Ways
-- What no clause of a crate above names.
pub mod OneEvent
-- For crates above.
pub use Rattle.jlr_steps.specs.Cores
pub use Rattle.jlr_steps.specs.Steps
