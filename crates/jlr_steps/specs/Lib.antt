-- What a core is seen as, and what its steps are.
pub mod Events
pub mod Cores
pub mod Steps
pub mod Dispatch
pub mod Cycles
