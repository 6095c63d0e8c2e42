-- Reading order.
pub mod Cores
pub mod Histories
pub mod Due
pub mod Rules
-- What no public clause names: kinds of asks, the room of an entry, the invariant of a book, and its parts' steps.
pub mod Kinds
pub mod Making
pub mod Keeping
pub mod Writing
pub mod Limits
pub mod Led
pub mod ImageKeeping
