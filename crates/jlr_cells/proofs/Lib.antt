mod Writing
mod Parts
mod FieldLists
pub mod Slots
mod LinkLists
mod Rows
mod Labels
pub mod ByKind
pub mod Queues
pub mod Showing
pub mod Images
mod Shown
mod Using
