-- Counts of failures, and what a script makes of calls.
pub mod Failures
pub mod Handling
pub mod Faults
pub mod Scripts
pub mod Queues
pub mod Gates
pub mod Paths
pub mod Fences
