-- What a core's state is, what collections do to it, and what the core's events mean.
pub mod State
pub mod Machines
pub mod Collecting
pub mod Rest
pub mod Flows
pub mod TakeUps
pub mod Waiting
pub mod Guards
pub mod Preparing
pub mod Policy
pub mod Marks
pub mod Events
