pub mod CoreSteps
pub mod Ranges
pub mod Starts
pub mod Ticks
