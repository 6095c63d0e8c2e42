pub mod Runs
pub mod Steps
pub mod Owing
pub mod OpenCounts
pub mod Turns
pub mod Jobs
pub mod Opening
pub mod Plain
