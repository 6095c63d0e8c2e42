pub mod Fits
pub mod Changes
pub mod Counts
pub mod Making
pub mod Replaying
