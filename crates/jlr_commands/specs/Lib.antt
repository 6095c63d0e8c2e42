pub mod Ends
pub mod Audits
pub mod Saving
pub mod Lines
pub mod Stopping
