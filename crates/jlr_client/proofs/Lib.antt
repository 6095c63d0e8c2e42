pub mod Forms
pub mod Saying
pub mod Sending
