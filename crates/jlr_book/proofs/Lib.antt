pub mod Cores
pub mod Entering
pub mod Histories
pub mod Replies
pub mod Limits
pub mod Led
pub mod ImageKeeping
