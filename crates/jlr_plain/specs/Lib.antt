pub mod Deciding
pub mod Following
pub mod Records
pub mod Unseen
