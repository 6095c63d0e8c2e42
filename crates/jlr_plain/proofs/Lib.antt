pub mod Applying
pub mod Advancing
pub mod Small
pub mod Followed
pub mod Records
