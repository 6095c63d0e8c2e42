-- Reading order.
pub mod Lines
pub mod Feeding
pub mod Stream
pub mod Texts
pub mod Commands
pub mod Spelling
pub mod Replies
-- How lines are read, which no public clause names.
pub mod Fields
pub mod Reading
