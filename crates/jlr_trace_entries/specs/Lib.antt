pub mod Choices
pub mod Entries
pub mod Images
pub mod Writing
pub mod Asks
pub mod Answers
