pub mod Names
pub mod Blanks
pub mod Changing
pub mod Orders
pub mod Steps
pub mod Short
