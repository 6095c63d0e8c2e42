pub mod Typing
pub mod Forms
pub mod Lines
pub mod Rows
pub mod Passing
