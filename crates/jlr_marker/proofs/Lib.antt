pub mod Following
pub mod Elements
pub mod Totals
pub mod Passing
pub mod Whole
