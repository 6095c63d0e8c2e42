pub mod Settled
pub mod Whole
pub mod Gone
pub mod Twice
pub mod Unmarked
