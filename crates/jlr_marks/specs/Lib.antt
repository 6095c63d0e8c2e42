-- Reading order.
pub mod Marking
