-- Reading order.
pub mod Collecting
