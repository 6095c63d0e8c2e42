-- Reading order.
pub mod News
pub mod Giving
