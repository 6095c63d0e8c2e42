-- Reading order.
pub mod Following
pub mod Spending
pub mod Marks
