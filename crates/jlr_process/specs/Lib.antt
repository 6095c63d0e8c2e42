-- Reading order.
pub mod Settling
pub mod Flipping
