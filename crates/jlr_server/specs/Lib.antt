-- Reading order.
pub mod Serving
pub mod Tallies
