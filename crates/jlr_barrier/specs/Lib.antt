-- Reading order.
pub mod Graphs
pub mod Parts
pub mod Snapshots
pub mod Scans
pub mod Guards
