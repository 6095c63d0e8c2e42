pub mod Files
pub mod ToEnd
pub mod Versions
pub mod Writing
pub mod Faults
pub mod Streams
pub mod Steady
pub mod Ranges
