-- Reading order.
pub mod SlotSets
pub mod Bits
