mod Lowest
mod Members
mod Walking
pub mod Bindings
