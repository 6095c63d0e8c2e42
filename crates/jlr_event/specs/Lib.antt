-- Which asks hand in a resource, and what events and replies are without theirs.
pub mod Asks
pub mod Events
