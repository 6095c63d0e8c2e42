-- The table of resources: what it holds, as the machine lists it, and what the calls change.
pub mod Resources
pub mod Places
