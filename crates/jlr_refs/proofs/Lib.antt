pub mod Changing
pub mod Enqueuing
pub mod Handing
pub mod Lining
pub mod InQueues
pub mod TakingUp
