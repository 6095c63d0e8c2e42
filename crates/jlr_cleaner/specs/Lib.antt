-- The jobs that run, what becomes of a job, and all that a cleaner keeps: what its calls change, in the machine's
-- words.
pub mod Jobs
pub mod Outcomes
pub mod Cleanings
