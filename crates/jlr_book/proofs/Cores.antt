-- For crates above.
pub use Rattle.jlr_steps.proofs.Ranges.{limits_hold}
pub use Rattle.jlr_steps.proofs.Starts.{stands_at_start}
