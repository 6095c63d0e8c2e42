-- For crates above.
pub use Rattle.jlr_state.proofs.Ranges.{limits_hold}
