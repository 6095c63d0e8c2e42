-- What a call on a heap in the same process is.
pub mod Entries
pub mod Guards
pub mod Files
pub mod Recording
-- For crates above.
pub use Rattle.jlr_steps.specs.Cores
pub use Rattle.jlr_steps.specs.Steps
pub use Rattle.jlr_embed.specs.Kinds
pub use Rattle.jlr_embed.specs.Settling
