-- What the arguments of calls stand for. What calls do is said by jlr_embed.
pub mod Layouts
