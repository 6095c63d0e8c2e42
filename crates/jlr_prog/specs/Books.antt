-- The history of a book, for crates above: the definitions are those of the book.
pub use Rattle.jlr_book.specs.Histories.{History, last}
