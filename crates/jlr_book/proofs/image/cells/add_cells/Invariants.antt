use Rattle.std.proofs.Common.{◌≡◌, ◌+◌, None, replicate, vec_len}
use Rattle.jlr_book.proofs.image.cells.add_cells.Given as goal

abbrev pub invariant-loop : goal.invariant-loop
invariant-loop l = (l.cells.items ≡ replicate (vec_len l.cells) None) × (vec_len l.cells ≡ vec_len l.fn.cells + l.counter)
