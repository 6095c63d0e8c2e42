use Rattle.std.proofs.Common.{◌≡◌, ℕ, ◌+◌, length, ap, arith, ◌∙◌}
use Rattle.jlr_plain.specs.Records.{replayed}
use Rattle.jlr_plain.proofs.Records.{as_many}
use Rattle.jlr_book.specs.Histories.{History, last}
use Rattle.jlr_book.proofs.book.Book.last.Goals as goal

pub overflow_add-result : goal.overflow_add-result
overflow_add-result g c =
    let old = c.self.inside in
    let l = old.trace.ok.0 in
    let m = as_many old.image old.trace.items in
    omega (arith, l, m, c.len.ensures, c.self.invariant.history.fits)

pub returns : goal.returns
returns g c =
    let old = c.self.inside in
    let l = old.trace.ok.0 in
    let m = as_many old.image old.trace.items in
    let same : old.base + c.len.result ≡ old.base + length (replayed old.image old.trace.items) = omega (arith, l, m, c.len.ensures) in
    same ∙ ap {A = History g.row.R.Denot} {B = ℕ} last c.self.view_is
