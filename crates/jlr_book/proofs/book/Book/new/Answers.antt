use Rattle.std.proofs.Common.{◌≡◌, ℕ, arith, ap, subst, sym, ◌∙◌}
use Rattle.jlr_machine.specs.Choices.{Choosing}
use Rattle.jlr_plain.specs.Records.{replayed}
use Rattle.jlr_book.specs.Histories.{IsHistory}
use Rattle.jlr_book.proofs.Histories.{nothing_owed, starts, told}
use Rattle.jlr_book.proofs.book.Book.new.Goals as goal

pub invariant_of-result : goal.invariant_of-result
invariant_of-result g c =
    let limits = c.args.limits in
    let core = c.in_ok-core.core in
    let image = c.new-3.result in
    let owes = nothing_owed limits core c.in_ok-core.ensures.empty.machine in
    let cells : c.in_ok-choice.choice.cells ≡ limits.cells = ap {A = Choosing} {B = ℕ} (λ x. x.cells) c.in_ok-choice.ensures in
    record {
      history = subst (λ xs. IsHistory (told limits 0 image (replayed image xs) core)) (sym c.new-4.ensures.items)
          (starts limits image core c.in_ok-core.ensures.empty.machine (c.new-3.ensures ∙ sym c.in_ok-core.ensures.empty.machine));
      places = omega (arith, owes, c.new-4.ensures.len);
      choice = omega (arith, cells);
    }
