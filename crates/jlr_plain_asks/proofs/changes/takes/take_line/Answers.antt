use Rattle.std.proofs.Common.{◌≡◌, ℕ, List, Some, length, slice_get, arith, ◌∙◌, ap}
use Rattle.jlr_machine.specs.declared.machine.Machine.{Machine}
use Rattle.jlr_machine.specs.Calls.{from_lined}
use Rattle.jlr_plain_asks.specs.Changes.{taken_by_cleaner}
use Rattle.jlr_plain_asks.proofs.Orders.{taken_by, unlined_many}
use Rattle.jlr_plain_asks.proofs.changes.takes.take_line.Goals as goal

pub overflow_sub-before : goal.overflow_sub-before
overflow_sub-before c =
    let m = c.args.machine.now in
    let lined : c.line_from-lined.result.now ≡ from_lined m m.line = c.line_from-lined.ensures
    ∙ ap {A = List ℕ} {B = List ℕ} (from_lined m) c.as_slice.ensures in
    let count : length c.line_from-lined.result.now ≡ length (from_lined m m.line) = ap {A = List ℕ} {B = ℕ} length lined in
    omega (arith, count, unlined_many m m.line, c.len.ensures)

pub returns-clause-ok : goal.returns-clause-ok
returns-clause-ok c =
    let m = c.args.machine.now in
    let n = c.take_up_first.new.machine in
    let lined : c.line_from-lined.result.now ≡ from_lined m m.line = c.line_from-lined.ensures
    ∙ ap {A = List ℕ} {B = List ℕ} (from_lined m) c.as_slice.ensures in
    let first : slice_get (from_lined m m.line) 0 ≡ Some c.in-Some.slot = let a = c.first.ensures.value in let b = c.copied.ensures in
    let d = c.in-Some.ensures in cc in
    let count : length c.line_from-lined.result.now ≡ length (from_lined m m.line) = ap {A = List ℕ} {B = ℕ} length lined in
    ap {A = List ℕ} {B = Machine} (λ l. record n { line = l }) c.drop_many.ensures
    ∙ taken_by m n c.in-Some.slot _ first (omega (arith, count, unlined_many m m.line, c.len.ensures))
    (c.in_ok-take_up_first.ensures.ok ∙ ap (taken_by_cleaner m c.in-Some.slot) c.cleanable_in-cleanable.ensures)
