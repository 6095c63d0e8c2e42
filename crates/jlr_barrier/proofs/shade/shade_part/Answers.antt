use Rattle.std.proofs.Common.{◌≡◌, ◌+◌, ◌-◌, ◌≤◌, arith, length, subst}
use Rattle.jlr_machine.specs.Objects.{◌∈◌}
use Rattle.jlr_cells.specs.Links.{linked}
use Rattle.jlr_marks.specs.Marking.{Shaded}
use Rattle.jlr_barrier.proofs.Parts.{last_ones}
use Rattle.jlr_barrier.proofs.shade.shade_part.Goals as goal

pub returns-clause-shaded : goal.returns-clause-shaded
returns-clause-shaded c =
    let e = c.args.elements.now in
    let same : c.saturating_sub.result ≡ length e - c.args.from = omega (arith, c.saturating_sub.ensures, c.count-count.ensures.count) in
    let few : length e ≤ c.args.from + 64 = omega (arith, c.if-first-count.false, c.count-count.ensures.count) in
    subst (λ l. Shaded (λ x. x ∈ linked l) c.args.marks.now c.shade_elements-2.new.marks)
    (last_ones e c.args.from c.saturating_sub.result same few) c.shade_elements-2.ensures
