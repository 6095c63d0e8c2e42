use Rattle.std.proofs.Common.{arith}
use Rattle.jlr_sets.proofs.Absent.{is_clear, none_absent, within_absent}
use Rattle.jlr_sets.proofs.Counts.{all_counted}
use Rattle.jlr_cells.proofs.objects.search.free_cell.Goals as goal

pub unreachable-requires : goal.unreachable-requires
unreachable-requires c =
    let used = c.args.used.now in
    omega (arith, c.requires, all_counted used (λ s h. none_absent used s h (c.in-None-next_absent.ensures.first s (omega arith))))

pub returns-in-Some-clause-within : goal.returns-in-Some-clause-within
returns-in-Some-clause-within c = within_absent c.args.used.now c.in-Some.slot c.in-Some.ensures.first.inside

pub returns-in-Some-clause-free : goal.returns-in-Some-clause-free
returns-in-Some-clause-free c = is_clear c.args.used.now c.in-Some.slot c.in-Some.ensures.first.inside

pub returns-in-Some-next_absent-clause-within : goal.returns-in-Some-next_absent-clause-within
returns-in-Some-next_absent-clause-within c =
    within_absent c.args.used.now c.in-Some-next_absent.slot c.in-Some-next_absent.ensures.first.inside

pub returns-in-Some-next_absent-clause-free : goal.returns-in-Some-next_absent-clause-free
returns-in-Some-next_absent-clause-free c = is_clear c.args.used.now c.in-Some-next_absent.slot c.in-Some-next_absent.ensures.first.inside
