use Rattle.std.proofs.Common.{arith}
use Rattle.jlr_sets.proofs.Beyond.{is_set, kept_there, not_kept}
use Rattle.jlr_sets.proofs.Counts.{count_within}
use Rattle.jlr_cells.proofs.objects.search.condemned_cell.Goals as goal

pub unreachable-requires : goal.unreachable-requires
unreachable-requires c =
    let used = c.args.used.now in
    let occupied = c.args.occupied.now in
    omega (
      arith,
      c.requires.some,
      count_within used occupied c.requires.places
          (λ s h. kept_there used occupied s (c.in-None-next_beyond.ensures.first s (omega arith)) h),
    )

pub returns-in-Some-clause-used : goal.returns-in-Some-clause-used
returns-in-Some-clause-used c = is_set c.args.used.now c.args.occupied.now c.in-Some.slot c.in-Some.ensures.first.inside

pub returns-in-Some-clause-vacant : goal.returns-in-Some-clause-vacant
returns-in-Some-clause-vacant c = not_kept c.args.used.now c.args.occupied.now c.in-Some.slot c.in-Some.ensures.first.inside

pub returns-in-Some-next_beyond-clause-used : goal.returns-in-Some-next_beyond-clause-used
returns-in-Some-next_beyond-clause-used c =
    is_set c.args.used.now c.args.occupied.now c.in-Some-next_beyond.slot c.in-Some-next_beyond.ensures.first.inside

pub returns-in-Some-next_beyond-clause-vacant : goal.returns-in-Some-next_beyond-clause-vacant
returns-in-Some-next_beyond-clause-vacant c =
    not_kept c.args.used.now c.args.occupied.now c.in-Some-next_beyond.slot c.in-Some-next_beyond.ensures.first.inside
