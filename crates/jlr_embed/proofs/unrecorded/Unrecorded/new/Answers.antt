use Rattle.jlr_embed.proofs.Fitting.{room_for_all, stands_empty}
use Rattle.jlr_embed.proofs.unrecorded.Unrecorded.new.Goals as goal

pub invariant_of-result : goal.invariant_of-result
invariant_of-result g c =
    let l = c.args.limits in
    let e = c.in_ok-core.ensures.empty in (
      room_for_all c.in_ok-core.core c.in_ok-choice.choice l.cells l.sessions l.resources l.soft_age 1 e c.in_ok-choice.ensures,
      stands_empty c.in_ok-core.core l.cells l.sessions l.resources l.soft_age 1 e,
    )
