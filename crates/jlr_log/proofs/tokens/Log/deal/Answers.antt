use Rattle.std.proofs.Common.{arith, sym, ◌∙◌}
use Rattle.jlr_log.proofs.Moves.{deals_as}
use Rattle.jlr_log.proofs.tokens.Log.deal.Goals as goal

pub split_seat-token-requires : goal.split_seat-token-requires
split_seat-token-requires g c =
    let i = c.keeper.invariant in
    let log = c.args.self.now in (
      i.0 ∙ sym log.is,
      omega (arith, log.words),
      λ s h at. deals_as g.E.Owned.owner s.views c.keeper.inside.seat.id c.keeper.inside.seat.me.0 i.2 h at,
    )
