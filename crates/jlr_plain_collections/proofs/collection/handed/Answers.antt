use Rattle.std.proofs.Common.{sym, ◌∙◌, ◌<◌, subst}
use Rattle.jlr_plain_collections.proofs.Losing.{lose_below}
use Rattle.jlr_plain_collections.proofs.collection.handed.Goals as goal

pub distinct_below-requires : goal.distinct_below-requires
distinct_below-requires c s m = subst (λ n. s < n) (sym c.len.ensures)
    (lose_below c.args.objects.now c.args.kept.now c.args.pending.now (sym c.all_lose.ensures ∙ c.if-not-all_lose.false) s m)
