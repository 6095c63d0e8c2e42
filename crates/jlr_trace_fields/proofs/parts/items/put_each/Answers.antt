use Rattle.std.proofs.Common.{sym, subst}
use Rattle.std.proofs.lemmas.List.Elements.{All-from_recursion}
use Rattle.jlr_trace_fields.proofs.parts.items.put_each.Goals as goal

pub write-requires : goal.write-requires
write-requires g c = subst g.T.Written.Counts (sym c.item-item.is)
    (All-from_recursion g.T.Written.Counts c.args.items.now c.requires c.loop-item.item-index c.item-item.result c.loop-item-test.true)
