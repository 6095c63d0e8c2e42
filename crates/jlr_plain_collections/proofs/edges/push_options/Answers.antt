use Rattle.std.proofs.Common.{◌++◌, filter_map, sym, ◌∙◌, ap}
use Rattle.jlr_plain_collections.proofs.Slow.{loop_more, handles_append, one_field}
use Rattle.jlr_plain_collections.proofs.edges.push_options.Goals as goal

pub loop-slot-preserved : goal.loop-slot-preserved
loop-slot-preserved c =
    loop_more (filter_map (λ s. s)) handles_append c.args.slots.now c.loop-slot.slot-index c.slot-item.result c.args.out.now.items
    c.loop-slot.out.items c.push_option.new.out.items c.loop-slot-test.true c.slot-item.is c.loop-slot.invariant
    (c.in_ok-push_option.ensures ∙ ap (λ l. c.loop-slot.out.items ++ l) (sym (one_field c.slot-item.result)))
