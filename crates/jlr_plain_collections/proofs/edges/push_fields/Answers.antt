use Rattle.jlr_plain_collections.proofs.Slow.{one_more_field}
use Rattle.jlr_plain_collections.proofs.edges.push_fields.Goals as goal

pub loop-field-preserved : goal.loop-field-preserved
loop-field-preserved c = one_more_field c.args.fields.now c.loop-field.field-index c.field-item.result c.referred.result
    c.args.out.now.items c.loop-field.out.items c.push_option.new.out.items c.loop-field-test.true c.field-item.is c.referred.ensures
    c.loop-field.invariant c.in_ok-push_option.ensures
