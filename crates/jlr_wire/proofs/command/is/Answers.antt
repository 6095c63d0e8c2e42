use Rattle.std.proofs.Common.{refl, sym, ◌∙◌}
use Rattle.jlr_wire.proofs.Words.{none_left, one_more}
use Rattle.jlr_wire.proofs.command.is.Goals as goal

pub loop-i-init : goal.loop-i-init
loop-i-init c = refl

pub loop-i-preserved : goal.loop-i-preserved
loop-i-preserved c =
    sym (one_more c.args.field.now c.args.word.now c.loop-i.i c.loop-i-test.true c.if-field-word.false c.if-field-i.false)
    ∙ c.loop-i.invariant

pub returns : goal.returns
returns c = sym (none_left c.args.field.now c.args.word.now c.loop-i.i c.loop-i-test.false c.if-field-word.false) ∙ c.loop-i.invariant
