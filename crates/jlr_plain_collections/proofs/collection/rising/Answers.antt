use Rattle.std.proofs.Common.{arith}
use Rattle.jlr_plain_collections.proofs.Slow.{rising_step, rising_all}
use Rattle.jlr_plain_collections.proofs.collection.rising.Goals as goal

pub loop-i-preserved : goal.loop-i-preserved
loop-i-preserved c =
    rising_step c.args.slots.now c.loop-i.i (let h = c.loop-i-test.true in omega (arith, h)) c.index-slots-i.result
    c.index-slots-i-in-loop-i.result c.index-slots-i.is c.index-slots-i-in-loop-i.is
    (let h = c.if-number.false in let a = c.number.ensures in let b = c.number-in-loop-i.ensures in omega (arith, a, b, h)) _
    c.loop-i.invariant

pub returns : goal.returns
returns c = rising_all c.args.slots.now c.loop-i.i (let h = c.loop-i-test.false in omega (arith, h)) _ c.loop-i.invariant
