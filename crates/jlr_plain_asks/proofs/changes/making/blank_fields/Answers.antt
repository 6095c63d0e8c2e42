use Rattle.std.proofs.Common.{sym, arith}
use Rattle.jlr_plain_asks.proofs.Blanks.{blank_more, never_none}
use Rattle.jlr_plain_asks.proofs.changes.making.blank_fields.Goals as goal
use Rattle.jlr_plain_asks.proofs.changes.making.blank_fields.Goals.{in-Some+in_ok-push_blank, in_default}

pub loop-field-preserved : goal.loop-field-preserved
loop-field-preserved c =
    elim c.match-get.branch [
      | in-Some+in_ok-push_blank w ↦ blank_more c.args.layout.now c.loop-field.field w.in-Some.kind c.loop-field.out.items
          c.match-get.out.items (sym w.in-Some.ensures) c.loop-field.invariant
          (let e = w.in_ok-push_blank.ensures in let f = w.out-is in cc)
      | in_default w ↦ never_none c.args.layout.now c.loop-field.field
          (let h = c.loop-field-test.true in let e = c.len-field-end.ensures in omega (arith, h, e)) (sym w.in_default.ensures)
    ]
