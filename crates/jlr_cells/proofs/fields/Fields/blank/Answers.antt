use Rattle.jlr_cells.proofs.FieldLists.{blank_more}
use Rattle.jlr_cells.proofs.fields.Fields.blank.Goals as goal

pub loop-field-preserved : goal.loop-field-preserved
loop-field-preserved c = blank_more _ _ _ _ c.in-Some.kind _ c.loop-field.invariant c.in-Some.ensures c.blank.ensures c.add.ensures
