use Rattle.std.proofs.Common.{arith, ap, length}
use Rattle.std.proofs.lemmas.List.{length-take}
use Rattle.jlr_cells.proofs.cell.Cell.image.Goals as goal

pub unwrap-fields-requires : goal.unwrap-fields-requires
unwrap-fields-requires c =
    let size = ap length c.loop-field.invariant in
    c.from_vec.ensures.fits.1
    (omega (arith, size, length-take c.loop-field.field c.in-Plain.fields, c.len.ensures.count, c.len.ensures.few))
