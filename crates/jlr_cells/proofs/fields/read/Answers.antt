use Rattle.std.proofs.Common.{rules, ◌∙◌, sym, ap, arith, w64, get_or, pos}
use Rattle.std.specs.Prelude.{FitsSigned}
use Rattle.std.proofs.lemmas.Int.{to_z-of_z}
use Rattle.std.proofs.lemmas.Option.{slice_get_past}
use Rattle.jlr_cells.specs.Words.{fields_of, value_in}
use Rattle.jlr_cells.specs.declared.fields.Place.TheVariants.{Absent}
use Rattle.jlr_cells.proofs.Writing.{field_at_place, at_most_eight}
use Rattle.jlr_cells.proofs.fields.read.Goals as goal

pub returns-then-field-lt8-clause-value : goal.returns-then-field-lt8-clause-value
returns-then-field-lt8-clause-value c =
    let place = get_or c.args.places.now c.args.field Absent in
    let word = get_or c.args.words.now c.args.field (pos 0) in
    let fits : FitsSigned w64 word = search rules in
    c.value_in.ensures ∙ ap (value_in place) (to_z-of_z w64 word fits)
    ∙ field_at_place _ _ c.args.field c.requires (omega (arith, c.requires.eight_places, c.if-field-lt8.true))

pub returns-else-field-lt8-clause-value : goal.returns-else-field-lt8-clause-value
returns-else-field-lt8-clause-value c = sym (slice_get_past (fields_of c.args.places.now c.args.words.now) c.args.field
    (omega (arith, c.if-field-lt8.false, at_most_eight _ _ c.requires)))
