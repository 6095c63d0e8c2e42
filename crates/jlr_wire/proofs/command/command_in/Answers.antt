use Rattle.std.proofs.Common.{refl, sym, ap, ◌∙◌}
use Rattle.jlr_wire.specs.Reading.{reading}
use Rattle.jlr_wire.proofs.Splits.{split_last, split_next, over_is_none}
use Rattle.jlr_wire.proofs.command.command_in.Goals as goal

pub returns-in_default : goal.returns-in_default
unfolding reading
returns-in_default c = c.one_field.ensures ∙ sym (ap reading (split_last c.args.line.now c.in_default.ensures))

pub returns-in_default-cut_field : goal.returns-in_default-cut_field
unfolding reading
returns-in_default-cut_field c =
    let whole =
    split_next c.args.line.now c.in-Some.word.now c.in-Some.rest.now _ c.in-Some.ensures.0 c.in-Some.ensures.1
    (split_last c.in-Some.rest.now c.in_default-cut_field.ensures) in
    c.two_fields.ensures ∙ sym (ap reading whole)

pub returns-in_default-cut_field-2 : goal.returns-in_default-cut_field-2
unfolding reading
returns-in_default-cut_field-2 c =
    let whole =
    split_next c.args.line.now c.in-Some.word.now c.in-Some.rest.now _ c.in-Some.ensures.0 c.in-Some.ensures.1
    (split_next c.in-Some.rest.now c.in-Some-cut_field.a.now c.in-Some-cut_field.rest.now _ c.in-Some-cut_field.ensures.0
    c.in-Some-cut_field.ensures.1
    (split_last c.in-Some-cut_field.rest.now c.in_default-cut_field-2.ensures)) in
    c.three_fields.ensures ∙ sym (ap reading whole)

pub returns-in-Some-cut_field-3 : goal.returns-in-Some-cut_field-3
returns-in-Some-cut_field-3 c =
    let last = c.in-Some-cut_field-3.field-0 in
    let whole =
    split_next c.args.line.now c.in-Some.word.now c.in-Some.rest.now _ c.in-Some.ensures.0 c.in-Some.ensures.1
    (split_next c.in-Some.rest.now c.in-Some-cut_field.a.now c.in-Some-cut_field.rest.now _ c.in-Some-cut_field.ensures.0
    c.in-Some-cut_field.ensures.1
    (split_next c.in-Some-cut_field.rest.now c.in-Some-cut_field-2.b.now c.in-Some-cut_field-2.rest.now _ c.in-Some-cut_field-2.ensures.0
    c.in-Some-cut_field-2.ensures.1
    (split_next c.in-Some-cut_field-2.rest.now last.0.now last.1.now _ c.in-Some-cut_field-3.ensures.0 c.in-Some-cut_field-3.ensures.1
    refl))) in
    sym (ap reading whole ∙ over_is_none c.in-Some.word.now c.in-Some-cut_field.a.now c.in-Some-cut_field-2.b.now last.0.now last.1.now)

pub returns-in-None : goal.returns-in-None
unfolding reading
returns-in-None c =
    let whole =
    split_next c.args.line.now c.in-Some.word.now c.in-Some.rest.now _ c.in-Some.ensures.0 c.in-Some.ensures.1
    (split_next c.in-Some.rest.now c.in-Some-cut_field.a.now c.in-Some-cut_field.rest.now _ c.in-Some-cut_field.ensures.0
    c.in-Some-cut_field.ensures.1
    (split_next c.in-Some-cut_field.rest.now c.in-Some-cut_field-2.b.now c.in-Some-cut_field-2.rest.now _ c.in-Some-cut_field-2.ensures.0
    c.in-Some-cut_field-2.ensures.1
    (split_last c.in-Some-cut_field-2.rest.now c.in-None.ensures))) in
    c.four_fields.ensures ∙ sym (ap reading whole)
