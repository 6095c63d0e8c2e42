use Rattle.std.proofs.Common.{◌≡◌, ◌<◌, ◌∙◌, ap, arith, length, set, subst, sym}
use Rattle.std.proofs.lemmas.List.{map-set}
use Rattle.std.specs.Prelude.{map}
use Rattle.jlr_cells.specs.Kinds.{AreFound, shown_kind}
use Rattle.jlr_cells.proofs.Labels.{found_set}
use Rattle.jlr_cells.proofs.kinds.Kinds.set.Goals as goal

pub invariant_of-self : goal.invariant_of-self
invariant_of-self c =
    let labels = c.self.inside.labels.items in
    let kinds = map shown_kind labels in
    let cleanables = c.note_cleanable.new.cleanables in
    let arrays = c.note_array.new.arrays in
    let s = c.args.slot in
    let shown : map shown_kind (set labels c.number.result c.label_of.result) ≡ set kinds s c.args.kind =
    map-set shown_kind labels c.number.result c.label_of.result ∙ ap (set kinds c.number.result) c.label_of.ensures
    ∙ ap (λ n. set kinds n c.args.kind) c.number.ensures in
    let below : s < length kinds = omega (arith, c.requires, ap length c.self.view_is) in
    let found : AreFound (set kinds s c.args.kind) cleanables arrays =
    found_set kinds c.self.inside.cleanables c.self.inside.arrays cleanables arrays s c.args.kind c.self.invariant below
    c.note_cleanable.ensures.cleanable c.note_cleanable.ensures.others c.note_cleanable.ensures.places
    c.note_array.ensures.array c.note_array.ensures.others c.note_array.ensures.places in
    subst (λ l. AreFound l cleanables arrays) (sym shown) found

pub returns : goal.returns
returns c =
    let labels = c.self.inside.labels.items in
    map-set shown_kind labels c.number.result c.label_of.result
    ∙ ap (set (map shown_kind labels) c.number.result) c.label_of.ensures
    ∙ ap (λ n. set (map shown_kind labels) n c.args.kind) c.number.ensures
    ∙ ap (λ l. set l c.args.slot c.args.kind) c.self.view_is
