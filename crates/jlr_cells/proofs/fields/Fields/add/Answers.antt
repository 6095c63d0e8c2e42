use Rattle.std.proofs.Common.{◌≡◌, ◌∙◌, ◌++◌, ◌∷◌, [], ap, length}
use Rattle.jlr_cells.specs.Words.{fields_of}
use Rattle.jlr_cells.proofs.Writing.{added_fields, added_are_fields}
use Rattle.jlr_cells.proofs.fields.Fields.add.Goals as goal

here : (c : goal.After-write) → length (fields_of c.self.inside.places c.self.inside.words) ≡ c.args.field
here c = ap length c.self.view_is ∙ c.requires.here

pub invariant_of-self : goal.invariant_of-self
invariant_of-self c = added_are_fields _ _ _ _ c.args.field c.args.value c.self.invariant c.write.ensures (here c) c.requires.room

pub returns : goal.returns
returns c = added_fields _ _ _ _ c.args.field c.args.value c.self.invariant c.write.ensures (here c) c.requires.room
    ∙ ap (λ l. l ++ c.args.value ∷ []) c.self.view_is
