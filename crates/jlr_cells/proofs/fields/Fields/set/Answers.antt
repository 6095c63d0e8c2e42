use Rattle.std.proofs.Common.{◌∙◌, ◌<◌, ap, length, set, sym, subst}
use Rattle.jlr_cells.specs.Words.{fields_of}
use Rattle.jlr_cells.proofs.Writing.{written_fields, written_are_fields}
use Rattle.jlr_cells.proofs.fields.Fields.set.Goals as goal

within : (c : goal.After-write) → c.args.field < length (fields_of c.self.inside.places c.self.inside.words)
within c = subst (λ l. c.args.field < length l) (sym c.self.view_is) c.requires

pub invariant_of-self : goal.invariant_of-self
invariant_of-self c = written_are_fields _ _ _ _ c.args.field c.args.value c.self.invariant c.write.ensures (within c)

pub returns-clause-new : goal.returns-clause-new
returns-clause-new c = written_fields _ _ _ _ c.args.field c.args.value c.write.ensures (within c)
    ∙ ap (λ l. set l c.args.field c.args.value) c.self.view_is
