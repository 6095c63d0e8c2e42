use Rattle.std.proofs.Common.{◌∙◌, ap, sym, length, arith}
use Rattle.std.proofs.lemmas.List.{length-take-le}
use Rattle.jlr_sets.specs.SlotSets.{slots_of}
use Rattle.jlr_sets.proofs.Assigning.{shown_slots}
use Rattle.jlr_sets.proofs.cell_set.CellSet.copy_into.Goals as goal

pub assign-requires : goal.assign-requires
assign-requires c = λ slot h.
    omega (
      arith,
      c.self.invariant.1 slot h,
      c.requires,
      ap length c.self.view_is,
      length-take-le c.self.inside.cells c.self.inside.set c.self.invariant.0,
    )

pub returns-clause-slots : goal.returns-clause-slots
returns-clause-slots c =
    c.assign.ensures.slots
    ∙ sym (shown_slots c.self.inside.cells c.self.inside.set c.self.invariant.0 c.self.invariant.1)
    ∙ ap slots_of c.self.view_is
