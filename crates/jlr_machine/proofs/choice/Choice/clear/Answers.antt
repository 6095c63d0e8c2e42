use Rattle.std.proofs.Common.{Bool, length, ap, arith, false, ◌∙◌}
use Rattle.std.proofs.lemmas.List.{length-replicate}
use Rattle.jlr_sets.specs.SlotSets.{slots_of}
use Rattle.jlr_machine.proofs.Members.{empty_slots}
use Rattle.jlr_machine.proofs.choice.Choice.clear.Goals as goal

pub invariant_of-self : goal.invariant_of-self
invariant_of-self c =
    let set = c.self.inside.kept in (
      rw c.clear-then-self.ensures (omega (arith, length-replicate {A = Bool} (length set) false, c.self.invariant.0)),
      omega (arith, c.clear-then-self-2.ensures.capacity, c.self.invariant.1),
      λ _. ap slots_of c.clear-then-self.ensures ∙ empty_slots (length set),
      λ _. c.clear-then-self-2.ensures.items,
    )
