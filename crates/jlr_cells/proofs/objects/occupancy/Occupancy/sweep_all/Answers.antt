use Rattle.std.proofs.Common.{◌+◌, sym, subst, arith}
use Rattle.jlr_cells.specs.Occupying.{AreUsed}
use Rattle.jlr_cells.proofs.Using.{swept_all}
use Rattle.jlr_cells.proofs.objects.occupancy.Occupancy.sweep_all.Goals as goal

pub overflow_add-self : goal.overflow_add-self
overflow_add-self c = omega (arith, c.self.invariant.counted, c.self.invariant.left, c.self.invariant.few)

pub invariant_of-self : goal.invariant_of-self
invariant_of-self c =
    let s = c.self.inside in
    subst (λ u. AreUsed (record { places = s.occupied; used = u; condemned = 0 }) (s.free + s.condemned)) (sym c.assign.ensures)
    (swept_all _ s.free c.self.invariant)
