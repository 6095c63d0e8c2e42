use Rattle.std.proofs.Common.{◌-◌, ◌+◌, sym, subst, ap, arith}
use Rattle.jlr_sets.proofs.Below.{within_places}
use Rattle.jlr_cells.specs.Occupying.{AreUsed, Occupied}
use Rattle.jlr_cells.proofs.Using.{swept_one}
use Rattle.jlr_cells.proofs.objects.occupancy.Occupancy.sweep_one.Goals as goal

pub condemned_cell-slot-requires-clause-some : goal.condemned_cell-slot-requires-clause-some
condemned_cell-slot-requires-clause-some c =
    omega (arith, c.requires, c.self.invariant.counted, ap (λ (o : Occupied). o.condemned) c.self.view_is)

pub remove-requires : goal.remove-requires
remove-requires c = within_places c.self.inside.used c.condemned_cell-slot.result c.condemned_cell-slot.ensures.used

pub overflow_add-self : goal.overflow_add-self
overflow_add-self c = omega (
  arith,
  c.requires,
  c.self.invariant.counted,
  c.self.invariant.left,
  c.self.invariant.few,
  ap (λ (o : Occupied). o.condemned) c.self.view_is,
)

pub invariant_of-self : goal.invariant_of-self
invariant_of-self c =
    let s = c.self.inside in
    subst (λ u. AreUsed (record { places = s.occupied; used = u; condemned = s.condemned - 1 }) (s.free + 1)) (sym c.remove.ensures)
    (swept_one _ s.free c.self.invariant c.condemned_cell-slot.result c.condemned_cell-slot.ensures.used
    c.condemned_cell-slot.ensures.vacant)
