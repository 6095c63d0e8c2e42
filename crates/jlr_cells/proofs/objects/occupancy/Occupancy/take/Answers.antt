use Rattle.std.proofs.Common.{◌-◌, ap, arith, length, sym, subst, set, true}
use Rattle.jlr_cells.specs.Occupying.{AreUsed, Occupied, taken}
use Rattle.jlr_cells.proofs.Using.{taken_one}
use Rattle.jlr_cells.proofs.objects.occupancy.Occupancy.take.Goals as goal

pub free_cell-slot-requires : goal.free_cell-slot-requires
free_cell-slot-requires c = omega (
  arith,
  c.requires,
  c.self.invariant.counted,
  c.self.invariant.places,
  ap taken c.self.view_is,
  ap (λ (o : Occupied). o.condemned) c.self.view_is,
  ap (λ (o : Occupied). length o.places) c.self.view_is,
)

pub insert-requires-2 : goal.insert-requires-2
insert-requires-2 c = omega (arith, c.free_cell-slot.ensures.within, c.self.invariant.places)

pub overflow_sub-self : goal.overflow_sub-self
overflow_sub-self c = omega (
  arith,
  c.requires,
  c.self.invariant.counted,
  c.self.invariant.left,
  c.self.invariant.places,
  ap taken c.self.view_is,
  ap (λ (o : Occupied). o.condemned) c.self.view_is,
  ap (λ (o : Occupied). length o.places) c.self.view_is,
)

pub invariant_of-self : goal.invariant_of-self
invariant_of-self c =
    let s = c.self.inside in
    let n = c.free_cell-slot.result in
    subst (λ u. AreUsed (record { places = c.insert-2.new.self; used = u; condemned = s.condemned }) (s.free - 1))
    (sym c.insert.ensures.set)
    (subst (λ p. AreUsed (record { places = p; used = set s.used n true; condemned = s.condemned }) (s.free - 1))
    (sym c.insert-2.ensures.set)
    (taken_one _ s.free c.self.invariant n c.free_cell-slot.ensures.within c.free_cell-slot.ensures.free))
