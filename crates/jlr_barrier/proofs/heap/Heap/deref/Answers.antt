use Rattle.std.proofs.Common.{◌∙◌, arith, length-set, slice_set, sym}
use Rattle.jlr_barrier.specs.Graphs.{gotten_at}
use Rattle.jlr_barrier.proofs.Fitting.{object_within}
use Rattle.jlr_barrier.proofs.Rooting.{given_referent_fits}
use Rattle.jlr_barrier.proofs.heap.Heap.deref.Goals as goal

pub shade_target-requires : goal.shade_target-requires
shade_target-requires c =
    let s = c.self.inside in
    let object = rw (← c.self.view_is) at c.requires in
    let there = rw (← c.self.view_is) at c.in_ok-referent.ensures in
    λ x e. (let here = object_within s.cells.objects x (object x (sym there ∙ e)) in omega (arith, here, c.self.invariant.bits))

pub invariant_of-self : goal.invariant_of-self
invariant_of-self c =
    let s = c.self.inside in
    let there = rw (← c.self.view_is) at c.in_ok-referent.ensures in
    given_referent_fits _ _ _ c.shade_target.new.marks (slice_set s.last_gets.items c.number.result s.collections) c.in_ok-referent.referent
    (gotten_at s.cells.objects c.args.slot) c.self.invariant (sym there) c.shade_target.ensures
    (length-set s.last_gets.items c.number.result s.collections) (rw (← c.self.view_is) at c.requires)
