use Rattle.std.proofs.Common.{◌-◌, ◌∙◌, ap, sym, subst, length, arith}
use Rattle.jlr_sets.specs.SlotSets.{is_in, slots_of}
use Rattle.jlr_cells.specs.Occupying.{AreUsed, Occupied, taken}
use Rattle.jlr_cells.proofs.Using.{kept_count, kept_used}
use Rattle.jlr_cells.proofs.objects.occupancy.Occupancy.keep.Goals as goal

pub overflow_sub-self-2 : goal.overflow_sub-self-2
overflow_sub-self-2 c =
    let s = c.self.inside in
    let kept = c.args.kept.now in
    omega (
      arith,
      c.count.ensures,
      c.cell_count.ensures,
      kept_count _ s.free c.self.invariant kept (c.requires.places ∙ ap (λ (o : Occupied). length o.places) (sym c.self.view_is))
          (λ k h. ap (λ (o : Occupied). is_in o.places k) c.self.view_is ∙ c.requires.objects k h),
    )

pub invariant_of-self : goal.invariant_of-self
invariant_of-self c =
    let s = c.self.inside in
    let kept = c.args.kept.now in
    subst (λ n. AreUsed (record { places = c.assign.new.self; used = s.used; condemned = c.cell_count.result - s.free - n }) s.free)
    (sym c.count.ensures)
    (subst (λ n. AreUsed (record { places = c.assign.new.self; used = s.used; condemned = n - s.free - length (slots_of kept) }) s.free)
    (sym c.cell_count.ensures)
    (subst (λ p. AreUsed (record { places = p; used = s.used; condemned = length s.used - s.free - length (slots_of kept) }) s.free)
    (sym c.assign.ensures)
    (kept_used _ s.free c.self.invariant kept (c.requires.places ∙ ap (λ (o : Occupied). length o.places) (sym c.self.view_is))
    (λ k h. ap (λ (o : Occupied). is_in o.places k) c.self.view_is ∙ c.requires.objects k h))))

pub returns-clause-condemned : goal.returns-clause-condemned
returns-clause-condemned c =
    let s = c.self.inside in
    let kept = c.args.kept.now in
    omega (
      arith,
      c.count.ensures,
      c.cell_count.ensures,
      c.self.invariant.counted,
      c.self.invariant.left,
      kept_count _ s.free c.self.invariant kept (c.requires.places ∙ ap (λ (o : Occupied). length o.places) (sym c.self.view_is))
          (λ k h. ap (λ (o : Occupied). is_in o.places k) c.self.view_is ∙ c.requires.objects k h),
      ap taken c.self.view_is,
      ap (λ (o : Occupied). o.condemned) c.self.view_is,
    )
