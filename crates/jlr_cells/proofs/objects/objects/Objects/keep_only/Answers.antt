use Rattle.std.proofs.Common.{◌∙◌, ap, sym, subst, arith}
use Rattle.jlr_machine.specs.Objects.{occupied}
use Rattle.jlr_cells.specs.Showing.{shown}
use Rattle.jlr_cells.proofs.Showing.{occupied-shown, shown_twice}
use Rattle.jlr_cells.specs.Holding.{AreShown, Holding}
use Rattle.jlr_cells.proofs.Shown.{counted, in_set, kept_are, long}
use Rattle.jlr_cells.proofs.objects.objects.Objects.keep_only.Goals as goal

pub keep-requires-clause-places : goal.keep-requires-clause-places
keep-requires-clause-places c = omega (
  arith,
  c.requires.places,
  c.self.invariant.places,
  long c.self.inside.store c.self.inside.occupancy.places c.self.inside.occupancy.used c.self.inside.listed c.self.invariant
      c.args.self.now.objects (ap (λ (h : Holding). h.objects) c.self.view_is),
)

pub keep-requires-clause-objects : goal.keep-requires-clause-objects
keep-requires-clause-objects c = λ s h. in_set c.self.inside.store c.self.inside.occupancy.places c.self.inside.occupancy.used
    c.self.inside.listed c.self.invariant c.args.self.now.objects (ap (λ (h : Holding). h.objects) c.self.view_is) s
    (c.requires.objects s h)

pub invariant_of-self : goal.invariant_of-self
invariant_of-self c =
    let e = c.clear_lists.ensures in
    subst (λ k. AreShown c.clear_lists.new.store k c.keep.new.self.used c.clear_lists.new.listed) (sym c.keep.ensures.places)
    (subst (λ u. AreShown c.clear_lists.new.store c.args.kept.now u c.clear_lists.new.listed) (sym c.keep.ensures.used)
    (kept_are c.self.inside.store c.self.inside.occupancy.places c.self.inside.occupancy.used c.self.inside.listed c.self.invariant
    c.args.self.now.objects (ap (λ (h : Holding). h.objects) c.self.view_is) c.args.kept.now _ _ c.requires.places c.requires.objects
    e.used e.places e.queues e.arrays e.members))

pub returns-clause-objects : goal.returns-clause-objects
returns-clause-objects c =
    let kept = c.args.kept.now in
    ap (λ k. shown k c.clear_lists.new.store) c.keep.ensures.places
    ∙ c.clear_lists.ensures.same
    ∙ sym (shown_twice kept c.self.inside.occupancy.places c.self.inside.store
    (λ s h. in_set c.self.inside.store c.self.inside.occupancy.places c.self.inside.occupancy.used c.self.inside.listed c.self.invariant
    c.args.self.now.objects (ap (λ (h : Holding). h.objects) c.self.view_is) s (c.requires.objects s h)))
    ∙ ap (λ (h : Holding). shown kept h.objects) c.self.view_is

pub returns-clause-condemned : goal.returns-clause-condemned
returns-clause-condemned c =
    let e = c.clear_lists.ensures in
    let kept = c.args.kept.now in
    let are = kept_are c.self.inside.store c.self.inside.occupancy.places c.self.inside.occupancy.used c.self.inside.listed c.self.invariant
    c.args.self.now.objects (ap (λ (h : Holding). h.objects) c.self.view_is) kept _ _ c.requires.places c.requires.objects e.used
    e.places e.queues e.arrays e.members in
    let now = ap (λ p. shown p c.clear_lists.new.store) c.keep.ensures.places in
    let count = occupied-shown kept c.clear_lists.new.store are.places are.objects in
    omega (
      arith,
      c.keep.ensures.condemned,
      count,
      counted c.self.inside.store c.self.inside.occupancy.places c.self.inside.occupancy.used
          c.self.inside.listed c.self.invariant c.args.self.now.objects (ap (λ (h : Holding). h.objects) c.self.view_is),
      ap (λ (h : Holding). h.condemned) c.self.view_is,
      ap occupied now,
    )
