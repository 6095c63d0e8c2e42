use Rattle.std.proofs.Common.{◌∙◌, Some, true, ap, sym, subst, refl, length, set, arith}
use Rattle.jlr_machine.specs.Objects.{Heap, at, set_at}
use Rattle.jlr_machine.specs.declared.object.Object.TheVariants.{Plain}
use Rattle.jlr_machine.specs.declared.object.Contents.TheVariants.{Elements}
use Rattle.jlr_cells.specs.Showing.{shown}
use Rattle.jlr_cells.proofs.Showing.{shown_more}
use Rattle.jlr_cells.specs.Holding.{AreShown, Holding}
use Rattle.jlr_cells.proofs.Shown.{counted, hidden, long, none_lay, put_are}
use Rattle.jlr_cells.proofs.objects.objects.Objects.take_array.Goals as goal

pub take-slot-requires : goal.take-slot-requires
take-slot-requires c = omega (
  arith,
  c.make_free.ensures.room c.if-not-make_free.false,
  counted c.self.inside.store c.self.inside.occupancy.places c.self.inside.occupancy.used c.self.inside.listed c.self.invariant
      c.make_free.new.self.objects (ap (λ (h : Holding). h.objects) c.self.view_is),
  long c.self.inside.store c.self.inside.occupancy.places c.self.inside.occupancy.used c.self.inside.listed c.self.invariant
      c.make_free.new.self.objects (ap (λ (h : Holding). h.objects) c.self.view_is),
  ap (λ (h : Holding). h.condemned) c.self.view_is,
  c.self.invariant.places,
)

pub returns-clause-free : goal.returns-clause-free
returns-clause-free c = (
  omega (
    arith,
    c.take-slot.ensures.within,
    c.self.invariant.places,
    long c.self.inside.store c.self.inside.occupancy.places c.self.inside.occupancy.used c.self.inside.listed c.self.invariant
        c.make_free.new.self.objects (ap (λ (h : Holding). h.objects) c.self.view_is),
    ap length c.make_free.ensures.objects,
  ),
  ap (λ (h : Heap). at h c.take-slot.result) (sym c.make_free.ensures.objects)
      ∙ hidden c.self.inside.store c.self.inside.occupancy.places c.self.inside.occupancy.used c.self.inside.listed c.self.invariant
      c.make_free.new.self.objects (ap (λ (h : Holding). h.objects) c.self.view_is) c.take-slot.result c.take-slot.ensures.vacant,
)

pub put-requires-clause-within : goal.put-requires-clause-within
put-requires-clause-within c = omega (arith, c.take-slot.ensures.within, c.self.invariant.places)

pub put-requires-clause-members : goal.put-requires-clause-members
put-requires-clause-members c =
    none_lay c.self.inside.store c.self.inside.occupancy.places c.self.inside.occupancy.used c.self.inside.listed c.self.invariant
    c.take-slot.result (omega (arith, c.take-slot.ensures.within, c.self.invariant.places)) c.take-slot.ensures.vacant

pub invariant_of-self : goal.invariant_of-self
invariant_of-self c =
    let s = c.self.inside in
    let n = c.take-slot.result in
    subst (λ (h : Heap). AreShown h c.take-slot.new.self.places c.take-slot.new.self.used s.listed) (sym c.put.ensures)
    (subst (λ p. AreShown (set_at s.store n (Plain (Elements c.args.elements))) p c.take-slot.new.self.used s.listed)
    (sym c.take-slot.ensures.taken)
    (subst (λ u. AreShown (set_at s.store n (Plain (Elements c.args.elements))) (set s.occupancy.places n true) u s.listed)
    (sym c.take-slot.ensures.used)
    (put_are s.store s.occupancy.places s.occupancy.used s.listed c.self.invariant n
    (omega (arith, c.take-slot.ensures.within, c.self.invariant.places)) c.take-slot.ensures.vacant (Plain (Elements c.args.elements))
    refl)))

pub returns-clause-taken : goal.returns-clause-taken
returns-clause-taken c =
    let s = c.self.inside in
    let n = c.take-slot.result in
    ap (λ p. shown p c.put.new.self) c.take-slot.ensures.taken
    ∙ ap (shown (set s.occupancy.places n true)) c.put.ensures
    ∙ shown_more s.occupancy.places s.store n (Some (Plain (Elements c.args.elements))) c.take-slot.ensures.within
    ∙ ap (λ (h : Holding). set_at h.objects n (Plain (Elements c.args.elements))) c.self.view_is
    ∙ ap (λ (h : Heap). set_at h n (Plain (Elements c.args.elements))) c.make_free.ensures.objects
