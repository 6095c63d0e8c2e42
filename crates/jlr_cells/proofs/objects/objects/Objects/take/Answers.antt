use Rattle.std.proofs.Common.{◌∙◌, Option, Some, true, ap, sym, subst, length, set, arith}
use Rattle.jlr_machine.specs.declared.object.Object.{Object}
use Rattle.jlr_machine.specs.Objects.{Heap, at, set_at}
use Rattle.jlr_cells.specs.Contents.{object_of}
use Rattle.jlr_cells.specs.Showing.{shown}
use Rattle.jlr_cells.proofs.Showing.{shown_more}
use Rattle.jlr_cells.specs.Holding.{AreShown, Holding}
use Rattle.jlr_cells.proofs.Shown.{counted, hidden, long, new_none, none_lay, put_are}
use Rattle.jlr_cells.proofs.objects.objects.Objects.take.Goals as goal

pub take-slot-requires : goal.take-slot-requires
take-slot-requires c = omega (
  arith,
  c.make_free.ensures.room c.if-not-make_free.false,
  counted c.self.inside.store c.self.inside.occupancy.places c.self.inside.occupancy.used c.self.inside.listed c.self.invariant
      c.make_free.new.self.objects (ap (λ (h : Holding). h.objects) c.self.view_is),
  long c.self.inside.store c.self.inside.occupancy.places c.self.inside.occupancy.used c.self.inside.listed c.self.invariant
      c.make_free.new.self.objects (ap (λ (h : Holding). h.objects) c.self.view_is),
  ap (λ (h : Holding). h.condemned) c.self.view_is,
  c.self.invariant.places,
)

pub returns-clause-free : goal.returns-clause-free
returns-clause-free c = (
  omega (
    arith,
    c.take-slot.ensures.within,
    c.self.invariant.places,
    long c.self.inside.store c.self.inside.occupancy.places c.self.inside.occupancy.used c.self.inside.listed c.self.invariant
        c.make_free.new.self.objects (ap (λ (h : Holding). h.objects) c.self.view_is),
    ap length c.make_free.ensures.objects,
  ),
  ap (λ (h : Heap). at h c.take-slot.result) (sym c.make_free.ensures.objects)
      ∙ hidden c.self.inside.store c.self.inside.occupancy.places c.self.inside.occupancy.used c.self.inside.listed c.self.invariant
      c.make_free.new.self.objects (ap (λ (h : Holding). h.objects) c.self.view_is) c.take-slot.result c.take-slot.ensures.vacant,
)

pub put-requires-clause-within : goal.put-requires-clause-within
put-requires-clause-within c = omega (arith, c.take-slot.ensures.within, c.self.invariant.places)

pub put-requires-clause-members : goal.put-requires-clause-members
put-requires-clause-members c =
    none_lay c.self.inside.store c.self.inside.occupancy.places c.self.inside.occupancy.used c.self.inside.listed c.self.invariant
    c.take-slot.result (omega (arith, c.take-slot.ensures.within, c.self.invariant.places)) c.take-slot.ensures.vacant

pub invariant_of-self : goal.invariant_of-self
invariant_of-self c =
    let s = c.self.inside in
    let n = c.take-slot.result in
    subst (λ (h : Heap). AreShown h c.take-slot.new.self.places c.take-slot.new.self.used s.listed) (sym (c.put.ensures
    ∙ ap (λ (o : Option Object). set s.store n o) c.new.ensures.object))
    (subst (λ p. AreShown (set_at s.store n (object_of c.args.shape.now)) p c.take-slot.new.self.used s.listed)
    (sym c.take-slot.ensures.taken)
    (subst (λ u. AreShown (set_at s.store n (object_of c.args.shape.now)) (set s.occupancy.places n true) u s.listed)
    (sym c.take-slot.ensures.used)
    (put_are s.store s.occupancy.places s.occupancy.used s.listed c.self.invariant n
    (omega (arith, c.take-slot.ensures.within, c.self.invariant.places)) c.take-slot.ensures.vacant (object_of c.args.shape.now)
    (new_none c.args.shape.now))))

pub returns-clause-taken : goal.returns-clause-taken
returns-clause-taken c =
    let s = c.self.inside in
    let n = c.take-slot.result in
    ap (λ p. shown p c.put.new.self) c.take-slot.ensures.taken
    ∙ ap (shown (set s.occupancy.places n true)) (c.put.ensures ∙ ap (λ (o : Option Object). set s.store n o) c.new.ensures.object)
    ∙ shown_more s.occupancy.places s.store n (Some (object_of c.args.shape.now)) c.take-slot.ensures.within
    ∙ ap (λ (h : Holding). set_at h.objects n (object_of c.args.shape.now)) c.self.view_is
    ∙ ap (λ (h : Heap). set_at h n (object_of c.args.shape.now)) c.make_free.ensures.objects
