use Rattle.jlr_cells.specs.Holding.{Holding}
use Rattle.std.proofs.Common.{◌∷◌, ◌++◌, [], arith, ap}
use Rattle.jlr_machine.specs.Objects.{some_and, with_members}
use Rattle.jlr_machine.specs.Refusals.{is_queue}
use Rattle.jlr_cells.proofs.Slots.{object_of_queue}
use Rattle.jlr_cells.proofs.Shown.{changed_view, holds_below, in_no_list, inside, long, members_arrays, pushed_are}
use Rattle.jlr_cells.proofs.objects.objects.Objects.push_member.Goals as goal

pub push_member-requires-clause-queue : goal.push_member-requires-clause-queue
push_member-requires-clause-queue c = holds_below c.self.inside.store c.self.inside.occupancy.places c.self.inside.occupancy.used
    c.self.inside.listed c.self.invariant c.args.self.now.objects (ap (λ (h : Holding). h.objects) c.self.view_is) (some_and is_queue)
    c.args.queue object_of_queue c.requires.queue

pub push_member-requires-clause-within : goal.push_member-requires-clause-within
push_member-requires-clause-within c = omega (
  arith,
  c.requires.within,
  long c.self.inside.store c.self.inside.occupancy.places c.self.inside.occupancy.used c.self.inside.listed c.self.invariant
      c.args.self.now.objects (ap (λ (h : Holding). h.objects) c.self.view_is),
)

pub push_member-requires-clause-apart : goal.push_member-requires-clause-apart
push_member-requires-clause-apart c = λ s. in_no_list c.self.inside.store c.self.inside.occupancy.places c.self.inside.occupancy.used
    c.self.inside.listed c.self.invariant c.args.self.now.objects (ap (λ (h : Holding). h.objects) c.self.view_is) s c.args.member
    c.requires.apart

pub insert-requires : goal.insert-requires
insert-requires c = omega (
  arith,
  inside c.self.inside.store c.self.inside.occupancy.places c.self.inside.occupancy.used
      c.self.inside.listed c.self.invariant c.args.self.now.objects (ap (λ (h : Holding). h.objects) c.self.view_is) c.args.queue
      (object_of_queue _ c.requires.queue),
  c.self.invariant.places,
)

pub invariant_of-self : goal.invariant_of-self
invariant_of-self c = pushed_are c.self.inside.store c.self.inside.occupancy.places c.self.inside.occupancy.used c.self.inside.listed
    c.self.invariant c.args.self.now.objects (ap (λ (h : Holding). h.objects) c.self.view_is) c.args.queue
    (with_members (λ members. members ++ c.args.member ∷ [])) c.push_member.new.self c.insert.new.self (object_of_queue _ c.requires.queue)
    (members_arrays (λ members. members ++ c.args.member ∷ [])) c.push_member.ensures c.insert.ensures.set

pub returns-clause-objects : goal.returns-clause-objects
returns-clause-objects c = changed_view c.self.inside.store c.self.inside.occupancy.places c.self.inside.occupancy.used c.self.inside.listed
    c.self.invariant c.args.self.now.objects (ap (λ (h : Holding). h.objects) c.self.view_is) c.args.queue
    (with_members (λ members. members ++ c.args.member ∷ [])) c.push_member.new.self (object_of_queue _ c.requires.queue)
    c.push_member.ensures
