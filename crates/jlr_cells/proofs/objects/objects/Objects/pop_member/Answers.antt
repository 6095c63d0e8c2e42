use Rattle.jlr_cells.specs.Holding.{Holding}
use Rattle.std.proofs.Common.{◌∙◌, ap, sym, refl}
use Rattle.std.specs.Prelude.{drop}
use Rattle.jlr_machine.specs.Objects.{some_and, with_members}
use Rattle.jlr_machine.specs.Refusals.{is_queue}
use Rattle.jlr_cells.specs.Contents.{member_in}
use Rattle.jlr_cells.proofs.Slots.{object_of_queue}
use Rattle.jlr_cells.proofs.Shown.{changed_are, changed_view, holds_below, members_give_none, there}
use Rattle.jlr_cells.proofs.objects.objects.Objects.pop_member.Goals as goal

pub pop_member-requires : goal.pop_member-requires
pop_member-requires c = holds_below c.self.inside.store c.self.inside.occupancy.places c.self.inside.occupancy.used c.self.inside.listed
    c.self.invariant c.args.self.now.objects (ap (λ (h : Holding). h.objects) c.self.view_is) (some_and is_queue) c.args.queue
    object_of_queue c.requires

pub invariant_of-self : goal.invariant_of-self
invariant_of-self c = changed_are c.self.inside.store c.self.inside.occupancy.places c.self.inside.occupancy.used c.self.inside.listed
    c.self.invariant c.args.self.now.objects (ap (λ (h : Holding). h.objects) c.self.view_is) c.args.queue (with_members (drop 1))
    c.pop_member.new.self (members_give_none (drop 1) refl) c.pop_member.ensures.popped

pub returns-clause-front : goal.returns-clause-front
returns-clause-front c = c.pop_member.ensures.front
    ∙ ap (λ o. member_in o 0) (sym (there c.self.inside.store c.self.inside.occupancy.places c.self.inside.occupancy.used
    c.self.inside.listed c.self.invariant c.args.self.now.objects (ap (λ (h : Holding). h.objects) c.self.view_is) c.args.queue
    (object_of_queue _ c.requires)))

pub returns-clause-objects : goal.returns-clause-objects
returns-clause-objects c = changed_view c.self.inside.store c.self.inside.occupancy.places c.self.inside.occupancy.used c.self.inside.listed
    c.self.invariant c.args.self.now.objects (ap (λ (h : Holding). h.objects) c.self.view_is) c.args.queue (with_members (drop 1))
    c.pop_member.new.self (object_of_queue _ c.requires) c.pop_member.ensures.popped
