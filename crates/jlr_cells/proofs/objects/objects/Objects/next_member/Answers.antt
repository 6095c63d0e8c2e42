use Rattle.jlr_cells.specs.Holding.{Holding}
use Rattle.std.proofs.Common.{◌∙◌, ap, sym, subst}
use Rattle.jlr_cells.specs.Contents.{members_in}
use Rattle.jlr_machine.specs.Objects.{◌∈◌}
use Rattle.jlr_cells.proofs.Shown.{object_of_member, there}
use Rattle.jlr_cells.proofs.objects.objects.Objects.next_member.Goals as goal

pub next_member-requires : goal.next_member-requires
next_member-requires c = subst (λ o. c.args.member ∈ members_in o)
    (there c.self.inside.store c.self.inside.occupancy.places c.self.inside.occupancy.used c.self.inside.listed c.self.invariant
    c.args.self.now.objects (ap (λ (h : Holding). h.objects) c.self.view_is) c.args.queue (object_of_member c.args.member _ c.requires))
    c.requires

pub returns : goal.returns
returns c = λ before after e. c.next_member.ensures before after
    (ap members_in (sym (there c.self.inside.store c.self.inside.occupancy.places c.self.inside.occupancy.used c.self.inside.listed
    c.self.invariant c.args.self.now.objects (ap (λ (h : Holding). h.objects) c.self.view_is) c.args.queue
    (object_of_member c.args.member _ c.requires))) ∙ e)
