use Rattle.jlr_cells.specs.Holding.{Holding}
use Rattle.std.proofs.Common.{◌∙◌, ap, sym}
use Rattle.jlr_cells.specs.Contents.{member_in}
use Rattle.jlr_cells.proofs.Shown.{there}
use Rattle.jlr_cells.proofs.objects.objects.Objects.first_member.Goals as goal

pub returns : goal.returns
returns c = c.first_member.ensures ∙ ap (λ o. member_in o 0)
    (sym (there c.self.inside.store c.self.inside.occupancy.places c.self.inside.occupancy.used c.self.inside.listed c.self.invariant
    c.args.self.now.objects (ap (λ (h : Holding). h.objects) c.self.view_is) c.args.queue
    (sym c.is_occupied.ensures ∙ c.if-not-is_occupied.false)))
