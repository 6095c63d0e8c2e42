use Rattle.jlr_cells.specs.Holding.{Holding}
use Rattle.std.proofs.Common.{◌∙◌, ap, sym}
use Rattle.std.specs.Prelude.{length}
use Rattle.jlr_cells.specs.Contents.{members_in}
use Rattle.jlr_cells.proofs.Shown.{there}
use Rattle.jlr_cells.proofs.objects.objects.Objects.member_count.Goals as goal

pub returns : goal.returns
returns c = c.member_count.ensures ∙ ap (λ o. length (members_in o))
    (sym (there c.self.inside.store c.self.inside.occupancy.places c.self.inside.occupancy.used c.self.inside.listed c.self.invariant
    c.args.self.now.objects (ap (λ (h : Holding). h.objects) c.self.view_is) c.args.queue
    (sym c.is_occupied.ensures ∙ c.if-not-is_occupied.false)))
