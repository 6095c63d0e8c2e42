use Rattle.std.proofs.Common.{◌∙◌, None, ap, sym, arith}
use Rattle.std.specs.Prelude.{is_some}
use Rattle.std.proofs.lemmas.List.{get_or_past}
use Rattle.jlr_machine.specs.Objects.{at}
use Rattle.jlr_cells.proofs.Showing.{is_shown}
use Rattle.jlr_cells.specs.Holding.{Holding}
use Rattle.jlr_cells.proofs.Shown.{long}
use Rattle.jlr_cells.proofs.objects.objects.Objects.is_occupied.Goals as goal

pub returns : goal.returns
returns c =
    c.is_occupied.ensures
    ∙ is_shown c.self.inside.occupancy.places c.self.inside.store c.args.slot c.self.invariant.objects
    ∙ ap (λ (h : Holding). is_some (at h.objects c.args.slot)) c.self.view_is

pub returns-then-number-cell_count : goal.returns-then-number-cell_count
returns-then-number-cell_count c =
    sym (ap is_some (get_or_past c.args.self.now.objects c.args.slot None
    (omega (
      arith,
      c.if-number-cell_count.true,
      c.number.ensures,
      c.cell_count.ensures,
      c.self.invariant.places,
      long c.self.inside.store c.self.inside.occupancy.places c.self.inside.occupancy.used c.self.inside.listed c.self.invariant
          c.args.self.now.objects (ap (λ (h : Holding). h.objects) c.self.view_is),
    ))))
