use Rattle.std.proofs.Common.{◌∙◌, None, ap, replicate}
use Rattle.jlr_machine.specs.Objects.{Heap}
use Rattle.jlr_cells.specs.Showing.{shown}
use Rattle.jlr_cells.proofs.Showing.{shown_none}
use Rattle.jlr_cells.specs.Occupying.{Occupied}
use Rattle.jlr_cells.proofs.Shown.{new_are}
use Rattle.jlr_cells.proofs.objects.objects.Objects.new.Goals as goal

pub invariant_of-result : goal.invariant_of-result
invariant_of-result c =
    new_are c.args.cells _ _ _ _ c.in-Ok-new.ensures
    (ap (λ (o : Occupied). o.places) c.in-Ok.ensures) (ap (λ (o : Occupied). o.used) c.in-Ok.ensures) c.in_ok-listed.ensures

pub returns : goal.returns
returns c =
    ap (λ (h : Heap). record { objects = shown c.in-Ok.occupancy.places h; condemned = c.in-Ok.occupancy.condemned }) c.in-Ok-new.ensures
    ∙ ap (λ (h : Heap). record { objects = h; condemned = c.in-Ok.occupancy.condemned }) (shown_none c.args.cells c.in-Ok.occupancy.places)
    ∙ ap (λ (o : Occupied). record { objects = replicate c.args.cells None; condemned = o.condemned }) c.in-Ok.ensures
