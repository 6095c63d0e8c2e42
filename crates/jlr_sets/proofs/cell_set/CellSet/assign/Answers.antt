use Rattle.std.proofs.Common.{◌≡◌, ◌∙◌, ◌≤◌, false, length, take, ap, sym, ext_get_or, arith}
use Rattle.std.proofs.lemmas.List.{length-take-le, get_or-take}
use Rattle.jlr_sets.proofs.Assigning.{shown_place}
use Rattle.jlr_sets.proofs.cell_set.CellSet.assign.Goals as goal

pub returns : goal.returns
returns c =
    let cells = c.self.inside.cells in
    let others = c.other.inside.cells in
    let long : cells ≡ others = omega (
      arith,
      c.requires,
      ap length c.self.view_is,
      ap length c.other.view_is,
      length-take-le cells c.self.inside.set c.self.invariant.0,
      length-take-le others c.other.inside.set c.other.invariant.0,
    ) in
    let room : cells ≤ length c.assign.new.self = omega (arith, c.assign.ensures.places, c.self.invariant.0) in
    let new = take cells c.assign.new.self in
    let old = take others c.other.inside.set in
    ext_get_or false new old
    (omega (arith, long, length-take-le cells c.assign.new.self room, length-take-le others c.other.inside.set c.other.invariant.0))
    (λ k h.
    get_or-take cells c.assign.new.self k false (omega (arith, h, length-take-le cells c.assign.new.self room))
    ∙ c.assign.ensures.each k
    ∙ sym (shown_place others c.other.inside.set c.other.invariant.0 c.other.invariant.1 k))
    ∙ c.other.view_is
