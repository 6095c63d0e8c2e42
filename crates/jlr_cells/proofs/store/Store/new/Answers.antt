use Rattle.std.proofs.Common.{◌∙◌, ap}
use Rattle.jlr_cells.specs.Contents.{objects_in, with_lists}
use Rattle.jlr_cells.proofs.ByKind.{empty_objects, new_kept}
use Rattle.jlr_cells.proofs.Queues.{new_lists, nothing_listed}
use Rattle.jlr_cells.proofs.store.Store.new.Goals as goal

pub invariant_of-result : goal.invariant_of-result
invariant_of-result c = record {
  kept = new_kept _ _ _ _ c.in_ok-cells.ensures c.ranges.count.fits c.in-Ok-new.ensures c.in-Ok-new-2.ensures;
  members = new_lists _ _ _ c.args.count c.in-Ok-new.ensures c.in-Ok.ensures.lists c.in-Ok.ensures.slots;
}

pub returns : goal.returns
returns c =
    ap (λ cells. with_lists (objects_in cells) c.in-Ok.queues.lists) c.in_ok-cells.ensures
    ∙ ap (λ h. with_lists h c.in-Ok.queues.lists) (empty_objects c.args.count)
    ∙ nothing_listed c.args.count c.in-Ok.queues.lists
