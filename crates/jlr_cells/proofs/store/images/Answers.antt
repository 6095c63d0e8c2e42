use Rattle.std.proofs.Common.{◌∙◌, ◌≤◌, arith, length}
use Rattle.std.proofs.lemmas.List.{length-map, take_all}
use Rattle.jlr_cells.specs.Contents.{object_in, objects_in, with_lists}
use Rattle.jlr_cells.specs.Showing.{shown}
use Rattle.jlr_cells.proofs.Queues.{long-with_lists}
use Rattle.jlr_cells.proofs.Showing.{length-shown}
use Rattle.jlr_cells.proofs.Images.{one_image}
use Rattle.jlr_cells.proofs.store.images.Goals as goal

pub loop-slot-preserved : goal.loop-slot-preserved
loop-slot-preserved c =
    one_image c.args.cells.now c.args.queues.now.lists c.args.occupied.now c.loop-slot.slot c.index-cell.result.now
    c.loop-slot.objects.items c.push.new.self.items c.in_ok-image_of.field-0
    (omega (arith, c.loop-slot-test.true, c.len-slot-end.ensures)) c.index-cell.ensures c.loop-slot.invariant
    c.in_ok-push.ensures.items c.in_ok-image_of.ensures

pub returns : goal.returns
returns c =
    let all = shown c.args.occupied.now (with_lists (objects_in c.args.cells.now) c.args.queues.now.lists) in
    let past : length all ≤ c.loop-slot.slot = omega (
      arith,
      c.loop-slot-test.false,
      c.len-slot-end.ensures,
      length-shown c.args.occupied.now (with_lists (objects_in c.args.cells.now) c.args.queues.now.lists),
      long-with_lists (objects_in c.args.cells.now) c.args.queues.now.lists,
      length-map c.args.cells.now object_in,
    ) in
    c.loop-slot.invariant ∙ take_all c.loop-slot.slot all past
