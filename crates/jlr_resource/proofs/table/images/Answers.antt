use Rattle.std.proofs.Common.{◌∙◌}
use Rattle.jlr_resource.proofs.Slabs.{entries_listed, entries_have_rids}
use Rattle.jlr_resource.proofs.table.images.Goals as goal

pub loop-key-init : goal.loop-key-init
loop-key-init g c =
    let left = c.into_iter-key-iterator.ensures.into_iter_gives ∙ c.iter-key-items.ensures.rest in (
      tt,
      tt,
      rw (c.new-items.ensures.items, left) (entries_listed c.args.places.now),
      rw left (entries_have_rids c.args.places.now c.requires),
    )
