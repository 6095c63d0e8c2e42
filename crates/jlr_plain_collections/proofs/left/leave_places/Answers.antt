use Rattle.std.proofs.Common.{refl, sym, ap, ◌∙◌, Option}
use Rattle.jlr_machine.specs.declared.object.Object.{Object}
use Rattle.jlr_plain_collections.proofs.PlacesLeft.{place_left, place_settled}
use Rattle.jlr_plain_collections.proofs.left.leave_places.Goals as goal

pub loop-i-preserved : goal.loop-i-preserved
loop-i-preserved c =
    place_settled c.args.kept.now c.args.pending.now c.args.places.now c.loop-i.i c.index-places-i.result c.leave_place.new.place
    c.loop-i.places _ c.loop-i-test.true c.loop-i.invariant c.index-places-i.is
    (c.leave_place.ensures ∙ ap {A = Option Object} {B = Option Object} (place_left c.args.kept.now c.args.pending.now c.loop-i.i)
    (sym c.index-places-i.is)) refl
