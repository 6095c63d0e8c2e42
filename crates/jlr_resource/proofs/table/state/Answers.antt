use Rattle.std.proofs.Common.{◌≡◌, refl, Some, None, sym}
use Rattle.slab.specs.Slab.{get}
use Rattle.jlr_resource.proofs.Slabs.{state_kept}
use Rattle.jlr_resource.proofs.table.state.Goals as goal

pub returns-in-Some : goal.returns-in-Some
returns-in-Some g c =
    let here : get c.args.places.now c.args.rid ≡ Some c.in-Some.place.now =
    rw (← c.number.ensures) (sym (rw c.in-Some.is at c.get.ensures)) in
    rw (state_kept c.args.places.now c.args.rid, here, c.state.ensures) refl

pub returns-in-None : goal.returns-in-None
returns-in-None g c =
    let here : get c.args.places.now c.args.rid ≡ None = rw (← c.number.ensures) (sym (rw c.in-None.is at c.get.ensures)) in
    rw (state_kept c.args.places.now c.args.rid, here) refl
