use Rattle.std.proofs.Common.{◌≡◌, Some}
use Rattle.slab.specs.Slab.{get}
use Rattle.jlr_resource.proofs.Slabs.{kept_there, state_there, kept_changed, others_changed, state_changed, has_place, held_changed}
use Rattle.jlr_resource.proofs.Slabs.{listed_changed, flow_changed}
use Rattle.jlr_resource.proofs.table.exchange.Goals as goal

pub index_mut-place-requires : goal.index_mut-place-requires
index_mut-place-requires g c = has_place c.args.places.now c.args.rid _ c.number.ensures c.requires.held

here : (g : _) (c : goal.After-places-1 g) → get c.args.places.now c.args.rid ≡ Some c.index_mut-place.result.now
here g c = rw c.number.ensures at c.index_mut-place.ensures.value

pub returns-clause-before : goal.returns-clause-before
returns-clause-before g c = rw c.replace.ensures.value (kept_there c.args.places.now c.args.rid _ (here g c))

pub returns-clause-state_before : goal.returns-clause-state_before
returns-clause-state_before g c = rw c.replace.ensures.value (state_there c.args.places.now c.args.rid _ (here g c))

pub returns-clause-after : goal.returns-clause-after
returns-clause-after g c =
    rw (c.number.ensures, c.replace.ensures.after) (kept_changed c.args.places.now c.args.rid _ c.args.kept (here g c))

pub returns-clause-state_after : goal.returns-clause-state_after
returns-clause-state_after g c =
    rw (c.number.ensures, c.replace.ensures.after) (state_changed c.args.places.now c.args.rid _ c.args.kept (here g c))

pub returns-clause-others : goal.returns-clause-others
returns-clause-others g c =
    rw (c.number.ensures, c.replace.ensures.after) (others_changed c.args.places.now c.args.rid _ c.args.kept (here g c))

pub returns-clause-held : goal.returns-clause-held
returns-clause-held g c =
    rw (c.number.ensures, c.replace.ensures.after) (held_changed c.args.places.now c.args.rid _ c.args.kept (here g c))

pub returns-clause-resources : goal.returns-clause-resources
returns-clause-resources g c =
    rw (c.number.ensures, c.replace.ensures.after) (listed_changed c.args.places.now c.args.rid _ c.args.kept (here g c))

pub returns-clause-values : goal.returns-clause-values
returns-clause-values g c =
    rw (c.number.ensures, c.replace.ensures.after, c.replace.ensures.value)
    (flow_changed c.args.places.now c.args.rid _ c.args.kept (here g c))
