use Rattle.std.proofs.Common.{◌≡◌, Some, arith}
use Rattle.slab.specs.Slab.{get}
use Rattle.jlr_resource.proofs.Slabs.{kept_elsewhere, state_there, state_nowhere, has_place, held_gone, listed_gone, no_value_gone}
use Rattle.jlr_resource.proofs.Slabs.{count_listed}
use Rattle.jlr_resource.proofs.table.remove.Goals as goal

pub remove-kept-requires : goal.remove-kept-requires
remove-kept-requires g c = has_place c.args.places.now c.args.rid _ c.number.ensures c.requires.held

pub returns-clause-state_before : goal.returns-clause-state_before
returns-clause-state_before g c =
    let here : get c.args.places.now c.args.rid ≡ Some c.remove-kept.result = rw c.number.ensures at c.remove-kept.ensures.value in
    state_there c.args.places.now c.args.rid _ here

pub returns-clause-state_after : goal.returns-clause-state_after
returns-clause-state_after g c =
    state_nowhere c.remove-kept.new.self c.args.rid (rw c.number.ensures at c.remove-kept.ensures.updates.changed)

pub returns-clause-others : goal.returns-clause-others
returns-clause-others g c =
    kept_elsewhere c.args.places.now c.remove-kept.new.self c.args.rid _ (rw c.number.ensures at c.remove-kept.ensures.updates)

pub returns-clause-held : goal.returns-clause-held
returns-clause-held g c =
    let here : get c.args.places.now c.args.rid ≡ Some c.remove-kept.result = rw c.number.ensures at c.remove-kept.ensures.value in
    held_gone c.args.places.now c.remove-kept.new.self c.args.rid c.remove-kept.result here
    (rw c.number.ensures at c.remove-kept.ensures.slots)

pub returns-clause-resources : goal.returns-clause-resources
returns-clause-resources g c =
    let here : get c.args.places.now c.args.rid ≡ Some c.remove-kept.result = rw c.number.ensures at c.remove-kept.ensures.value in
    listed_gone c.args.places.now c.remove-kept.new.self c.args.rid c.remove-kept.result here
    (rw c.number.ensures at c.remove-kept.ensures.slots)

pub returns-clause-values : goal.returns-clause-values
returns-clause-values g c =
    let here : get c.args.places.now c.args.rid ≡ Some c.remove-kept.result = rw c.number.ensures at c.remove-kept.ensures.value in
    no_value_gone c.args.places.now c.remove-kept.new.self c.args.rid c.remove-kept.result here
    (rw c.number.ensures at c.remove-kept.ensures.slots)

pub returns-clause-fewer : goal.returns-clause-fewer
returns-clause-fewer g c = omega (arith, count_listed c.remove-kept.new.self, c.remove-kept.ensures.room)
