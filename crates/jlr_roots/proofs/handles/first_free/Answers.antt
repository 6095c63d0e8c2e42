use Rattle.std.proofs.Common.{◌≡◌, ◌∙◌, None, Some, drop, sym, arith, ap}
use Rattle.std.specs.Prelude.{is_none, position, is_some}
use Rattle.jlr_roots.proofs.Lowest.{finds, behind_null}
use Rattle.jlr_roots.proofs.handles.first_free.Goals as goal

pub returns-in-Some-clause-room : goal.returns-in-Some-clause-room
returns-in-Some-clause-room c =
    let found : Some c.in-Some.after_null ≡ position is_none (drop 1 c.args.places.now) = sym c.in-Some.is ∙ c.first_none.ensures
    ∙ ap (position is_none) (behind_null c.args.places.now) in
    ap is_some found ∙ (finds c.args.places.now c.requires).room

pub returns-in-Some-clause-lowest : goal.returns-in-Some-clause-lowest
returns-in-Some-clause-lowest c =
    let found : Some c.in-Some.after_null ≡ position is_none (drop 1 c.args.places.now) = sym c.in-Some.is ∙ c.first_none.ensures
    ∙ ap (position is_none) (behind_null c.args.places.now) in
    let lowest = (finds c.args.places.now c.requires).lowest c.in-Some.after_null (sym found) in
    (lowest.0, omega arith, omega (arith, lowest.1))

pub returns-in-None-clause-room : goal.returns-in-None-clause-room
returns-in-None-clause-room c =
    let found : None ≡ position is_none (drop 1 c.args.places.now) = sym c.in-None.is ∙ c.first_none.ensures
    ∙ ap (position is_none) (behind_null c.args.places.now) in
    ap is_some found ∙ (finds c.args.places.now c.requires).room
