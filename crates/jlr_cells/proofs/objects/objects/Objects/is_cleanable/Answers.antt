use Rattle.jlr_cells.specs.Holding.{Holding}
use Rattle.std.proofs.Common.{◌≡◌, ◌∙◌, Bool, true, false, cond, Option, Some, None, refl, sym, ap}
use Rattle.std.specs.Prelude.{is_some}
use Rattle.std.proofs.lemmas.Bool.{false≢true}
use Rattle.jlr_machine.specs.declared.object.Object.{Object}
use Rattle.jlr_machine.specs.Objects.{at, some_and}
use Rattle.jlr_machine.specs.Refusals.{is_cleanable}
use Rattle.jlr_sets.specs.SlotSets.{is_in}
use Rattle.jlr_cells.proofs.Shown.{seen}
use Rattle.jlr_cells.proofs.objects.objects.Objects.is_cleanable.Goals as goal

-- what lies there is a cleanable, which callers see where the cell is occupied
one_shown : (on : Bool) (o : Option Object) → some_and is_cleanable o ≡ true
    → is_some (cond on o None) ≡ some_and is_cleanable (cond on o None)
one_shown true None h = absurd (false≢true h)
one_shown true (Some o) h = sym h
one_shown false o h = refl

none_shown : (on : Bool) (o : Option Object) → some_and is_cleanable o ≡ false → false ≡ some_and is_cleanable (cond on o None)
none_shown true o h = sym h
none_shown false o h = refl

pub returns-then-is_cleanable : goal.returns-then-is_cleanable
returns-then-is_cleanable c =
    let store = c.self.inside.store in
    let occ = c.self.inside.occupancy.places in
    let s = c.args.slot in
    let see = seen store occ c.self.inside.occupancy.used c.self.inside.listed c.self.invariant c.args.self.now.objects
    (ap (λ (h : Holding). h.objects) c.self.view_is) s in
    c.is_occupied.ensures
    ∙ ap is_some see
    ∙ one_shown (is_in occ s) (at store s) (sym c.is_cleanable.ensures ∙ c.if-is_cleanable.true)
    ∙ sym (ap (some_and is_cleanable) see)

pub returns-else-is_cleanable : goal.returns-else-is_cleanable
returns-else-is_cleanable c =
    let store = c.self.inside.store in
    let occ = c.self.inside.occupancy.places in
    let s = c.args.slot in
    let see = seen store occ c.self.inside.occupancy.used c.self.inside.listed c.self.invariant c.args.self.now.objects
    (ap (λ (h : Holding). h.objects) c.self.view_is) s in
    c.if-is_cleanable.false
    ∙ none_shown (is_in occ s) (at store s) (sym c.is_cleanable.ensures ∙ c.if-is_cleanable.false)
    ∙ sym (ap (some_and is_cleanable) see)
