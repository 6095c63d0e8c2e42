use Rattle.std.proofs.Common.{◌≡◌, ◌∙◌, refl, sym, ap, Some, None, arith, inl, inr}
use Rattle.std.proofs.lemmas.Bool.{cases_lt}
use Rattle.std.specs.Prelude.{IsOk}
use Rattle.slab.specs.Slab.{get, slab_len, Updates}
use Rattle.jlr_resource.specs.declared.place.Kept.TheVariants as kept
use Rattle.jlr_resource.proofs.Slabs.{kept_elsewhere, state_there, held_new, listed_new, no_value_new, none_listed, count_listed}
use Rattle.jlr_resource.proofs.Slabs.{vacant_before, updates_before}
use Rattle.jlr_resource.proofs.table.place_for.Goals as goal

key : (g : _) (c : goal.After-new g) → c.insert_reserved.result ≡ c.new.result
key g c = c.insert_reserved.ensures.key ∙ sym c.vacant_key-key.ensures.value ∙ sym c.new.ensures

vacant : (g : _) (c : goal.After-new g) → get c.args.places.now c.new.result ≡ None
vacant g c = vacant_before c.args.places.now c.reserve.new.self c.new.result (ap (λ s. s.slots) c.reserve.ensures.rest_kept)
    (rw (key g c) at c.insert_reserved.ensures.was_vacant)

updates : (g : _) (c : goal.After-new g) → Updates c.args.places.now c.insert_reserved.new.self c.new.result
    (Some (record { action = c.args.action; kept = kept.Opening }))
updates g c = updates_before c.args.places.now c.reserve.new.self c.insert_reserved.new.self c.new.result _
    (ap (λ s. s.slots) c.reserve.ensures.rest_kept) (rw (key g c) at c.insert_reserved.ensures.updates)

pub returns-then-is_err-clause-no_room : goal.returns-then-is_err-clause-no_room
returns-then-is_err-clause-no_room g c =
    let count = count_listed c.args.places.now in
    elim (cases_lt (slab_len c.args.places.now) c.args.places.now.capacity) [
      | inl room ↦ absurd (let well : IsOk c.reserve.result = c.reserve.ensures.succeeds (omega arith) in
          let ill = c.if-is_err.ensures.negation in cc)
      | inr full ↦ (refl, inl (omega (arith, count, full)))
    ]

pub returns-clause-free : goal.returns-clause-free
returns-clause-free g c = none_listed c.args.places.now c.new.result (vacant g c)

pub returns-clause-state : goal.returns-clause-state
returns-clause-state g c = state_there c.insert_reserved.new.self c.new.result _ (updates g c).changed

pub returns-clause-others : goal.returns-clause-others
returns-clause-others g c = kept_elsewhere c.args.places.now c.insert_reserved.new.self c.new.result _ (updates g c)

pub returns-clause-held : goal.returns-clause-held
returns-clause-held g c = held_new c.args.places.now _ c.new.result _ (vacant g c) (updates g c)

pub returns-clause-resources : goal.returns-clause-resources
returns-clause-resources g c = listed_new c.args.places.now _ c.new.result _ (vacant g c) (updates g c)

pub returns-clause-values : goal.returns-clause-values
returns-clause-values g c = no_value_new c.args.places.now _ c.new.result _ (vacant g c) (updates g c) refl
