-- A heap in which no cell is free after room was made.
use Rattle.std.proofs.Common.{◌≡◌, ◌+◌, ◌<◌, ◌≤◌, ℕ, zero, suc, List, [], ◌∷◌, ◌++◌, length, Option, Some, None, ◌∙◌, ap, subst, sym}
use Rattle.std.proofs.Common.{arith, refl, cond, is_some}
use Rattle.std.proofs.lemmas.Bool.{le-leb, leb-true}
use Rattle.std.proofs.lemmas.List.Sums.{sum_by-cons}
use Rattle.jlr_machine.specs.declared.machine.Machine.{Machine}
use Rattle.jlr_machine.specs.Chosen.{Chosen}
use Rattle.jlr_machine.specs.declared.entry.Collected.{Collected}
use Rattle.jlr_machine.specs.declared.object.Object.{Object}
use Rattle.jlr_machine.specs.Objects.{Heap, at, occupied}
use Rattle.jlr_machine.specs.Lookups.{with_new}
use Rattle.jlr_machine.specs.Choices.{Choosing, nothing_chosen, with_fresh}
use Rattle.jlr_machine.specs.Run.{with_collection}
use Rattle.jlr_laws.proofs.ObjectLeft.{length_left}
use Rattle.jlr_state.specs.Collecting.{Allocates, MayMakeRoom, MakesRoom, FindsNoRoom}

chosen_is : (c : Chosen) (x : Option Collected) → c.collected ≡ x → c.fresh ≡ [] → c ≡ record { collected = x; fresh = [] }
chosen_is c x e f =
    ap {A = Option Collected} {B = Chosen} (λ y. record { collected = y; fresh = c.fresh }) e
    ∙ ap {A = List ℕ} {B = Chosen} (λ y. record { collected = x; fresh = y }) f

pub finds_no_room : (m : Machine) (cells : ℕ) (old new : Choosing) (n : Machine) → MakesRoom m cells old new n
    → length n.objects < occupied n.objects + cells → FindsNoRoom m cells new n
finds_no_room m cells old new n r few =
    elim (new.chosen.collected) as (λ o. new.chosen.collected ≡ o → MayMakeRoom m cells o → n ≡ with_collection m o
    → FindsNoRoom m cells new n) [
      | None ↦ λ e a l.
          let room = leb-true (occupied m.objects + cells) (length m.objects) a in
          let same : length m.objects < occupied m.objects + cells =
          subst (λ h. length h < occupied h + cells) (ap (λ (x : Machine). x.objects) l) few in
          absurd (omega (arith, room, same))
      | Some c ↦ λ e a l.
          record {
            clearing = c;
            collects = chosen_is new.chosen (Some c) e r.fresh;
            no_room = a.0;
            full = a.1;
            too_few = omega (arith, r.counted c e, few, ap (λ (x : Machine). length x.objects) l, length_left c.kept c.pending 0 m.objects);
            left = l;
          }
    ] refl r.asked r.left

-- an object more is one cell more that holds one
one_more : (o : Object) (objects : Heap) → occupied (Some o ∷ objects) ≡ occupied objects + 1
one_more o objects = omega (arith, sum_by-cons (λ (x : Option Object). cond (is_some x) 1 0) (Some o) objects)

occupied_within : (objects : Heap) → occupied objects ≤ length objects
occupied_within [] = omega arith
occupied_within (None ∷ objects) = omega (arith, occupied_within objects)
occupied_within (Some o ∷ objects) = omega (arith, occupied_within objects, one_more o objects)

-- where a cell holds nothing, there is room
vacant_below : (objects : Heap) (slot : ℕ) → slot < length objects → at objects slot ≡ None → occupied objects < length objects
vacant_below [] slot within free = absurd (omega (arith, within))
vacant_below (None ∷ objects) slot within free = omega (arith, occupied_within objects)
vacant_below (Some o ∷ objects) zero within free = cc
vacant_below (Some o ∷ objects) (suc slot) within free =
    omega (arith, one_more o objects, vacant_below objects slot (omega (arith, within)) free)

-- a new object in a cell that was free is one without a collection
pub allocates_free : (m : Machine) (o : Object) (old new : Choosing) (slot : ℕ) (n : Machine) → old ≡ nothing_chosen old.cells
    → slot < length m.objects → at m.objects slot ≡ None → new ≡ with_fresh old (old.chosen.fresh ++ slot ∷ [])
    → n ≡ with_new m slot o → Allocates m o new slot n
allocates_free m o old new slot n nothing within free fresh left =
    let chosen : new.chosen ≡ record { collected = None; fresh = slot ∷ [] } =
    ap (λ (k : Choosing). k.chosen) (fresh ∙ ap (λ (k : Choosing). with_fresh k (k.chosen.fresh ++ slot ∷ [])) nothing) in
    let none : new.chosen.collected ≡ None = ap (λ (x : Chosen). x.collected) chosen in
    record {
      asked = subst (MayMakeRoom m 1) (sym none)
          (le-leb (occupied m.objects + 1) (length m.objects) (omega (arith, vacant_below m.objects slot within free)));
      inside = subst (λ x. slot < length (with_collection m x).objects) (sym none) within;
      free = subst (λ x. at (with_collection m x).objects slot ≡ None) (sym none) free;
      fresh = ap (λ (x : Chosen). x.fresh) chosen;
      left = left ∙ ap (λ x. with_new (with_collection m x) slot o) (sym none);
    }

-- a collection leaves the mutators as they are
pub mutators_stay : (m : Machine) (x : Option Collected) (n : Machine) → n ≡ with_collection m x → n.mutators ≡ m.mutators
mutators_stay m None n e = ap (λ (k : Machine). k.mutators) e
mutators_stay m (Some c) n e = ap (λ (k : Machine). k.mutators) e
