-- A collection comes only with an ask that may collect, and new objects only with one that makes them.
use Rattle.std.proofs.Common.{◌≡◌, ℕ, ◌≤◌, true, false, not, IsTrue, length, Option, Some, None, refl, ap, arith}
use Rattle.std.proofs.lemmas.Bool.{both_ways}
use Rattle.jlr_machine.specs.declared.machine.Machine.{Machine}
use Rattle.jlr_machine.specs.declared.ask.Ask.{Ask}
use Rattle.jlr_machine.specs.declared.ask.Ask.TheVariants.{Full, Collect}
use Rattle.jlr_machine.specs.Chosen.{Chosen}
use Rattle.jlr_machine.specs.declared.entry.Collected.{Collected}
use Rattle.jlr_machine.specs.Refusals.{cells_needed}
use Rattle.jlr_machine.specs.Run.{MayCollect, has_room}
use Rattle.jlr_machine.specs.Run.IsLegal.{carried_out, refused, heap_full, out_of_memory}
use Rattle.jlr_laws.proofs.LegalKept.{no_need}
use Rattle.jlr_histories.specs.Collecting.{may_collect, NoCollectionUnlessItMay}
use Rattle.jlr_histories.specs.Rooms.{NewObjectsFit}

-- where it may not, the collection of an ask that is carried out is none
none_comes : (m : Machine) (ask : Ask) (o : Option Collected) → may_collect m (Some ask) ≡ false → MayCollect m ask o → o ≡ None
none_comes m ask None e g = refl
none_comes m (Full k mode) (Some c) e g = absurd (both_ways true e refl)
none_comes m Collect (Some c) e g = absurd (both_ways m.cycle_open e g.0)
none_comes m ask (Some c) e g = absurd (both_ways (not (has_room m (cells_needed ask))) e g.0)

-- nor is the heap full
none_for_room : (m : Machine) (ask : Ask) → may_collect m (Some ask) ≡ false → IsTrue (not (has_room m (cells_needed ask))) → ⊥
none_for_room m (Full k mode) e h = both_ways true e refl
none_for_room m Collect e h = no_need m h
none_for_room m ask e h = both_ways (not (has_room m (cells_needed ask))) e h

pub no_collection_unless_it_may : NoCollectionUnlessItMay
no_collection_unless_it_may m e (carried_out x) may = none_comes m e.ask e.choice.collected may x.collection
no_collection_unless_it_may m e (refused x) may = ap {A = Chosen} {B = Option Collected} (λ c. c.collected) x.nothing
no_collection_unless_it_may m e (heap_full x) may = absurd (none_for_room m e.ask may x.no_room)
no_collection_unless_it_may m e (out_of_memory x) may = ap {A = Chosen} {B = Option Collected} (λ c. c.collected) x.nothing

few : (fresh : ℕ) (cells : ℕ) → fresh ≡ 0 → fresh ≤ cells
few fresh cells e = omega (arith, e)

abbrev count_of : Chosen → ℕ
count_of c = length c.fresh

pub new_objects_fit : NewObjectsFit
new_objects_fit m e (carried_out x) = (let same = x.fresh.count in omega (arith, same))
new_objects_fit m e (refused x) = few (count_of e.choice) (cells_needed e.ask) (ap {A = Chosen} {B = ℕ} count_of x.nothing)
new_objects_fit m e (heap_full x) = few (count_of e.choice) (cells_needed e.ask) (ap {A = Chosen} {B = ℕ} count_of x.collects)
new_objects_fit m e (out_of_memory x) = few (count_of e.choice) (cells_needed e.ask) (ap {A = Chosen} {B = ℕ} count_of x.nothing)
