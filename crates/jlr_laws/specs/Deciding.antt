-- Tests that compute: which collections and which entries are legal.
use Rattle.std.specs.Prelude.{ℕ, ◌+◌, ◌^◌, ◌↔◌, Bool, true, false, not, ◌&&◌, ◌||◌, Decides, IsTrue, List, [], ◌∷◌}
use Rattle.std.specs.Prelude.{Option, Some, None, is_some, is_none, length, nat_eq, nat_lt}
use Rattle.std.specs.List.{list_all}
use Rattle.jlr_machine.specs.declared.object.Object.{Object}
use Rattle.jlr_machine.specs.declared.machine.Machine.{Machine}
use Rattle.jlr_machine.specs.declared.entry.Entry.{Entry}
use Rattle.jlr_machine.specs.Chosen.{Chosen}
use Rattle.jlr_machine.specs.declared.entry.Collected.{Collected}
use Rattle.jlr_machine.specs.declared.ask.Ask.{Ask}
use Rattle.jlr_machine.specs.declared.ask.Ask.TheVariants.{Prepare, Full, Collect}
use Rattle.jlr_machine.specs.declared.ask.FullMode.TheVariants.{Policy, ClearAll}
use Rattle.jlr_machine.specs.declared.ask.Answer.{Answer}
use Rattle.jlr_machine.specs.declared.ask.Answer.TheVariants.{Truth, Prepared, Refused}
use Rattle.jlr_types.specs.declared.Refusal.TheVariants.{NoMemory, HeapFull}
use Rattle.jlr_machine.specs.Objects.{Heap, at, ◌∋◌, is_distinct, is_rising, some_and, any_referent}
use Rattle.jlr_machine.specs.Edges.{Chain, edges_from, roots}
use Rattle.jlr_machine.specs.Collection.{is_ready, IsCollection, IsBackground, IsFullClearing}
use Rattle.jlr_machine.specs.Lookups.{resource_at}
use Rattle.jlr_machine.specs.Refusals.{is_end, cells_needed, refusal}
use Rattle.jlr_machine.specs.Calls.{reply}
use Rattle.jlr_machine.specs.ReachSet.{reach_set}
use Rattle.jlr_machine.specs.Run.{has_room, with_collection, is_free, IsLegal, apply}
use Rattle.jlr_machine.specs.WellFormed.{IsWellFormed}
use Rattle.jlr_laws.specs.Same.{same_answer}
use Rattle.jlr_machine.specs.Edges.Chain.{Strong, UpToSoft}
use Rattle.jlr_laws.specs.Laws.{IsWithinHeap, IsSeenWithin, only}

-- ---- Collections

abbrev pub holds_all : List ℕ → List ℕ → Bool
holds_all kept slots = list_all (λ s. kept ∋ s) slots

abbrev pub is_closed_set : Heap → List ℕ → Bool
is_closed_set heap kept = list_all (λ x. holds_all kept (edges_from Strong heap x)) kept

-- it is ready, and has a referent that is not kept
abbrev pub goes_out : List ℕ → Object → Bool
goes_out kept o = is_ready o && some_and (λ x. not (kept ∋ x)) (any_referent o)

abbrev pub loses_referent : Heap → List ℕ → ℕ → Bool
loses_referent heap kept s = (kept ∋ s) && some_and (goes_out kept) (at heap s)

-- handed over are, once each, just the kept objects that lose a referent
abbrev pub hands_over : Heap → List ℕ → List ℕ → Bool
hands_over heap kept pending =
    list_all (loses_referent heap kept) pending
    && list_all (λ s. not (loses_referent heap kept s) || (pending ∋ s)) kept && is_distinct pending
    && is_rising kept

-- what is kept is what the chain reaches inside
abbrev pub cuts_off : Chain → Heap → List ℕ → List ℕ → List ℕ → Bool
cuts_off chain heap B kept pending = holds_all kept B && is_closed_set heap kept
    && holds_all (reach_set chain (only kept heap) B) kept && hands_over heap kept pending

abbrev pub is_collection : Heap → List ℕ → List ℕ → List ℕ → Bool
is_collection heap B kept pending = cuts_off UpToSoft heap B kept pending

abbrev pub are_objects : Heap → List ℕ → Bool
are_objects heap slots = list_all (λ s. is_some (at heap s)) slots

abbrev pub cuts_off_in_background : Heap → List ℕ → List ℕ → List ℕ → List ℕ → Bool
cuts_off_in_background heap base seen kept pending = holds_all seen kept && are_objects heap kept && holds_all kept base
    && is_closed_set heap kept && hands_over heap kept pending

abbrev pub is_background : Machine → List ℕ → List ℕ → Bool
is_background m kept pending = cuts_off_in_background m.objects (roots m) m.seen kept pending

abbrev pub is_full : Machine → List ℕ → List ℕ → Bool
is_full m kept pending = is_collection m.objects (roots m) kept pending

abbrev pub is_full_clearing : Machine → List ℕ → List ℕ → Bool
is_full_clearing m kept pending = cuts_off Strong m.objects (roots m) kept pending

abbrev pub CollectionsAreDecided : Type 0
CollectionsAreDecided = (heap : Heap) (B kept pending : List ℕ) → IsWithinHeap heap B
    → Decides (is_collection heap B kept pending) (IsCollection heap B kept pending)

abbrev pub BackgroundIsDecided : Type 0
BackgroundIsDecided = (m : Machine) (kept pending : List ℕ) → IsWithinHeap m.objects (roots m) → IsSeenWithin m
    → Decides (is_background m kept pending) (IsBackground m kept pending)

abbrev pub ClearingIsDecided : Type 0
ClearingIsDecided = (m : Machine) (kept pending : List ℕ) → IsWithinHeap m.objects (roots m)
    → Decides (is_full_clearing m kept pending) (IsFullClearing m kept pending)

-- ---- Entries

abbrev pub may_have_collected : Machine → Ask → Option Collected → Bool
may_have_collected m (Full k Policy) (Some c) = is_full m c.kept c.pending
may_have_collected m (Full k ClearAll) (Some c) = is_full_clearing m c.kept c.pending
may_have_collected m (Full k mode) None = false
may_have_collected m Collect (Some c) = m.cycle_open && is_background m c.kept c.pending
may_have_collected m Collect None = true
may_have_collected m ask (Some c) = not (has_room m (cells_needed ask)) && is_full_clearing m c.kept c.pending
may_have_collected m ask None = has_room m (cells_needed ask)

-- a Rid that no resource has
abbrev pub gives_new_rid : Machine → Answer → Bool
gives_new_rid m (Prepared rid) = nat_lt rid (2 ^ 32) && is_none (resource_at m rid)
gives_new_rid m _ = false

abbrev pub is_answer : Machine → Ask → Option Collected → Answer → Bool
is_answer m (Prepare k) c a = gives_new_rid m a
is_answer m Collect c a = same_answer a (Truth (is_some c))
is_answer m ask c a = some_and (same_answer a) (reply m ask)

abbrev pub are_fresh : Heap → ℕ → List ℕ → Bool
are_fresh heap cells fresh = nat_eq (length fresh) cells && list_all (is_free heap) fresh && is_distinct fresh

abbrev pub is_empty : List ℕ → Bool
is_empty [] = true
is_empty (x ∷ xs) = false

abbrev pub chooses_nothing : Chosen → Bool
chooses_nothing c = is_none c.collected && is_empty c.fresh

abbrev pub is_carried_out : Machine → Entry → Bool
is_carried_out m e =
    is_none (refusal m e.ask)
    && may_have_collected m e.ask e.choice.collected
    && are_fresh (with_collection m e.choice.collected).objects (cells_needed e.ask) e.choice.fresh
    && is_answer (with_collection m e.choice.collected) e.ask e.choice.collected e.answer

abbrev pub is_rightly_refused : Machine → Entry → Bool
is_rightly_refused m e = some_and (λ by. same_answer e.answer (Refused by)) (refusal m e.ask) && chooses_nothing
    e.choice

-- a collection that clears all leaves too few cells
abbrev pub leaves_too_few : Machine → Ask → Collected → Bool
leaves_too_few m ask c = not (has_room m (cells_needed ask)) && is_full_clearing m c.kept c.pending
    && nat_lt (length m.objects) (length c.kept + cells_needed ask)

abbrev pub is_heap_full : Machine → Entry → Bool
is_heap_full m e =
    is_none (refusal m e.ask)
    && same_answer e.answer (Refused HeapFull)
    && is_empty e.choice.fresh
    && some_and (leaves_too_few m e.ask) e.choice.collected

abbrev pub is_out_of_memory : Machine → Entry → Bool
is_out_of_memory m e = not (is_end e.ask) && same_answer e.answer (Refused NoMemory) && chooses_nothing e.choice

abbrev pub is_legal : Machine → Entry → Bool
is_legal m e = is_carried_out m e || is_rightly_refused m e || is_heap_full m e || is_out_of_memory m e

abbrev pub LegalityIsDecided : Type 0
LegalityIsDecided = (m : Machine) (e : Entry) → IsWellFormed m → IsTrue (is_legal m e) ↔ IsLegal m e

-- after any entry, legal or not, what was seen lies within the heap
abbrev pub SeenIsWithin : Type 0
SeenIsWithin = (m : Machine) (e : Entry) → IsSeenWithin (apply m e)
