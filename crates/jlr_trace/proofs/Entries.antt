-- The entries of a history have spellings.
use Rattle.std.proofs.Common.{◌≡◌, ◌<◌, ◌≤◌, ◌++◌, ℕ, true, List, [], ◌∷◌, length, map, refl, sym, ap, subst, arith, Option, Some, None}
use Rattle.std.specs.List.{AllByRecursion}
use Rattle.std.proofs.Math.Dec.{leb}
use Rattle.std.proofs.lemmas.Bool.{leb-true}
use Rattle.jlr_types.specs.declared.RefKind.TheVariants.{Soft}
use Rattle.jlr_machine.specs.declared.machine.Machine.{Machine}
use Rattle.jlr_machine.specs.declared.ask.Ask.{Ask}
use Rattle.jlr_machine.specs.declared.ask.Ask.TheVariants.{Full, Collect, Prepare, Names as AskNames, Notes as AskNotes}
use Rattle.jlr_machine.specs.declared.ask.Ask.TheVariants.{Faults as AskFaults, CheckIn}
use Rattle.jlr_machine.specs.declared.ask.CallOutcome.TheVariants.{Data as GotData, Wrote as GotWrote, Failed as GotFailed}
use Rattle.jlr_machine.specs.declared.ask.FullMode.TheVariants.{Policy, ClearAll}
use Rattle.jlr_machine.specs.declared.ask.Answer.{Answer}
use Rattle.jlr_machine.specs.declared.ask.Answer.TheVariants.{Names, Notes, Faults}
use Rattle.jlr_machine.specs.declared.entry.Collected.{Collected}
use Rattle.jlr_machine.specs.Chosen.{Chosen}
use Rattle.jlr_machine.specs.declared.entry.Entry.{Entry}
use Rattle.jlr_machine.specs.Objects.{◌∈◌, is_rising, is_distinct}
use Rattle.jlr_machine.specs.Edges.{roots}
use Rattle.jlr_machine.specs.Edges.Chain.{UpToSoft}
use Rattle.jlr_machine.specs.Collection.{IsCollection, IsFull}
use Rattle.jlr_machine.specs.Refusals.{cells_needed}
use Rattle.jlr_machine.specs.WellFormed.{IsWellFormed}
use Rattle.jlr_machine.specs.Run.{Run, IsLegal, MayCollect, apply}
use Rattle.jlr_machine.specs.Run.IsLegal.{carried_out, refused, heap_full, out_of_memory}
use Rattle.jlr_laws.proofs.Agree.{kept_is_live, narrow, within_after, drop_decided, IsDropped}
use Rattle.jlr_laws.proofs.Empty.{well_formed_within}
use Rattle.jlr_laws.proofs.Law.{legal_kept}
use Rattle.jlr_laws.proofs.Paths.{reached_below, reached_complete}
use Rattle.jlr_histories.specs.Rooms.{Rooms, FitsRooms, HasRoomFor}
use Rattle.jlr_histories.proofs.Fitting.{answers_fit}
use Rattle.jlr_histories.proofs.Collecting.{new_objects_fit}
use Rattle.jlr_trace_fields.specs.declared.version.Version.TheVariants.{Two}
use Rattle.jlr_trace_fields.specs.Items.{Rises}
use Rattle.jlr_trace_entries.specs.Answers.{AnswerFits}
use Rattle.jlr_trace_entries.specs.Choices.{SlotIs, itself, CollectedFits, CollectionFits, ChoiceFits}
use Rattle.jlr_trace_entries.specs.Entries.{EntryFits}
use Rattle.jlr_trace.specs.Ranges.{AnswerRange, CollectedRange, ChoiceRange, EntryRange}
use Rattle.jlr_trace.proofs.ListLengths.{short, rising_distinct, rises}
use Rattle.jlr_trace.proofs.Objects.{object_within}

-- ---- What a collection keeps

-- slots below the most cells, rising and without repeats
record IsTame (c : Collected) : Type 0 where
  kept : (s : ℕ) → s ∈ c.kept → s < 65536
  pending : (s : ℕ) → s ∈ c.pending → s < 65536
  rising : is_rising c.kept ≡ true
  once : is_distinct c.pending ≡ true

module _ (m : Machine) (w : IsWellFormed m) where
  full_below : (kept pending : List ℕ) → IsFull m kept pending → (s : ℕ) → s ∈ kept → s < length m.objects
  full_below kept pending c s h =
      let i = well_formed_within m w in
      let live = kept_is_live m.objects (roots m) kept pending c i.edges s h in
      let edges = within_after Soft (IsDropped m.objects (roots m) kept) m.objects c.soft_left c.soft.1
      (drop_decided m.objects (roots m) kept i.edges) i.edges in
      let base : (x : ℕ) → x ∈ roots m → x < length c.soft_left = λ x k. subst (λ (n : ℕ). x < n) (sym c.soft.1.cells) (i.base x k) in
      let lt = reached_below UpToSoft c.soft_left (roots m) s
      (reached_complete UpToSoft c.soft_left (roots m) (narrow UpToSoft c.soft_left (roots m) edges) base s live) in
      subst (λ (n : ℕ). s < n) c.soft.1.cells lt

  tame : (B : List ℕ) (c : Collected) → IsCollection m.objects B c.kept c.pending → ((s : ℕ) → s ∈ c.kept → s < length m.objects) → IsTame c
  tame B c collection below = record {
    kept = λ s h. (let lt = below s h in omega (arith, lt, w.limits.cells));
    pending = λ s h. (let lt = below s ((collection.pended s).0 h).0 in omega (arith, lt, w.limits.cells));
    rising = collection.rising;
    once = collection.once;
  }

  full_is_tame : (c : Collected) → IsFull m c.kept c.pending → IsTame c
  full_is_tame c h = tame (roots m) c h (full_below c.kept c.pending h)

  came : (ask : Ask) (c : Collected) → MayCollect m ask (Some c) → IsTame c
  came (Full k Policy) c h = full_is_tame c h
  came (Full k ClearAll) c h = full_is_tame c h.full
  came Collect c h = tame (roots m ++ c.kept) c h.1.collection (λ s k. object_within m s (h.1.objects s k))
  came ask c h = full_is_tame c h.1.full

-- ---- Choices

same_items : (xs : List ℕ) → map itself xs ≡ xs
same_items [] = refl
same_items (x ∷ xs) = ap (λ (l : List ℕ). x ∷ l) (same_items xs)

rises_itself : (xs : List ℕ) → is_rising xs ≡ true → Rises itself None xs
rises_itself xs r = rises itself xs (subst (λ (l : List ℕ). is_rising l ≡ true) (sym (same_items xs)) r)

collected_fits : (c : Collected) → IsTame c → AllByRecursion SlotIs c.kept → AllByRecursion SlotIs c.pending → CollectedFits c
collected_fits c t kept pending =
    let some = short c.kept 65536 (rising_distinct c.kept t.rising) t.kept in
    let more = short c.pending 65536 t.once t.pending in
    record {
      kept = record { listed = record { count = omega (arith, some); each = kept }; rises = rises_itself c.kept t.rising };
      pending = record { count = omega (arith, more); each = pending };
    }

abbrev ComesTame : Option Collected → Type 0
ComesTame None = Unit {0}
ComesTame (Some c) = IsTame c

collection_fits : (o : Option Collected) → ComesTame o → CollectedRange o → CollectionFits o
collection_fits None t range = tt
collection_fits (Some c) t range = collected_fits c t range.0 range.1

comes_tame : (m : Machine) (w : IsWellFormed m) (ask : Ask) (o : Option Collected) → MayCollect m ask o → ComesTame o
comes_tame m w ask None h = tt
comes_tame m w ask (Some c) h = came m w ask c h

abbrev collection_in : Chosen → Option Collected
collection_in c = c.collected

all_tame : (m : Machine) (w : IsWellFormed m) (e : Entry) → IsLegal m e → ComesTame e.choice.collected
all_tame m w e (carried_out x) = comes_tame m w e.ask e.choice.collected x.collection
all_tame m w e (refused x) = subst ComesTame (sym (ap collection_in x.nothing)) tt
all_tame m w e (heap_full x) = subst ComesTame (sym (ap collection_in x.collects)) (full_is_tame m w x.clearing x.full.full)
all_tame m w e (out_of_memory x) = subst ComesTame (sym (ap collection_in x.nothing)) tt

no_more : (ask : Ask) → leb (cells_needed ask) 2 ≡ true
no_more (Prepare k) = refl
no_more ask = refl

at_most_two : (ask : Ask) → cells_needed ask ≤ 2
at_most_two ask = leb-true (cells_needed ask) 2 (no_more ask)

choice_fits : (m : Machine) (w : IsWellFormed m) (e : Entry) → IsLegal m e → ChoiceRange e.choice → ChoiceFits e.choice
choice_fits m w e legal range =
    let few = new_objects_fit m e legal in
    let two = at_most_two e.ask in
    record {
      collected = collection_fits e.choice.collected (all_tame m w e legal) range.collected;
      fresh =
          record { few = omega (arith, few, two); each = range.fresh };
    }

-- ---- Answers

abbrev room : Rooms
room = record { names = 256; notes = 256; faults = 256; bytes = 1 }

has_room : (ask : Ask) → HasRoomFor ask room
has_room (AskNames k) = omega arith
has_room (AskNotes k) = omega arith
has_room (AskFaults k) = omega arith
has_room (CheckIn k (GotData bytes)) = omega arith
has_room (CheckIn k (GotWrote n)) = tt
has_room (CheckIn k (GotFailed fault)) = tt
has_room ask = tt

answer_fits : (a : Answer) → AnswerRange a → FitsRooms room a → AnswerFits a
answer_fits (Names x) range few = record { count = omega (arith, few); each = range }
answer_fits (Notes x) range few = record { count = omega (arith, few); each = range }
answer_fits (Faults x) range few = record { count = omega (arith, few); each = range }
answer_fits a range few = range

-- ---- Entries

pub entry_fits : (m : Machine) (w : IsWellFormed m) (e : Entry) → IsLegal m e → EntryRange e → EntryFits Two e
entry_fits m w e legal range = record {
  seat = range.seat;
  ask = range.ask;
  answer = answer_fits e.answer range.answer (answers_fit m e room w legal (has_room e.ask));
  choice = choice_fits m w e legal range.choice;
}

pub entries_fit : (m n : Machine) (entries : List Entry) → IsWellFormed m → Run m entries n → AllByRecursion EntryRange entries
    → AllByRecursion (EntryFits Two) entries
entries_fit m n [] w r range = tt
entries_fit m n (e ∷ entries) w r range =
    (entry_fits m w e r.0 range.0, entries_fit (apply m e) n entries (legal_kept m e w r.0) r.1 range.1)
