-- Which entries are legal is decided.
use Rattle.std.proofs.Common.{◌≡◌, ℕ, ◌+◌, ◌<◌, ◌^◌, Bool, true, false, not, ◌&&◌, ◌||◌, Decides, IsTrue, List, [], ◌∷◌, length, refl, sym}
use Rattle.std.proofs.Common.{◌∙◌, ap, subst, inl, inr, Option, Some, None, is_some, is_none, nat_eq, nat_lt}
use Rattle.std.specs.List.{list_all}
use Rattle.std.proofs.lemmas.Bool.{both_ways, or_cases, or_left, or_right}
use Rattle.std.proofs.lemmas.Bool.Decides.{Decides-and, Decides-eqb, Decides-ltb}
use Rattle.jlr_types.specs.declared.Refusal.TheVariants.{NoMemory, HeapFull}
use Rattle.jlr_machine.specs.declared.machine.Machine.{Machine}
use Rattle.jlr_machine.specs.declared.entry.Entry.{Entry}
use Rattle.jlr_machine.specs.Chosen.{Chosen}
use Rattle.jlr_machine.specs.declared.entry.Collected.{Collected}
use Rattle.jlr_machine.specs.declared.ask.Ask.{Ask}
use Rattle.jlr_machine.specs.declared.ask.Ask.TheVariants.{Prepare}
use Rattle.jlr_machine.specs.declared.ask.Ask.TheVariants.{Full, Collect}
use Rattle.jlr_machine.specs.declared.ask.FullMode.TheVariants.{Policy, ClearAll}
use Rattle.jlr_machine.specs.declared.ask.Answer.{Answer}
use Rattle.jlr_machine.specs.declared.ask.Answer.TheVariants.{Done, Handle as HandleAnswer, Truth, Int as IntAnswer, Data, Wrote, Faulted}
use Rattle.jlr_machine.specs.declared.ask.Answer.TheVariants.{Names as NamesAnswer, Notes as NotesAnswer, Faults as FaultsAnswer}
use Rattle.jlr_machine.specs.declared.ask.Answer.TheVariants.{Stat as StatAnswer, Job as JobAnswer, AlreadyDone, Prepared, Out as OutAnswer}
use Rattle.jlr_machine.specs.declared.ask.Answer.TheVariants.{Handed as HandedAnswer, Refused}
use Rattle.jlr_machine.specs.Objects.{Heap, is_distinct, some_and}
use Rattle.jlr_machine.specs.Edges.{roots}
use Rattle.jlr_machine.specs.Collection.{IsFull, IsFullClearing}
use Rattle.jlr_machine.specs.Lookups.{resource_at}
use Rattle.jlr_machine.specs.Refusals.{is_end, cells_needed, refusal}
use Rattle.jlr_machine.specs.Calls.{reply}
use Rattle.jlr_machine.specs.Run.{has_room, MayCollect, with_collection, Answers, is_free, IsFresh, IsCarriedOut, IsRefused, IsHeapFull}
use Rattle.jlr_machine.specs.Run.{IsOutOfMemory, IsLegal, done}
use Rattle.jlr_laws.proofs.SeenKept.{now_seen_within}
use Rattle.jlr_machine.specs.Run.IsLegal.{carried_out, refused, heap_full, out_of_memory}
use Rattle.jlr_laws.specs.Laws.{IsWithinHeap, IsSeenWithin}
use Rattle.jlr_laws.specs.Same.{same_answer}
use Rattle.jlr_laws.specs.Deciding.{is_full, is_full_clearing, is_background, may_have_collected, gives_new_rid, is_answer, are_fresh}
use Rattle.jlr_laws.specs.Deciding.{is_empty}
use Rattle.jlr_laws.specs.Deciding.{chooses_nothing, is_carried_out, is_rightly_refused, leaves_too_few, is_heap_full, is_out_of_memory}
use Rattle.jlr_laws.specs.Deciding.{is_legal}
use Rattle.jlr_laws.specs.Deciding.{LegalityIsDecided, SeenIsWithin}
use Rattle.jlr_laws.proofs.Empty.{well_formed_within}
use Rattle.jlr_laws.proofs.Decided.{Decides-true, Decides-three, Decides-four, collections_are_decided, background_is_decided}
use Rattle.jlr_laws.proofs.Decided.{clearing_is_decided}
use Rattle.jlr_laws.proofs.SameProof.{Decides-answer}

-- ---- Parts

Decides-none : {A : Type 0} (o : Option A) → Decides (is_none o) (o ≡ None)
Decides-none None = (λ _. refl, λ _. refl)
Decides-none (Some x) = (λ h. absurd (both_ways false refl h), λ e. ap is_none e)

Decides-empty : (l : List ℕ) → Decides (is_empty l) (l ≡ [])
Decides-empty [] = (λ _. refl, λ _. refl)
Decides-empty (x ∷ xs) = (λ h. absurd (both_ways false refl h), λ e. ap is_empty e)

Decides-some_and : {A : Type 0} (test : A → Bool) (P : A → Type 0) → ((x : A) → Decides (test x) (P x)) → (o : Option A)
    → Decides (some_and test o) ((x : A) × (o ≡ Some x) × P x)
Decides-some_and test P each None = (λ h. absurd (both_ways false refl h), λ r. absurd (both_ways false refl (ap is_some r.1)))
Decides-some_and test P each (Some x) = (
  (λ h. (x, refl, (each x).0 h)),
  (λ r. ap (some_and test) r.1 ∙ (each r.0).1 r.2),
)

choice_is : (c : Chosen) (x : Option Collected) (l : List ℕ) → c.collected ≡ x → c.fresh ≡ l → c ≡ record { collected = x; fresh = l }
choice_is c x l e f =
    ap {A = Option Collected} {B = Chosen} (λ y. record { collected = y; fresh = c.fresh }) e
    ∙ ap {A = List ℕ} {B = Chosen} (λ y. record { collected = x; fresh = y }) f

Decides-nothing : (c : Chosen) → Decides (chooses_nothing c) (c ≡ record { collected = None; fresh = [] })
Decides-nothing c =
    let both = Decides-and (is_none c.collected) (is_empty c.fresh) (Decides-none c.collected) (Decides-empty c.fresh) in (
      (λ h. let p = both.0 h in choice_is c None [] p.0 p.1),
      (λ e. both.1 (ap (λ (x : Chosen). x.collected) e, ap (λ (x : Chosen). x.fresh) e)),
    )

Decides-fresh : (heap : Heap) (cells : ℕ) (fresh : List ℕ) → Decides (are_fresh heap cells fresh) (IsFresh heap cells fresh)
Decides-fresh heap cells fresh =
    let three = Decides-three (nat_eq (length fresh) cells) (list_all (is_free heap) fresh) (is_distinct fresh)
    (Decides-eqb (length fresh) cells) (Decides-true (list_all (is_free heap) fresh)) (Decides-true (is_distinct fresh)) in (
      (λ h. let p = three.0 h in record { count = p.0; free = p.1; distinct = p.2 }),
      (λ r. three.1 (r.count, r.free, r.distinct)),
    )

-- ---- Answers

abbrev GivesNewRid : Machine → Answer → Type 0
GivesNewRid m a = (rid : ℕ) × (rid < 2 ^ 32) × IsTrue (is_none (resource_at m rid)) × (a ≡ Prepared rid)

abbrev is_prepared : Answer → Bool
is_prepared (Prepared rid) = true
is_prepared _ = false

abbrev rid_prepared : Answer → ℕ
rid_prepared (Prepared rid) = rid
rid_prepared _ = 0

-- any other answer
no_rid : (m : Machine) (a : Answer) → is_prepared a ≡ false → gives_new_rid m a ≡ false → Decides (gives_new_rid m a) (GivesNewRid m a)
no_rid m a n f = ((λ h. absurd (both_ways (gives_new_rid m a) f h)), (λ r. absurd (both_ways (is_prepared a) n (ap is_prepared r.3))))

Decides-new_rid : (m : Machine) (a : Answer) → Decides (gives_new_rid m a) (GivesNewRid m a)
Decides-new_rid m (Prepared rid) =
    let both = Decides-and (nat_lt rid (2 ^ 32)) (is_none (resource_at m rid)) (Decides-ltb rid (2 ^ 32))
    (Decides-true (is_none (resource_at m rid))) in (
      (λ h. let p = both.0 h in (rid, p.0, p.1, refl)),
      (λ r.
          let e : rid ≡ r.0 = ap rid_prepared r.3 in
          subst (λ n. (nat_lt n (2 ^ 32) && is_none (resource_at m n)) ≡ true) (sym e)
          ((Decides-and (nat_lt r.0 (2 ^ 32)) (is_none (resource_at m r.0)) (Decides-ltb r.0 (2 ^ 32))
          (Decides-true (is_none (resource_at m r.0)))).1 (r.1, r.2))),
    )
Decides-new_rid m Done = no_rid m Done refl refl
Decides-new_rid m (HandleAnswer n) = no_rid m (HandleAnswer n) refl refl
Decides-new_rid m (Truth b) = no_rid m (Truth b) refl refl
Decides-new_rid m (IntAnswer n) = no_rid m (IntAnswer n) refl refl
Decides-new_rid m (Data l) = no_rid m (Data l) refl refl
Decides-new_rid m (Wrote n) = no_rid m (Wrote n) refl refl
Decides-new_rid m (Faulted f) = no_rid m (Faulted f) refl refl
Decides-new_rid m (NamesAnswer l) = no_rid m (NamesAnswer l) refl refl
Decides-new_rid m (NotesAnswer l) = no_rid m (NotesAnswer l) refl refl
Decides-new_rid m (FaultsAnswer l) = no_rid m (FaultsAnswer l) refl refl
Decides-new_rid m (StatAnswer s) = no_rid m (StatAnswer s) refl refl
Decides-new_rid m (JobAnswer n w) = no_rid m (JobAnswer n w) refl refl
Decides-new_rid m AlreadyDone = no_rid m AlreadyDone refl refl
Decides-new_rid m (OutAnswer n) = no_rid m (OutAnswer n) refl refl
Decides-new_rid m (HandedAnswer h) = no_rid m (HandedAnswer h) refl refl
Decides-new_rid m (Refused r) = no_rid m (Refused r) refl refl

-- the answer that the machine determines
Decides-reply : (m : Machine) (ask : Ask) (a : Answer) → Decides (some_and (same_answer a) (reply m ask)) (reply m ask ≡ Some a)
Decides-reply m ask a =
    let d = Decides-some_and (same_answer a) (λ x. a ≡ x) (λ x. Decides-answer a x) (reply m ask) in (
      (λ h. let r = d.0 h in r.1 ∙ ap (λ x. Some x) (sym r.2)),
      (λ e. d.1 (a, e, refl)),
    )

Decides-is_answer : (m : Machine) (ask : Ask) (c : Option Collected) (a : Answer) → Decides (is_answer m ask c a) (Answers m ask c a)
Decides-is_answer m (Prepare k) c a = Decides-new_rid m a
Decides-is_answer m Collect c a = Decides-answer a (Truth (is_some c))
Decides-is_answer m asked c a = Decides-reply m asked a

-- ---- Collections

module _ (m : Machine) (w : IsWithinHeap m.objects (roots m)) (i : IsSeenWithin m) where
  Decides-full : (c : Collected) → Decides (is_full m c.kept c.pending) (IsFull m c.kept c.pending)
  Decides-full c = collections_are_decided m.objects (roots m) c.kept c.pending w

  Decides-clearing : (c : Collected) → Decides (is_full_clearing m c.kept c.pending) (IsFullClearing m c.kept c.pending)
  Decides-clearing c = clearing_is_decided m c.kept c.pending w

  -- of an ask whose objects may find no room
  no_room : (cells : ℕ) (c : Collected) → Decides (not (has_room m cells) && is_full_clearing m c.kept c.pending)
      (IsTrue (not (has_room m cells)) × IsFullClearing m c.kept c.pending)
  no_room cells c = Decides-and (not (has_room m cells)) (is_full_clearing m c.kept c.pending) (Decides-true (not (has_room m cells)))
      (Decides-clearing c)

  Decides-may_collect : (ask : Ask) (c : Option Collected) → Decides (may_have_collected m ask c) (MayCollect m ask c)
  Decides-may_collect (Full k Policy) (Some c) = Decides-full c
  Decides-may_collect (Full k ClearAll) (Some c) = Decides-clearing c
  Decides-may_collect (Full k Policy) None = ((λ h. absurd (both_ways false refl h)), (λ x. absurd x))
  Decides-may_collect (Full k ClearAll) None = ((λ h. absurd (both_ways false refl h)), (λ x. absurd x))
  Decides-may_collect Collect (Some c) =
      Decides-and m.cycle_open (is_background m c.kept c.pending) (Decides-true m.cycle_open) (background_is_decided m c.kept c.pending w i)
  Decides-may_collect Collect None = ((λ _. tt), (λ _. refl))
  Decides-may_collect asked (Some c) = no_room (cells_needed asked) c
  Decides-may_collect asked None = Decides-true (has_room m (cells_needed asked))

  -- ---- Entries

  Decides-carried_out : (e : Entry) → Decides (is_carried_out m e) (IsCarriedOut m e)
  Decides-carried_out e =
      let n = with_collection m e.choice.collected in
      let four =
      Decides-four (is_none (refusal m e.ask)) (may_have_collected m e.ask e.choice.collected)
      (are_fresh n.objects (cells_needed e.ask) e.choice.fresh) (is_answer n e.ask e.choice.collected e.answer)
      (Decides-none (refusal m e.ask)) (Decides-may_collect e.ask e.choice.collected)
      (Decides-fresh n.objects (cells_needed e.ask) e.choice.fresh) (Decides-is_answer n e.ask e.choice.collected e.answer) in (
        (λ h. let p = four.0 h in record { allowed = p.0; collection = p.1; fresh = p.2; answers = p.3 }),
        (λ r. four.1 (r.allowed, r.collection, r.fresh, r.answers)),
      )

  Decides-refused : (e : Entry) → Decides (is_rightly_refused m e) (IsRefused m e)
  Decides-refused e =
      let named = Decides-some_and (λ by. same_answer e.answer (Refused by)) (λ by. e.answer ≡ Refused by)
      (λ by. Decides-answer e.answer (Refused by)) (refusal m e.ask) in
      let both = Decides-and (some_and (λ by. same_answer e.answer (Refused by)) (refusal m e.ask)) (chooses_nothing e.choice) named
      (Decides-nothing e.choice) in (
        (λ h. let p = both.0 h in record { by = p.0.0; first = p.0.1; answers = p.0.2; nothing = p.1 }),
        (λ r. both.1 ((r.by, r.first, r.answers), r.nothing)),
      )

  abbrev LeavesTooFew : Ask → Collected → Type 0
  LeavesTooFew ask c = IsTrue (not (has_room m (cells_needed ask))) × IsFullClearing m c.kept c.pending
      × (length m.objects < length c.kept + cells_needed ask)

  Decides-too_few : (ask : Ask) (c : Collected) → Decides (leaves_too_few m ask c) (LeavesTooFew ask c)
  Decides-too_few ask c =
      Decides-three (not (has_room m (cells_needed ask))) (is_full_clearing m c.kept c.pending)
      (nat_lt (length m.objects) (length c.kept + cells_needed ask))
      (Decides-true (not (has_room m (cells_needed ask)))) (Decides-clearing c)
      (Decides-ltb (length m.objects) (length c.kept + cells_needed ask))

  Decides-heap_full : (e : Entry) → Decides (is_heap_full m e) (IsHeapFull m e)
  Decides-heap_full e =
      let four =
      Decides-four (is_none (refusal m e.ask)) (same_answer e.answer (Refused HeapFull)) (is_empty e.choice.fresh)
      (some_and (leaves_too_few m e.ask) e.choice.collected)
      (Decides-none (refusal m e.ask)) (Decides-answer e.answer (Refused HeapFull)) (Decides-empty e.choice.fresh)
      (Decides-some_and (leaves_too_few m e.ask) (LeavesTooFew e.ask) (Decides-too_few e.ask) e.choice.collected) in (
        (λ h.
            let p = four.0 h in
            record {
              allowed = p.0;
              answers = p.1;
              clearing = p.3.0;
              collects = choice_is e.choice (Some p.3.0) [] p.3.1 p.2;
              no_room = p.3.2.0;
              full = p.3.2.1;
              too_few = p.3.2.2;
            }),
        (λ r.
            four.1 (
              r.allowed,
              r.answers,
              ap (λ (x : Chosen). x.fresh) r.collects,
              (r.clearing, ap (λ (x : Chosen). x.collected) r.collects, (r.no_room, r.full, r.too_few)),
            )),
      )

  Decides-out_of_memory : (e : Entry) → Decides (is_out_of_memory m e) (IsOutOfMemory m e)
  Decides-out_of_memory e =
      let three =
      Decides-three (not (is_end e.ask)) (same_answer e.answer (Refused NoMemory)) (chooses_nothing e.choice)
      (Decides-true (not (is_end e.ask))) (Decides-answer e.answer (Refused NoMemory)) (Decides-nothing e.choice) in (
        (λ h. let p = three.0 h in record { no_end = p.0; answers = p.1; nothing = p.2 }),
        (λ r. three.1 (r.no_end, r.answers, r.nothing)),
      )

  pub any_case : (e : Entry) → IsTrue (is_legal m e) → IsLegal m e
  any_case e h =
      let a = is_carried_out m e in
      let b = is_rightly_refused m e in
      let c = is_heap_full m e in
      elim (or_cases (a || b || c) (is_out_of_memory m e) h) [
        | inl h ↦ elim (or_cases (a || b) c h) [
          | inl h ↦ elim (or_cases a b h) [
            | inl h ↦ carried_out ((Decides-carried_out e).0 h)
            | inr h ↦ refused ((Decides-refused e).0 h)
          ]
          | inr h ↦ heap_full ((Decides-heap_full e).0 h)
        ]
        | inr h ↦ out_of_memory ((Decides-out_of_memory e).0 h)
      ]

  each_case : (e : Entry) → IsLegal m e → IsTrue (is_legal m e)
  each_case e (carried_out r) = or_left (is_carried_out m e || is_rightly_refused m e || is_heap_full m e) (is_out_of_memory m e)
      (or_left (is_carried_out m e || is_rightly_refused m e) (is_heap_full m e)
      (or_left (is_carried_out m e) (is_rightly_refused m e) ((Decides-carried_out e).1 r)))
  each_case e (refused r) = or_left (is_carried_out m e || is_rightly_refused m e || is_heap_full m e) (is_out_of_memory m e)
      (or_left (is_carried_out m e || is_rightly_refused m e) (is_heap_full m e)
      (or_right (is_carried_out m e) (is_rightly_refused m e) ((Decides-refused e).1 r)))
  each_case e (heap_full r) = or_left (is_carried_out m e || is_rightly_refused m e || is_heap_full m e) (is_out_of_memory m e)
      (or_right (is_carried_out m e || is_rightly_refused m e) (is_heap_full m e) ((Decides-heap_full e).1 r))
  each_case e (out_of_memory r) =
      or_right (is_carried_out m e || is_rightly_refused m e || is_heap_full m e) (is_out_of_memory m e) ((Decides-out_of_memory e).1 r)

pub legality_is_decided : LegalityIsDecided
legality_is_decided m e w = (any_case m (well_formed_within m w) w.seen_within e, each_case m (well_formed_within m w) w.seen_within e)

pub seen_is_within : SeenIsWithin
seen_is_within m e s h = now_seen_within (done m e) s h
