-- The cases of a legal entry: what is left is well formed where the ask, carried out, leaves a well-formed machine.
use Rattle.std.proofs.Common.{◌≡◌, ℕ, ◌+◌, Bool, false, not, cond, ◌||◌, List, [], ◌∷◌, ◌++◌, length, refl, sym, ◌∙◌, ap, subst, arith}
use Rattle.std.proofs.Common.{IsTrue, Some, None, find, is_some}
use Rattle.std.proofs.lemmas.Bool.{both_ways, not-true, le-leb}
use Rattle.std.proofs.lemmas.List.Sums.{count_by-le-length}
use Rattle.jlr_types.specs.declared.Refusal.{Refusal}
use Rattle.jlr_types.specs.declared.Refusal.TheVariants.{WrongKind}
use Rattle.jlr_types.specs.declared.RefKind.{RefKind}
use Rattle.jlr_machine.specs.declared.object.Object.{Object}
use Rattle.jlr_machine.specs.declared.object.Object.TheVariants.{Plain, Reference, Queue, Cleaner, Cleanable, Guard}
use Rattle.jlr_machine.specs.declared.machine.Machine.{Machine}
use Rattle.jlr_machine.specs.declared.ask.Ask.{Ask}
use Rattle.jlr_machine.specs.declared.ask.Ask.TheVariants.{MakeRef, Register, Full, Collect}
use Rattle.jlr_machine.specs.declared.ask.FullMode.{FullMode}
use Rattle.jlr_machine.specs.declared.ask.FullMode.TheVariants.{Policy, ClearAll}
use Rattle.jlr_machine.specs.declared.ask.Answer.{Answer}
use Rattle.jlr_machine.specs.declared.ask.Answer.TheVariants.{Refused}
use Rattle.jlr_machine.specs.declared.entry.Entry.{Entry}
use Rattle.jlr_machine.specs.Chosen.{Chosen}
use Rattle.jlr_machine.specs.declared.entry.Collected.{Collected}
use Rattle.jlr_machine.specs.Objects.{occupied, is_cleaner}
use Rattle.jlr_machine.specs.Edges.{roots}
use Rattle.jlr_machine.specs.Collection.{IsFull, IsBackground, after_collection, left_of}
use Rattle.jlr_machine.specs.Refusals.{refusal, applies, listed, cells_needed, object, object_or_null, is_any, is_queue, is_of_wrong_kind}
use Rattle.jlr_machine.specs.Calls.{after}
use Rattle.jlr_machine.specs.Run.{has_room, MayCollect, with_collection, IsFresh, IsCarriedOut, IsRefused, IsHeapFull, IsOutOfMemory}
use Rattle.jlr_machine.specs.Run.{carried, done, apply}
use Rattle.jlr_machine.specs.WellFormed.{IsWellFormed}
use Rattle.jlr_laws.proofs.Clearing.{in_left}
use Rattle.jlr_laws.proofs.Empty.{well_formed_within}
use Rattle.jlr_laws.proofs.Left.{is_left}
use Rattle.jlr_laws.proofs.CollectionKept.{collection_kept, wrong_kind_kept}
use Rattle.jlr_laws.proofs.SeenKept.{keeps_seen}

-- ---- Collections

pub keeps_full : (m : Machine) → IsWellFormed m → (kept pending : List ℕ) → IsFull m kept pending
    → IsWellFormed (after_collection m kept pending)
keeps_full m w kept pending c =
    collection_kept m (roots m) kept pending w (is_left m.objects (roots m) kept pending c (well_formed_within m w).edges) (λ s h. h)

pub keeps_background : (m : Machine) → IsWellFormed m → (kept pending : List ℕ) → IsBackground m kept pending
    → IsWellFormed (after_collection m kept pending)
keeps_background m w kept pending c =
    collection_kept m (roots m ++ kept) kept pending w
    (is_left m.objects (roots m ++ kept) kept pending c.collection (well_formed_within m w).edges) (λ s h. in_left s (roots m) kept h)

-- ---- An ask that is refused

-- the machine is as it was
pub keeps_same : (m : Machine) (e : Entry) → IsWellFormed m → done m e ≡ m → IsWellFormed (apply m e)
keeps_same m e w same = keeps_seen (done m e) (subst IsWellFormed (sym same) w)

nothing_done : (m : Machine) (e : Entry) (by : Refusal) → e.answer ≡ Refused by → e.choice ≡ record { collected = None; fresh = [] }
    → done m e ≡ m
nothing_done m e by a n = ap (λ (c : Chosen). carried (with_collection m c.collected) e.ask e.answer c.fresh) n
    ∙ ap (λ a. carried m e.ask a []) a

pub keeps_refused : (m : Machine) (e : Entry) → IsWellFormed m → IsRefused m e → IsWellFormed (apply m e)
keeps_refused m e w r = keeps_same m e w (nothing_done m e r.by r.answers r.nothing)

pub keeps_out_of_memory : (m : Machine) (e : Entry) → IsWellFormed m → IsOutOfMemory m e → IsWellFormed (apply m e)
keeps_out_of_memory m e w r = keeps_same m e w (nothing_done m e _ r.answers r.nothing)

pub keeps_heap_full : (m : Machine) (e : Entry) → IsWellFormed m → IsHeapFull m e → IsWellFormed (apply m e)
keeps_heap_full m e w r =
    let c = r.clearing in
    let same : done m e ≡ after_collection m c.kept c.pending =
    ap (λ (c : Chosen). carried (with_collection m c.collected) e.ask e.answer c.fresh) r.collects
    ∙ ap (λ a. carried (after_collection m c.kept c.pending) e.ask a []) r.answers in
    keeps_seen (done m e) (subst IsWellFormed (sym same) (keeps_full m w c.kept c.pending r.full.full))

-- ---- An ask that is carried out

-- whatever the answer
carried_kept : (n : Machine) (ask : Ask) (a : Answer) (fresh : List ℕ) → IsWellFormed n → IsWellFormed (after n ask a fresh)
    → IsWellFormed (carried n ask a fresh)
carried_kept n ask (Refused by) fresh w v = w
carried_kept n ask a fresh w v = v

abbrev pub entry : ℕ → Ask → Answer → Chosen → Entry
entry seat ask answer choice = record { seat = seat; ask = ask; answer = answer; choice = choice }

-- there is always room for no object
pub no_need : (m : Machine) → IsTrue (not (has_room m 0)) → ⊥
no_need m h = both_ways (has_room m 0) (not-true (has_room m 0) h)
    (le-leb (occupied m.objects + 0) (length m.objects) (omega (arith, count_by-le-length is_some m.objects)))

-- no collection comes with an ask that makes no object
pub keeps_plainly : (m : Machine) → IsWellFormed m → (seat : ℕ) (ask : Ask) (answer : Answer) (choice : Chosen)
    → IsCarriedOut m (entry seat ask answer choice) → ((c : Collected) → MayCollect m ask (Some c) → ⊥)
    → ((a : Answer) (fresh : List ℕ) → IsWellFormed (after m ask a fresh)) → IsWellFormed (done m (entry seat ask answer choice))
keeps_plainly m w seat ask answer choice c none kept =
    elim (choice.collected) as (λ o. MayCollect m ask o → IsWellFormed (carried (with_collection m o) ask answer choice.fresh)) [
      | None ↦ λ h. carried_kept m ask answer choice.fresh w (kept answer choice.fresh)
      | Some x ↦ λ h. absurd (none x h)
    ] c.collection

-- an ask that makes objects may come after a full collection
pub keeps_making : (m : Machine) → IsWellFormed m → (seat : ℕ) (ask : Ask) (answer : Answer) (choice : Chosen)
    → IsCarriedOut m (entry seat ask answer choice)
    → ((c : Collected) → MayCollect m ask (Some c) → IsFull m c.kept c.pending)
    → ((c : Collected) → IsFull m c.kept c.pending → refusal (after_collection m c.kept c.pending) ask ≡ refusal m ask)
    → ((n : Machine) → IsWellFormed n → refusal n ask ≡ None → IsFresh n.objects (cells_needed ask) choice.fresh
    → IsWellFormed (after n ask answer choice.fresh))
    → IsWellFormed (done m (entry seat ask answer choice))
keeps_making m w seat ask answer choice c full same kept =
    elim (choice.collected) as (λ o. MayCollect m ask o → IsFresh (with_collection m o).objects (cells_needed ask) choice.fresh
    → IsWellFormed (carried (with_collection m o) ask answer choice.fresh)) [
      | None ↦ λ h f. carried_kept m ask answer choice.fresh w (kept m w c.allowed f)
      | Some x ↦ λ h f.
          let n = after_collection m x.kept x.pending in
          let v : IsWellFormed n = keeps_full m w x.kept x.pending (full x h) in
          carried_kept n ask answer choice.fresh v (kept n v (same x (full x h) ∙ c.allowed) f)
    ] c.collection c.fresh

-- ---- A collection that was asked for

full_of : (m : Machine) (k : ℕ) (mode : FullMode) (x : Collected) → MayCollect m (Full k mode) (Some x) → IsFull m x.kept x.pending
full_of m k Policy x h = h
full_of m k ClearAll x h = h.full

pub keeps_Full : (m : Machine) → IsWellFormed m → (seat k : ℕ) (mode : FullMode) (answer : Answer) (choice : Chosen)
    → IsCarriedOut m (entry seat (Full k mode) answer choice) → IsWellFormed (done m (entry seat (Full k mode) answer choice))
keeps_Full m w seat k mode answer choice c =
    elim (choice.collected) as (λ o. MayCollect m (Full k mode) o
    → IsWellFormed (carried (with_collection m o) (Full k mode) answer choice.fresh)) [
      | None ↦ λ h. carried_kept m (Full k mode) answer choice.fresh w w
      | Some x ↦ λ h.
          let n = after_collection m x.kept x.pending in
          let v : IsWellFormed n = keeps_full m w x.kept x.pending (full_of m k mode x h) in
          carried_kept n (Full k mode) answer choice.fresh v v
    ] c.collection

pub keeps_Collect : (m : Machine) → IsWellFormed m → (seat : ℕ) (answer : Answer) (choice : Chosen)
    → IsCarriedOut m (entry seat Collect answer choice) → IsWellFormed (done m (entry seat Collect answer choice))
keeps_Collect m w seat answer choice c =
    elim (choice.collected) as (λ o. MayCollect m Collect o → IsWellFormed (carried (with_collection m o) Collect answer choice.fresh)) [
      | None ↦ λ h. carried_kept m Collect answer choice.fresh w w
      | Some x ↦ λ h.
          let n = after_collection m x.kept x.pending in
          let v : IsWellFormed n = keeps_background m w x.kept x.pending h.1 in
          carried_kept n Collect answer choice.fresh v v
    ] c.collection

-- ---- After a collection the same asks are refused

find_same : {A : Type 0} (p q : A → Bool) (xs : List A) → ((x : A) → p x ≡ q x) → find p xs ≡ find q xs
find_same p q [] h = refl
find_same p q (x ∷ xs) h = ap (λ b. cond b (Some x) (find p xs)) (h x) ∙ ap (λ o. cond (q x) (Some x) o) (find_same p q xs h)

queue_left : (kept : List ℕ) (b : Bool) (o : Object) → is_queue (left_of kept b o) ≡ is_queue o
queue_left kept b (Plain fields) = refl
queue_left kept b (Reference r) = refl
queue_left kept b (Queue members) = refl
queue_left kept b Cleaner = refl
queue_left kept b (Cleanable c) = refl
queue_left kept b (Guard g) = refl

cleaner_left : (kept : List ℕ) (b : Bool) (o : Object) → is_cleaner (left_of kept b o) ≡ is_cleaner o
cleaner_left kept b (Plain fields) = refl
cleaner_left kept b (Reference r) = refl
cleaner_left kept b (Queue members) = refl
cleaner_left kept b Cleaner = refl
cleaner_left kept b (Cleanable c) = refl
cleaner_left kept b (Guard g) = refl

module _ (m : Machine) (w : IsWellFormed m) (kept pending : List ℕ) (c : IsFull m kept pending) where
  abbrev n : Machine
  n = after_collection m kept pending

  any_kept : (k h : ℕ) → is_of_wrong_kind n k (object h is_any) ≡ is_of_wrong_kind m k (object h is_any)
  any_kept k h = wrong_kind_kept m (roots m) kept pending w (is_left m.objects (roots m) kept pending c (well_formed_within m w).edges)
      (λ s h. h) k (object h is_any) (λ b o. refl)

  queue_kept : (k h : ℕ) → is_of_wrong_kind n k (object_or_null h is_queue) ≡ is_of_wrong_kind m k (object_or_null h is_queue)
  queue_kept k h = wrong_kind_kept m (roots m) kept pending w (is_left m.objects (roots m) kept pending c (well_formed_within m w).edges)
      (λ s h. h) k (object_or_null h is_queue) (λ b o. queue_left kept b o)

  cleaner_kept : (k h : ℕ) → is_of_wrong_kind n k (object h is_cleaner) ≡ is_of_wrong_kind m k (object h is_cleaner)
  cleaner_kept k h = wrong_kind_kept m (roots m) kept pending w (is_left m.objects (roots m) kept pending c (well_formed_within m w).edges)
      (λ s h. h) k (object h is_cleaner) (λ b o. cleaner_left kept b o)

  make_ref_applies : (k : ℕ) (kind : RefKind) (h q : ℕ) (r : Refusal) → applies n (MakeRef k kind h q) r ≡ applies m (MakeRef k kind h q) r
  make_ref_applies k kind h q WrongKind =
      ap (λ b. b || (is_of_wrong_kind n k (object_or_null q is_queue) || false)) (any_kept k h)
      ∙ ap (λ b. is_of_wrong_kind m k (object h is_any) || (b || false)) (queue_kept k q)
  make_ref_applies k kind h q r = refl

  pub make_ref_refusal : (k : ℕ) (kind : RefKind) (h q : ℕ) → refusal n (MakeRef k kind h q) ≡ refusal m (MakeRef k kind h q)
  make_ref_refusal k kind h q = find_same (applies n (MakeRef k kind h q)) (applies m (MakeRef k kind h q)) (listed (MakeRef k kind h q))
      (make_ref_applies k kind h q)

  register_applies : (k d h note : ℕ) (r : Refusal) → applies n (Register k d h note) r ≡ applies m (Register k d h note) r
  register_applies k d h note WrongKind =
      ap (λ b. b || (is_of_wrong_kind n k (object h is_any) || false)) (cleaner_kept k d)
      ∙ ap (λ b. is_of_wrong_kind m k (object d is_cleaner) || (b || false)) (any_kept k h)
  register_applies k d h note r = refl

  pub register_refusal : (k d h note : ℕ) → refusal n (Register k d h note) ≡ refusal m (Register k d h note)
  register_refusal k d h note = find_same (applies n (Register k d h note)) (applies m (Register k d h note)) (listed (Register k d h note))
      (register_applies k d h note)
