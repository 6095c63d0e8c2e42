-- Legal entries, from what an ask did.
use Rattle.std.proofs.Common.{◌≡◌, ◌+◌, ◌&&◌, ◌||◌, ◌==◌, zero, suc, ℕ, ◌<◌, Bool, true, false, not, List, [], ◌∷◌, length, replicate}
use Rattle.std.proofs.Common.{Option, Some, None, Result, Ok, Err, IsTrue, is_some, is_none, refl, sym, ◌∙◌, ap, subst, arith, find, cond}
use Rattle.std.proofs.Common.{map, option_and_then}
use Rattle.std.proofs.lemmas.Bool.{both_ways, le-leb, ne_eqb}
use Rattle.std.proofs.lemmas.List.Sums.{count_by-le-length}
use Rattle.jlr_types.specs.declared.FieldKind.{FieldKind}
use Rattle.jlr_types.specs.declared.RefKind.{RefKind}
use Rattle.jlr_types.specs.declared.Refusal.{Refusal}
use Rattle.jlr_types.specs.declared.Refusal.TheVariants.{NoMemory, NoSession, NoHandle, Null, WrongKind, Busy, HandlesFull, HeapFull}
use Rattle.jlr_machine.specs.declared.object.Object.{Object}
use Rattle.jlr_types.specs.declared.Work.TheVariants.{Note}
use Rattle.jlr_machine.specs.declared.object.CleanState.TheVariants.{Armed}
use Rattle.jlr_machine.specs.declared.object.Object.TheVariants.{Plain, Cleanable, Cleaner, Queue, Reference}
use Rattle.jlr_machine.specs.declared.object.Contents.TheVariants.{Elements, Typed}
use Rattle.jlr_machine.specs.declared.object.RefState.TheVariants.{Fresh}
use Rattle.jlr_machine.specs.declared.machine.Machine.{Machine}
use Rattle.jlr_machine.specs.declared.machine.Session.{Session}
use Rattle.jlr_machine.specs.declared.ask.Ask.{Ask}
use Rattle.jlr_machine.specs.declared.ask.Ask.TheVariants.{New, MakeRef}
use Rattle.jlr_machine.specs.declared.ask.Ask.TheVariants.{MakeCleaner, MakeQueue, Register, Prepare}
use Rattle.jlr_machine.specs.declared.ask.Ask.TheVariants.{Full, Collect, Array}
use Rattle.jlr_machine.specs.declared.ask.FullMode.{FullMode}
use Rattle.jlr_machine.specs.declared.ask.FullMode.TheVariants.{Policy, ClearAll}
use Rattle.jlr_machine.specs.declared.ask.Answer.{Answer}
use Rattle.jlr_machine.specs.declared.ask.Answer.TheVariants.{Done, Prepared, Refused}
use Rattle.jlr_machine.specs.Chosen.{Chosen}
use Rattle.jlr_machine.specs.declared.entry.Collected.{Collected}
use Rattle.jlr_machine.specs.Objects.{Heap, at, occupied, some_and, Table}
use Rattle.jlr_machine.specs.Lookups.{blank, with_handle, with_new, resource_at, slot_named, has_free_handle, object_named}
use Rattle.jlr_machine.specs.Refusals.{refusal, cells_needed, is_joined, has_call, is_any, applies, is_of_wrong_kind, listed}
use Rattle.jlr_machine.specs.Refusals.{object_or_null, is_queue}
use Rattle.jlr_machine.specs.Calls.{reply, after, new_handle}
use Rattle.jlr_machine.specs.Choices.{Choosing}
use Rattle.jlr_machine.specs.Collection.{after_collection}
use Rattle.jlr_machine.specs.Run.{has_room, MayCollect, with_collection, Answers, is_free, IsFresh, carried, no_choice}
use Rattle.jlr_machine.specs.Run.IsLegal.{carried_out, refused, heap_full}
use Rattle.jlr_laws.proofs.Frames.{no_some, some_same}
use Rattle.jlr_laws.proofs.Refused.{is_refusal, gives_no_refusal}
use Rattle.jlr_state.specs.State.{Answered, Meets, answer_of}
use Rattle.jlr_machine.specs.Calls.{prepared}
use Rattle.jlr_barrier.specs.Guards.{AreFree}
use Rattle.jlr_state.specs.Preparing.{Places}
use Rattle.jlr_state.specs.Collecting.{MakesRoom, MayMakeRoom, Allocates, FindsNoRoom}

-- ---- Refused

pub meets_refused : (m : Machine) (ask : Ask) (r : Refusal) → refusal m ask ≡ Some r → Meets m ask (Refused r) no_choice m
meets_refused m ask r e = record { legal = refused (record { by = r; first = e; answers = refl; nothing = refl }); applied = refl }

pub meets_full : (m : Machine) (cells : ℕ) (ask : Ask) (new : Choosing) (n : Machine) → refusal m ask ≡ None → cells_needed ask ≡ cells
    → FindsNoRoom m cells new n → Meets m ask (Refused HeapFull) new.chosen n
meets_full m cells ask new n e one f =
    record {
      legal = heap_full (record {
        allowed = e;
        answers = refl;
        clearing = f.clearing;
        collects = f.collects;
        no_room = subst (λ k. IsTrue (not (has_room m k))) (sym one) f.no_room;
        full = f.full;
        too_few = omega (arith, f.too_few, one);
      });
      applied = f.left ∙ ap (λ (c : Chosen). with_collection m c.collected) (sym f.collects);
    }

-- ---- Carried out, with nothing chosen

-- there is always room for no object
pub room_for_none : (m : Machine) → IsTrue (has_room m 0)
room_for_none m = le-leb (occupied m.objects + 0) (length m.objects) (omega (arith, count_by-le-length is_some m.objects))

pub none_fresh : (heap : Heap) → IsFresh heap 0 []
none_fresh heap = record { count = refl; free = refl; distinct = refl }

no_refusal_carried : (m : Machine) (ask : Ask) (a : Answer) (fresh : List ℕ) → is_refusal a ≡ false
    → carried m ask a fresh ≡ after m ask a fresh
no_refusal_carried m ask (Refused by) fresh h = absurd (both_ways true h refl)
no_refusal_carried m ask a fresh h = refl

-- an answer that is no refusal: what is carried is what comes after
carried_on : (m : Machine) (ask : Ask) (a : Answer) (fresh : List ℕ) → reply m ask ≡ Some a → carried m ask a fresh ≡ after m ask a fresh
carried_on m ask a fresh e = no_refusal_carried m ask a fresh (gives_no_refusal m ask a e)

-- an ask that makes no object and collects nothing
pub meets_plainly : (m : Machine) (ask : Ask) (a : Answer) (n : Machine) → refusal m ask ≡ None → MayCollect m ask None
    → cells_needed ask ≡ 0 → Answers m ask None a → reply m ask ≡ Some a → n ≡ after m ask a [] → Meets m ask a no_choice n
meets_plainly m ask a n e collection none answers r l =
    record {
      legal = carried_out (record {
        allowed = e;
        collection = collection;
        fresh = subst (λ k. IsFresh m.objects k []) (sym none) (none_fresh m.objects);
        answers = answers;
      });
      applied = l ∙ sym (carried_on m ask a [] r);
    }

-- the asks that do so
abbrev pub IsPlain : Ask → Type 0
IsPlain (New k layout) = ⊥
IsPlain (Array k n) = ⊥
IsPlain (MakeRef k kind h q) = ⊥
IsPlain (MakeQueue k) = ⊥
IsPlain (MakeCleaner k) = ⊥
IsPlain (Register k d h note) = ⊥
IsPlain (Prepare k) = ⊥
IsPlain (Full k mode) = ⊥
IsPlain Collect = ⊥
IsPlain _ = Unit {0}

plainly : (m n : Machine) (ask : Ask) (a : Answer) → IsPlain ask → refusal m ask ≡ None → reply m ask ≡ Some a → n ≡ after m ask a []
    → Meets m ask a no_choice n
plainly m n (New k layout) a p e r l = absurd p
plainly m n (Array k size) a p e r l = absurd p
plainly m n (MakeRef k kind h q) a p e r l = absurd p
plainly m n (MakeQueue k) a p e r l = absurd p
plainly m n (MakeCleaner k) a p e r l = absurd p
plainly m n (Register k d h note) a p e r l = absurd p
plainly m n (Prepare k) a p e r l = absurd p
plainly m n (Full k mode) a p e r l = absurd p
plainly m n Collect a p e r l = absurd p
plainly m n asked a p e r l = meets_plainly m asked a n e (room_for_none m) refl r r l

pub meets_plain : (m n : Machine) (ask : Ask) (a : Answer) → IsPlain ask → refusal m ask ≡ None → reply m ask ≡ Some a
    → n ≡ after m ask a [] → Meets m ask a no_choice n
meets_plain m n ask a p e r l = plainly m n ask a p e r l

-- an ask that chooses nothing, as it was answered
pub meets_answered :
    (m n : Machine) (ask : Ask) (result : Result Answer Refusal) → IsPlain ask → Answered m ask result n
    → Meets m ask (answer_of result) no_choice n
meets_answered m n ask (Ok a) plain did = meets_plain m n ask a plain did.0 did.1 did.2
meets_answered m n ask (Err r) plain did =
    subst (λ (x : Machine). Meets m ask (Refused r) no_choice x) (sym did.1) (meets_refused m ask r did.0)

-- ---- No refusal of the list is for lack of memory

found_holds : {A : Type 0} (p : A → Bool) (xs : List A) (x : A) → find p xs ≡ Some x → p x ≡ true
found_holds p [] x e = no_some x e
found_holds p (y ∷ xs) x e =
    elim (p y) as (λ b. p y ≡ b → cond b (Some y) (find p xs) ≡ Some x → p x ≡ true) [
      | true ↦ λ h f. subst (λ z. p z ≡ true) (some_same y x f) h
      | false ↦ λ h f. found_holds p xs x f
    ] refl e

pub never_memory : (m : Machine) (ask : Ask) (r : Refusal) → applies m ask NoMemory ≡ false → refusal m ask ≡ Some r → r ≡ NoMemory → ⊥
never_memory m ask r never first same =
    both_ways (applies m ask NoMemory) never (found_holds (applies m ask) (listed ask) NoMemory
    (first ∙ ap {A = Refusal} {B = Option Refusal} Some same))

-- ---- A full collection that is asked for

answers : (m : Machine) (k : ℕ) (mode : FullMode) (c : Option Collected) → Answers m (Full k mode) c Done
answers m k Policy c = refl
answers m k ClearAll c = refl

pub meets_collection : (m : Machine) (k : ℕ) (mode : FullMode) (c : Collected) (new : Choosing) (n : Machine)
    → refusal m (Full k mode) ≡ None → new.chosen ≡ record { collected = Some c; fresh = [] } → MayCollect m (Full k mode) (Some c)
    → n ≡ after_collection m c.kept c.pending → Meets m (Full k mode) Done new.chosen n
meets_collection m k mode c new n e chosen may l =
    let chosen_there : Chosen = record { collected = Some c; fresh = [] } in
    subst (λ x. Meets m (Full k mode) Done x n) (sym chosen)
    (record {
      legal = carried_out (record {
        allowed = e;
        collection = may;
        fresh = none_fresh (after_collection m c.kept c.pending).objects;
        answers = answers m k mode (Some c);
      });
      applied = l;
    })

-- ---- A new object

may_collect_reference : (m : Machine) (k : ℕ) (kind : RefKind) (h q : ℕ) (o : Option Collected) → MayMakeRoom m 1 o
    → MayCollect m (MakeRef k kind h q) o
may_collect_reference m k kind h q None r = r
may_collect_reference m k kind h q (Some c) r = r

free_there : (heap : Heap) (s : ℕ) → s < length heap → at heap s ≡ None → is_free heap s ≡ true
free_there [] s l e = absurd (omega (arith, l))
free_there (o ∷ heap) zero l e = ap is_none e
free_there (o ∷ heap) (suc s) l e = free_there heap s (omega (arith, l)) e

one_fresh : (heap : Heap) (s : ℕ) → s < length heap → at heap s ≡ None → IsFresh heap 1 (s ∷ [])
one_fresh heap s l e = record { count = refl; free = ap (λ b. b && true) (free_there heap s l e); distinct = refl }

-- the mutators are as they were, whatever the collection
same_mutators : (m : Machine) (c : Option Collected) → (with_collection m c).mutators ≡ m.mutators
same_mutators m None = refl
same_mutators m (Some c) = refl

-- and the next action
same_number : (m : Machine) (c : Option Collected) → (with_collection m c).next_action ≡ m.next_action
same_number m None = refl
same_number m (Some c) = refl

-- an ask that makes one object, and then does more to the machine
pub meets_made :
    (m mid n : Machine) (ask : Ask) (k slot : ℕ) (o : Object) (new : Choosing) (a : Answer) (more : Machine → Machine)
    → refusal m ask ≡ None
    → ((c : Option Collected) → MayMakeRoom m 1 c → MayCollect m ask c)
    → cells_needed ask ≡ 1
    → ((x : Machine) → x.mutators ≡ m.mutators → new_handle x k ≡ Some a → Answers x ask new.chosen.collected a × (reply x ask ≡ Some a))
    → ((x : Machine) → x.mutators ≡ m.mutators → x.next_action ≡ m.next_action
    → after x ask a (slot ∷ []) ≡ more (with_handle (with_new x slot o) k slot))
    → Allocates m o new slot mid → new_handle mid k ≡ Some a → n ≡ more (with_handle mid k slot) → Meets m ask a new.chosen n
meets_made m mid n ask k slot o new a more e collects one answers leaves x handle left =
    let y : Machine = with_collection m new.chosen.collected in
    let same : y.mutators ≡ m.mutators = same_mutators m new.chosen.collected in
    let there : new_handle y k ≡ Some a = sym (ap (λ (z : Machine). new_handle z k) x.left) ∙ handle in
    let r = answers y same there in
    record {
      legal = carried_out (record {
        allowed = e;
        collection = collects new.chosen.collected x.asked;
        fresh = subst (λ c. IsFresh y.objects c new.chosen.fresh) (sym one)
            (subst (λ l. IsFresh y.objects 1 l) (sym x.fresh) (one_fresh y.objects slot x.inside x.free));
        answers = r.0;
      });
      applied =
          left
          ∙ ap (λ (z : Machine). more (with_handle z k slot)) x.left
          ∙ sym (leaves y same (same_number m new.chosen.collected))
          ∙ sym (carried_on y ask a (slot ∷ []) r.1)
          ∙ ap (λ l. carried y ask a l) (sym x.fresh);
    }

pub meets_new :
    (m mid n : Machine) (ask : Ask) (k slot : ℕ) (o : Object) (new : Choosing) (a : Answer)
    → refusal m ask ≡ None
    → ((c : Option Collected) → MayMakeRoom m 1 c → MayCollect m ask c)
    → cells_needed ask ≡ 1
    → ((x : Machine) → x.mutators ≡ m.mutators → new_handle x k ≡ Some a → Answers x ask new.chosen.collected a × (reply x ask ≡ Some a))
    → ((x : Machine) → x.mutators ≡ m.mutators → after x ask a (slot ∷ []) ≡ with_handle (with_new x slot o) k slot)
    → Allocates m o new slot mid → new_handle mid k ≡ Some a → n ≡ with_handle mid k slot → Meets m ask a new.chosen n
meets_new m mid n ask k slot o new a e collects one answers leaves x handle left =
    meets_made m mid n ask k slot o new a (λ z. z) e collects one answers (λ z s _. leaves z s) x handle left

-- ---- The asks that make an object

and_or_false : (b : Bool) → (b && false || false) ≡ false
and_or_false true = refl
and_or_false false = refl

no_kind : (o : Option Object) → some_and (λ o. not (is_any o)) o ≡ false
no_kind None = refl
no_kind (Some o) = refl

pub skip : (p : Refusal → Bool) (x : Refusal) (xs : List Refusal) (r : Option Refusal) → p x ≡ false → find p xs ≡ r → find p (x ∷ xs) ≡ r
skip p x xs r e h = ap (λ b. cond b (Some x) (find p xs)) e ∙ h

joined : (m : Machine) (k : ℕ) → is_joined m k ≡ true → not (is_joined m k) ≡ false
joined m k e = ap not e

pub allowed_full : (m : Machine) (k : ℕ) (mode : FullMode) → is_joined m k ≡ true → has_call m k ≡ false → refusal m (Full k mode) ≡ None
allowed_full m k mode j b =
    let p = applies m (Full k mode) in
    skip p NoSession (Busy ∷ []) None (ap not j) (skip p Busy [] None b refl)

pub allowed_reference :
    (m : Machine) (k : ℕ) (kind : RefKind) (h q : ℕ) → is_joined m k ≡ true
    → (not (h == 0) && is_none (slot_named m k h)) ≡ false → (not (q == 0) && is_none (slot_named m k q)) ≡ false
    → (h == 0) ≡ false → some_and (λ o. not (is_queue o)) (object_named m k q) ≡ false → has_call m k ≡ false → has_free_handle m k ≡ true
    → refusal m (MakeRef k kind h q) ≡ None
allowed_reference m k kind h q j uh uq nh nq b f =
    let p = applies m (MakeRef k kind h q) in
    skip p NoSession (NoHandle ∷ Null ∷ WrongKind ∷ Busy ∷ HandlesFull ∷ HeapFull ∷ []) None (ap not j)
    (skip p NoHandle (Null ∷ WrongKind ∷ Busy ∷ HandlesFull ∷ HeapFull ∷ []) None
    (ap (λ b. b || (not (q == 0) && is_none (slot_named m k q) || false)) uh ∙ ap (λ b. b || false) uq)
    (skip p Null (WrongKind ∷ Busy ∷ HandlesFull ∷ HeapFull ∷ []) None
    (ap (λ b. (b && true) || ((q == 0) && false || false)) nh ∙ and_or_false (q == 0))
    (skip p WrongKind (Busy ∷ HandlesFull ∷ HeapFull ∷ []) None
    (ap (λ b. b || (is_of_wrong_kind m k (object_or_null q is_queue) || false)) (no_kind (object_named m k h))
    ∙ ap (λ b. b || false) nq)
    (skip p Busy (HandlesFull ∷ HeapFull ∷ []) None b
    (skip p HandlesFull (HeapFull ∷ []) None (ap not f)
    (skip p HeapFull [] None refl refl))))))

-- an ask that names nothing is allowed where its mutator is joined, in no call, and has a free handle
allowed_alone :
    (m : Machine) (k : ℕ) (ask : Ask) → listed ask ≡ NoSession ∷ Busy ∷ HandlesFull ∷ HeapFull ∷ []
    → applies m ask NoSession ≡ not (is_joined m k) → applies m ask Busy ≡ has_call m k
    → applies m ask HandlesFull ≡ not (has_free_handle m k) → applies m ask HeapFull ≡ false
    → is_joined m k ≡ true → has_call m k ≡ false → has_free_handle m k ≡ true → refusal m ask ≡ None
allowed_alone m k ask list first second third last j b f =
    let p = applies m ask in
    ap (find p) list
    ∙ skip p NoSession (Busy ∷ HandlesFull ∷ HeapFull ∷ []) None (first ∙ ap not j)
    (skip p Busy (HandlesFull ∷ HeapFull ∷ []) None (second ∙ b)
    (skip p HandlesFull (HeapFull ∷ []) None (third ∙ ap not f)
    (skip p HeapFull [] None last refl)))

-- a plain object, whose fields are blank
may_collect_plain :
    (m : Machine) (k : ℕ) (layout : List FieldKind) (o : Option Collected) → MayMakeRoom m 1 o → MayCollect m (New k layout) o
may_collect_plain m k layout None r = r
may_collect_plain m k layout (Some c) r = r

pub meets_new_plain :
    (m mid n : Machine) (k slot : ℕ) (layout : List FieldKind) (new : Choosing) (a : Answer)
    → is_joined m k ≡ true → has_call m k ≡ false → has_free_handle m k ≡ true
    → Allocates m (Plain (Typed (map blank layout))) new slot mid → new_handle mid k ≡ Some a → n ≡ with_handle mid k slot
    → Meets m (New k layout) a new.chosen n
meets_new_plain m mid n k slot layout new a joined calls room x handle left =
    meets_new m mid n (New k layout) k slot (Plain (Typed (map blank layout))) new a
    (allowed_alone m k (New k layout) refl refl refl refl refl joined calls room)
    (may_collect_plain m k layout) refl (λ y s h. (h, h)) (λ y s. refl) x handle left

-- an empty queue
may_collect_queue : (m : Machine) (k : ℕ) (o : Option Collected) → MayMakeRoom m 1 o → MayCollect m (MakeQueue k) o
may_collect_queue m k None r = r
may_collect_queue m k (Some c) r = r

pub meets_new_queue :
    (m mid n : Machine) (k slot : ℕ) (new : Choosing) (a : Answer)
    → is_joined m k ≡ true → has_call m k ≡ false → has_free_handle m k ≡ true
    → Allocates m (Queue []) new slot mid → new_handle mid k ≡ Some a → n ≡ with_handle mid k slot
    → Meets m (MakeQueue k) a new.chosen n
meets_new_queue m mid n k slot new a joined calls room x handle left =
    meets_new m mid n (MakeQueue k) k slot (Queue []) new a
    (allowed_alone m k (MakeQueue k) refl refl refl refl refl joined calls room)
    (may_collect_queue m k) refl (λ y s h. (h, h)) (λ y s. refl) x handle left

-- a cleaner
may_collect_cleaner : (m : Machine) (k : ℕ) (o : Option Collected) → MayMakeRoom m 1 o → MayCollect m (MakeCleaner k) o
may_collect_cleaner m k None r = r
may_collect_cleaner m k (Some c) r = r

pub meets_new_cleaner :
    (m mid n : Machine) (k slot : ℕ) (new : Choosing) (a : Answer)
    → is_joined m k ≡ true → has_call m k ≡ false → has_free_handle m k ≡ true
    → Allocates m Cleaner new slot mid → new_handle mid k ≡ Some a → n ≡ with_handle mid k slot
    → Meets m (MakeCleaner k) a new.chosen n
meets_new_cleaner m mid n k slot new a joined calls room x handle left =
    meets_new m mid n (MakeCleaner k) k slot Cleaner new a
    (allowed_alone m k (MakeCleaner k) refl refl refl refl refl joined calls room)
    (may_collect_cleaner m k) refl (λ y s h. (h, h)) (λ y s. refl) x handle left

-- an array, whose elements refer to nothing
may_collect_array : (m : Machine) (k n : ℕ) (o : Option Collected) → MayMakeRoom m 1 o → MayCollect m (Array k n) o
may_collect_array m k n None r = r
may_collect_array m k n (Some c) r = r

pub meets_new_array :
    (m mid n : Machine) (k size slot : ℕ) (elements : List (Option ℕ)) (new : Choosing) (a : Answer)
    → is_joined m k ≡ true → has_call m k ≡ false → has_free_handle m k ≡ true → elements ≡ replicate size None
    → Allocates m (Plain (Elements elements)) new slot mid → new_handle mid k ≡ Some a → n ≡ with_handle mid k slot
    → Meets m (Array k size) a new.chosen n
meets_new_array m mid n k size slot elements new a joined calls room null x handle left =
    meets_new m mid n (Array k size) k slot (Plain (Elements (replicate size None))) new a
    (allowed_alone m k (Array k size) refl refl refl refl refl joined calls room)
    (may_collect_array m k size) refl (λ y s h. (h, h)) (λ y s. refl)
    (subst (λ l. Allocates m (Plain (Elements l)) new slot mid) null x) handle left

pub meets_new_reference :
    (m mid n : Machine) (k slot : ℕ) (kind : RefKind) (h q target : ℕ) (queue : Option ℕ) (new : Choosing) (a : Answer)
    → refusal m (MakeRef k kind h q) ≡ None
    → slot_named m k h ≡ Some target → slot_named m k q ≡ queue
    → Allocates m (Reference (record { kind = kind; referent = Some target; queue = queue; state = Fresh })) new slot mid
    → new_handle mid k ≡ Some a → n ≡ with_handle mid k slot → Meets m (MakeRef k kind h q) a new.chosen n
meets_new_reference m mid n k slot kind h q target queue new a e named in_queue x handle left =
    meets_new m mid n (MakeRef k kind h q) k slot (Reference (record { kind = kind; referent = Some target; queue = queue; state = Fresh }))
    new a e (may_collect_reference m k kind h q) refl (λ y s h. (h, h))
    (λ y s.
    let lookup : ℕ → Table Session → Option ℕ = λ i t. option_and_then (λ z. at z.handles i) (at t k) in
    ap {A = Option ℕ} {B = Machine} (λ r. with_handle
    (with_new y slot (Reference (record { kind = kind; referent = r; queue = slot_named y k q; state = Fresh }))) k slot)
    (ap (lookup h) s ∙ named)
    ∙ ap {A = Option ℕ} {B = Machine} (λ r. with_handle
    (with_new y slot (Reference (record { kind = kind; referent = Some target; queue = r; state = Fresh }))) k slot)
    (ap (lookup q) s ∙ in_queue)) x handle left

-- ---- A registered action

abbrev armed : ℕ → Option ℕ → ℕ → Object
armed action referent note = Cleanable (record { referent = referent; action = action; work = Note note; state = Armed })

may_collect_register : (m : Machine) (k d h note : ℕ) (o : Option Collected) → MayMakeRoom m 1 o → MayCollect m (Register k d h note) o
may_collect_register m k d h note None r = r
may_collect_register m k d h note (Some c) r = r

pub meets_registered :
    (m mid n : Machine) (k slot d h note target : ℕ) (new : Choosing) (a : Answer) → refusal m (Register k d h note) ≡ None
    → slot_named m k h ≡ Some target
    → Allocates m (Cleanable (record { referent = Some target; action = m.next_action; work = Note note; state = Armed })) new slot mid
    → new_handle mid k ≡ Some a → n ≡ with_handle (record mid { next_action = mid.next_action + 1 }) k slot
    → Meets m (Register k d h note) a new.chosen n
meets_registered m mid n k slot d h note target new a e named x handle left =
    meets_made m mid n (Register k d h note) k slot (armed m.next_action (Some target) note) new a
    (λ z. record z { next_action = z.next_action + 1 }) e (may_collect_register m k d h note) refl (λ y s g. (g, g))
    (λ y s t.
    let lookup : Table Session → Option ℕ = λ table. option_and_then (λ z. at z.handles h) (at table k) in
    ap {A = Option ℕ} {B = Machine} (λ r. record (with_handle (with_new y slot (armed y.next_action r note)) k
    slot) { next_action = y.next_action + 1 }) (ap lookup s ∙ named)
    ∙ ap {A = ℕ} {B = Machine} (λ number. record (with_handle (with_new y slot (armed number (Some target) note)) k
    slot) { next_action = y.next_action + 1 }) t)
    x handle left

-- ---- The start of an open

may_collect_prepare : (m : Machine) (k : ℕ) (o : Option Collected) → MayMakeRoom m 2 o → MayCollect m (Prepare k) o
may_collect_prepare m k None r = r
may_collect_prepare m k (Some c) r = r

two_fresh : (heap : Heap) (s t : ℕ) → AreFree heap s t → IsFresh heap 2 (s ∷ t ∷ [])
two_fresh heap s t f =
    record {
      count = refl;
      free = ap (λ b. b && (is_free heap t && true)) (free_there heap s f.first_within f.first)
          ∙ ap (λ b. b && true) (free_there heap t f.second_within f.second);
      distinct = ap (λ b. not (b || false) && true) (ne_eqb s t f.apart);
    }

pub meets_prepared :
    (m mid n : Machine) (k rid : ℕ) (cleared new : Choosing) (old : Choosing) → refusal m (Prepare k) ≡ None
    → MakesRoom m 2 old cleared mid → Places mid k cleared new rid n → Meets m (Prepare k) (Prepared rid) new.chosen n
meets_prepared m mid n k rid cleared new old e room p =
    let y : Machine = with_collection m cleared.chosen.collected in
    let chosen : Chosen = record { collected = cleared.chosen.collected; fresh = p.guard ∷ p.cleanable ∷ [] } in
    let is : new.chosen ≡ chosen = ap (λ (c : Choosing). c.chosen) p.told in
    subst (λ (c : Chosen). Meets m (Prepare k) (Prepared rid) c n) (sym is) (record {
      legal = carried_out (record {
        allowed = e;
        collection = may_collect_prepare m k cleared.chosen.collected room.asked;
        fresh = two_fresh y.objects p.guard p.cleanable (subst (λ (x : Machine). AreFree x.objects p.guard p.cleanable) room.left p.free);
        answers = (rid, p.rid_fits, subst (λ (x : Machine). IsTrue (is_none (resource_at x rid))) room.left p.unused, refl);
      });
      applied = p.left ∙ ap (λ (x : Machine). prepared x k p.guard p.cleanable rid) room.left;
    })
