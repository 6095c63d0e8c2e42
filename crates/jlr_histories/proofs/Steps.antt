-- What a legal entry leaves at each slot.
use Rattle.std.proofs.Common.{replicate, ◌≡◌, ℕ, Bool, true, false, cond, List, [], ◌∷◌, map, ◌++◌, ◌==◌, length, refl, sym, ◌∙◌, ap, subst}
use Rattle.std.proofs.Common.{◌⊎◌, inl, inr, arith, Option, Some, None, option_map, is_some, IsTrue}
use Rattle.std.proofs.lemmas.Bool.{both_ways, cond_both}
use Rattle.jlr_machine.specs.declared.object.Object.{Object}
use Rattle.jlr_types.specs.declared.FieldValue.TheVariants.{Int as IntValue, Ref as RefValue}
use Rattle.jlr_types.specs.declared.Refusal.{Refusal}
use Rattle.jlr_types.specs.declared.Refusal.TheVariants.{NoMemory}
use Rattle.jlr_machine.specs.declared.object.Contents.TheVariants.{Typed, Elements}
use Rattle.jlr_machine.specs.declared.object.Object.TheVariants.{Plain, Reference, Queue, Cleaner}
use Rattle.jlr_machine.specs.declared.object.Guard.{Guard as GuardOf}
use Rattle.jlr_machine.specs.declared.object.RefState.TheVariants.{Fresh}
use Rattle.jlr_machine.specs.declared.machine.Machine.{Machine}
use Rattle.jlr_machine.specs.declared.machine.Job.{Job as JobOf}
use Rattle.jlr_machine.specs.declared.machine.Call.TheVariants.{Free}
use Rattle.jlr_machine.specs.declared.machine.ResourceState.TheVariants.{Idle}
use Rattle.jlr_machine.specs.declared.ask.Outcome.{Outcome}
use Rattle.jlr_machine.specs.declared.ask.Outcome.TheVariants.{Ok as OutcomeOk, Failed}
use Rattle.jlr_machine.specs.declared.ask.FullMode.{FullMode}
use Rattle.jlr_machine.specs.declared.ask.FullMode.TheVariants.{Policy, ClearAll}
use Rattle.jlr_machine.specs.declared.ask.Ask.{Ask}
use Rattle.jlr_machine.specs.declared.ask.Ask.TheVariants.{New, Put, Get, SetInt, Int, Dup, Drop, Same, MakeRef, Deref, Refers}
use Rattle.jlr_machine.specs.declared.ask.Ask.TheVariants.{Clear, Enqueue, Enqueued, MakeQueue, Poll, Remove, MakeCleaner, Register, Clean}
use Rattle.jlr_machine.specs.declared.ask.Ask.TheVariants.{Prepare, Opened, CheckOut, CheckIn, Close, Finish, Bind, Find}
use Rattle.jlr_machine.specs.declared.ask.Ask.TheVariants.{Full, HandOver, TakeUp, Collect, Array}
use Rattle.jlr_machine.specs.declared.ask.Answer.{Answer}
use Rattle.jlr_machine.specs.declared.ask.Answer.TheVariants.{Refused}
use Rattle.jlr_machine.specs.declared.entry.Entry.{Entry}
use Rattle.jlr_machine.specs.Chosen.{Chosen}
use Rattle.jlr_machine.specs.declared.entry.Collected.{Collected}
use Rattle.jlr_machine.specs.Objects.{at, ◌∋◌, some_and}
use Rattle.jlr_machine.specs.Edges.{roots}
use Rattle.jlr_machine.specs.Collection.{IsCollection, IsFull, is_ready, left_of, after_collection}
use Rattle.jlr_machine.specs.Lookups.{slot_named, cleanable_at, cleanable_of_guard, guard_named, job_of, with_call, with_state, without_job}
use Rattle.jlr_machine.specs.Lookups.{rid_of, blank, bound}
use Rattle.jlr_machine.specs.Refusals.{given, cells_needed}
use Rattle.jlr_machine.specs.Calls.{after, reply, from_lined, guard_fenced, opened, checked_out, checked_in, finished, free_again, enqueued}
use Rattle.jlr_machine.specs.Calls.{cleaned, without_work_resource, without_work, fence_of}
use Rattle.jlr_machine.specs.Run.{MayCollect, Answers, with_collection, IsFresh, IsCarriedOut, IsLegal, IsHeapFull, carried, done}
use Rattle.jlr_machine.specs.Run.IsLegal.{carried_out, refused, heap_full, out_of_memory}
use Rattle.jlr_machine.specs.WellFormed.{IsWellFormed}
use Rattle.jlr_laws.proofs.Agree.{at-places_left}
use Rattle.jlr_laws.proofs.LegalKept.{entry, no_need}
use Rattle.jlr_laws.proofs.Refused.{is_refusal, gives_no_refusal}
use Rattle.jlr_histories.specs.Lives.{slot_cleared}
use Rattle.jlr_histories.proofs.Becomes.{Follows, left_on}
use Rattle.jlr_histories.proofs.Changes.{IsOver, IsMaking, IsStep, IsQuiet, quiet, quiet_on, quiet_over, over_quiet, over_on}
use Rattle.jlr_histories.proofs.Changes.{over_and_making, over_alone}
use Rattle.jlr_histories.proofs.ReferenceAsks.{given_quiet, field_over, cleared_over, enqueued_over, poll_over}
use Rattle.jlr_histories.proofs.CleaningAsks.{cleaned_over, line_over, open_failed_over, handed_over_over}
use Rattle.jlr_histories.proofs.Making.{made_making, registered_making, prepared_making}

-- ---- Collections

module _ (P : ℕ → Type 0) (always : (s : ℕ) → P s) (m : Machine) (B kept pending : List ℕ) (c : IsCollection m.objects B kept pending) where
  left_there : (s : ℕ) (b : Bool) (o : Option Object) → (b ≡ true → some_and is_ready o ≡ true)
      → Follows (P s) o (option_map (left_of kept b) o)
  left_there s b None h = tt
  left_there s b (Some o) h = left_on (P s) (always s) kept b o h

  pub collection_over : IsOver P m (after_collection m kept pending)
  collection_over =
      record {
        follows = λ s.
            subst (Follows (P s) (at m.objects s)) (sym (at-places_left kept pending 0 m.objects s s (omega arith)))
            (elim (kept ∋ s) as (λ b. Follows (P s) (at m.objects s)
            (cond b (option_map (left_of kept (pending ∋ s)) (at m.objects s)) None)) [
              | true ↦ left_there s (pending ∋ s) (at m.objects s) (λ e. ((c.pended s).0 e).1)
              | false ↦ tt
            ]);
        next = refl;
      }

-- ---- The cases of an entry

-- whatever the answer
carried_over : (P : ℕ → Type 0) (m : Machine) (ask : Ask) (a : Answer) (fresh : List ℕ)
    → ((a : Answer) (fresh : List ℕ) → IsOver P m (after m ask a fresh)) → IsOver P m (carried m ask a fresh)
carried_over P m ask (Refused by) fresh h = quiet_over P m m (quiet m)
carried_over P m ask a fresh h = h a fresh

pub carried_is : (m : Machine) (ask : Ask) (a : Answer) (fresh : List ℕ) → is_refusal a ≡ false
    → carried m ask a fresh ≡ after m ask a fresh
carried_is m ask (Refused by) fresh h = absurd (both_ways true h refl)
carried_is m ask a fresh h = refl

no_cells : (fresh : List ℕ) → length fresh ≡ 0 → fresh ≡ []
no_cells [] e = refl
no_cells (x ∷ fresh) e = absurd (omega (arith, e))

-- the referent of the reference at s may go by a collection, and by the program's clearing
abbrev pub Clears : Machine → Ask → Chosen → ℕ → Type 0
Clears m ask choice s = IsTrue (is_some choice.collected) ⊎ (slot_cleared m ask ≡ Some s)

abbrev pub StepOf : Machine → ℕ → Ask → Answer → Chosen → Type 0
StepOf m seat ask answer choice = IsStep (Clears m ask choice) m (done m (entry seat ask answer choice)) choice.fresh

-- an ask that makes no object comes with no collection
plainly : (m : Machine) (seat : ℕ) (ask : Ask) (answer : Answer) (choice : Chosen) → IsCarriedOut m (entry seat ask answer choice)
    → ((c : Collected) → MayCollect m ask (Some c) → ⊥) → cells_needed ask ≡ 0
    → ((a : Answer) (fresh : List ℕ) → IsOver (Clears m ask choice) m (after m ask a fresh)) → StepOf m seat ask answer choice
plainly m seat ask answer choice c none zero h =
    let P = Clears m ask choice in
    elim (choice.collected) as (λ o. MayCollect m ask o → IsFresh (with_collection m o).objects (cells_needed ask) choice.fresh
    → IsStep P m (carried (with_collection m o) ask answer choice.fresh) choice.fresh) [
      | None ↦ λ g f. over_alone P m (carried m ask answer choice.fresh) choice.fresh (no_cells choice.fresh (f.count ∙ zero))
          (carried_over P m ask answer choice.fresh h)
      | Some x ↦ λ g f. absurd (none x g)
    ] c.collection c.fresh

quietly : (m : Machine) (seat : ℕ) (ask : Ask) (answer : Answer) (choice : Chosen) → IsCarriedOut m (entry seat ask answer choice)
    → ((c : Collected) → MayCollect m ask (Some c) → ⊥) → cells_needed ask ≡ 0
    → ((a : Answer) (fresh : List ℕ) → IsQuiet m (after m ask a fresh)) → StepOf m seat ask answer choice
quietly m seat ask answer choice c none zero h =
    plainly m seat ask answer choice c none zero (λ a fresh. quiet_over (Clears m ask choice) m (after m ask a fresh) (h a fresh))

-- the new objects of an ask come after the collection
making : (m : Machine) (seat : ℕ) (ask : Ask) (answer : Answer) (choice : Chosen) → IsCarriedOut m (entry seat ask answer choice)
    → ((c : Collected) → MayCollect m ask (Some c) → IsFull m c.kept c.pending)
    → ((n : Machine) (o : Option Collected) → Answers n ask o answer → length choice.fresh ≡ cells_needed ask
    → IsMaking n (carried n ask answer choice.fresh) choice.fresh) → StepOf m seat ask answer choice
making m seat ask answer choice c full h =
    elim (choice.collected) as (λ o. MayCollect m ask o → IsFresh (with_collection m o).objects (cells_needed ask) choice.fresh
    → Answers (with_collection m o) ask o answer → IsStep (λ s. IsTrue (is_some o) ⊎ (slot_cleared m ask ≡ Some s)) m
    (carried (with_collection m o) ask answer choice.fresh) choice.fresh) [
      | None ↦ λ g f a.
          let P : ℕ → Type 0 = λ s. IsTrue false ⊎ (slot_cleared m ask ≡ Some s) in
          over_and_making P m m (carried m ask answer choice.fresh) choice.fresh (quiet_over P m m (quiet m)) (h m None a f.count)
      | Some x ↦ λ g f a.
          let P : ℕ → Type 0 = λ s. IsTrue true ⊎ (slot_cleared m ask ≡ Some s) in
          let n = after_collection m x.kept x.pending in
          over_and_making P m n (carried n ask answer choice.fresh) choice.fresh
          (collection_over P (λ s. inl refl) m (roots m) x.kept x.pending (full x g)) (h n (Some x) a f.count)
    ] c.collection c.fresh c.answers

made_by : (n : Machine) (ask : Ask) (answer : Answer) (fresh : List ℕ) → reply n ask ≡ Some answer
    → IsMaking n (after n ask answer fresh) fresh → IsMaking n (carried n ask answer fresh) fresh
made_by n ask answer fresh a h = subst (λ z. IsMaking n z fresh) (sym (carried_is n ask answer fresh (gives_no_refusal n ask answer a))) h

-- ---- Collections that were asked for

full_of : (m : Machine) (k : ℕ) (mode : FullMode) (x : Collected) → MayCollect m (Full k mode) (Some x) → IsFull m x.kept x.pending
full_of m k Policy x h = h
full_of m k ClearAll x h = h.full

-- an ask that does no more than collect
collecting : (m : Machine) (seat : ℕ) (ask : Ask) (answer : Answer) (choice : Chosen) → IsCarriedOut m (entry seat ask answer choice)
    → cells_needed ask ≡ 0
    → ((n : Machine) → IsQuiet n (carried n ask answer choice.fresh))
    → ((x : Collected) → MayCollect m ask (Some x) → (B : List ℕ) × IsCollection m.objects B x.kept x.pending)
    → StepOf m seat ask answer choice
collecting m seat ask answer choice c zero same h =
    elim (choice.collected) as (λ o. MayCollect m ask o → IsFresh (with_collection m o).objects (cells_needed ask) choice.fresh
    → IsStep (λ s. IsTrue (is_some o) ⊎ (slot_cleared m ask ≡ Some s)) m (carried (with_collection m o) ask answer choice.fresh)
    choice.fresh) [
      | None ↦ λ g f.
          let P : ℕ → Type 0 = λ s. IsTrue false ⊎ (slot_cleared m ask ≡ Some s) in
          over_alone P m (carried m ask answer choice.fresh) choice.fresh (no_cells choice.fresh (f.count ∙ zero))
          (quiet_over P m (carried m ask answer choice.fresh) (same m))
      | Some x ↦ λ g f.
          let P : ℕ → Type 0 = λ s. IsTrue true ⊎ (slot_cleared m ask ≡ Some s) in
          let n = after_collection m x.kept x.pending in
          let b = h x g in
          over_alone P m (carried n ask answer choice.fresh) choice.fresh (no_cells choice.fresh (f.count ∙ zero))
          (over_quiet P m n (carried n ask answer choice.fresh) (collection_over P (λ s. inl refl) m b.0 x.kept x.pending b.1)
          (same n).objects (same n).next)
    ] c.collection c.fresh

full_quiet : (n : Machine) (k : ℕ) (mode : FullMode) (a : Answer) (fresh : List ℕ) → IsQuiet n (carried n (Full k mode) a fresh)
full_quiet n k mode (Refused by) fresh = quiet n
full_quiet n k mode a fresh = quiet n

collect_quiet : (n : Machine) (a : Answer) (fresh : List ℕ) → IsQuiet n (carried n Collect a fresh)
collect_quiet n (Refused by) fresh = quiet n
collect_quiet n a fresh = quiet n

-- ---- Calls that end

pub opened_quiet : (m : Machine) (k : ℕ) (g : GuardOf) → IsQuiet m (opened m k g OutcomeOk)
opened_quiet m k g =
    let q = given_quiet (with_call (with_state m g.rid Idle) k None Free) k (fence_of m k) in
    record { objects = q.objects; next = q.next; taken = q.taken }

work_quiet : (m : Machine) (o : Option ℕ) → IsQuiet m (without_work_resource m o)
work_quiet m None = quiet m
work_quiet m (Some rid) = record { objects = refl; next = refl; taken = refl }

job_quiet : (m : Machine) (job : JobOf) → IsQuiet m (without_work m job)
job_quiet m job = let q = work_quiet (record m { jobs = without_job m.jobs job.action }) (rid_of job.work) in
    record { objects = q.objects; next = q.next; taken = q.taken }

finished_quiet : (m : Machine) (job : JobOf) (outcome : Outcome) → IsQuiet m (finished m job outcome)
finished_quiet m job OutcomeOk = let q = job_quiet m job in record { objects = q.objects; next = q.next; taken = q.taken }
finished_quiet m job (Failed fault) = let q = job_quiet m job in record { objects = q.objects; next = q.next; taken = q.taken }

pub finish_quiet : (m : Machine) (job : JobOf) (outcome : Outcome) (by : ℕ) → IsQuiet m (free_again (finished m job outcome) by)
finish_quiet m job outcome by =
    let q = finished_quiet m job outcome in
    cond_both (by == 255) (finished m job outcome) (with_call (finished m job outcome) by None Free) (λ z. IsQuiet m z)
    (λ _. q)
    (λ _. record { objects = q.objects; next = q.next; taken = q.taken })

-- ---- Each ask

step_done : (m : Machine) → IsWellFormed m → (seat : ℕ) (ask : Ask) (answer : Answer) (choice : Chosen)
    → IsCarriedOut m (entry seat ask answer choice) → StepOf m seat ask answer choice
step_done m w seat (New k layout) answer choice c =
    making m seat (New k layout) answer choice c (λ x h. h.1.full)
    (λ n o a one. made_by n (New k layout) answer choice.fresh a
    (made_making n k choice.fresh (Plain (Typed (map blank layout))) one tt))
step_done m w seat (Array k size) answer choice c =
    making m seat (Array k size) answer choice c (λ x h. h.1.full)
    (λ n o a one. made_by n (Array k size) answer choice.fresh a
    (made_making n k choice.fresh (Plain (Elements (replicate size None))) one tt))
step_done m w seat (Put k h f v) answer choice c =
    plainly m seat (Put k h f v) answer choice c (λ x h. no_need m h.0) refl
    (λ a fresh. field_over (Clears m (Put k h f v) choice) m k h f (RefValue (slot_named m k v)))
step_done m w seat (Get k h f) answer choice c =
    quietly m seat (Get k h f) answer choice c (λ x h. no_need m h.0) refl (λ a fresh. given_quiet m k (given m (Get k h f)))
step_done m w seat (SetInt k h f v) answer choice c =
    plainly m seat (SetInt k h f v) answer choice c (λ x h. no_need m h.0) refl
    (λ a fresh. field_over (Clears m (SetInt k h f v) choice) m k h f (IntValue v))
step_done m w seat (Int k h f) answer choice c =
    quietly m seat (Int k h f) answer choice c (λ x h. no_need m h.0) refl (λ a fresh. record { objects = refl; next = refl; taken = refl })
step_done m w seat (Dup k h) answer choice c =
    quietly m seat (Dup k h) answer choice c (λ x h. no_need m h.0) refl (λ a fresh. given_quiet m k (given m (Dup k h)))
step_done m w seat (Drop k h) answer choice c =
    quietly m seat (Drop k h) answer choice c (λ x h. no_need m h.0) refl (λ a fresh. record { objects = refl; next = refl; taken = refl })
step_done m w seat (Same k h g) answer choice c =
    quietly m seat (Same k h g) answer choice c (λ x h. no_need m h.0) refl
    (λ a fresh. record { objects = refl; next = refl; taken = refl })
step_done m w seat (MakeRef k kind h q) answer choice c =
    making m seat (MakeRef k kind h q) answer choice c (λ x h. h.1.full)
    (λ n o a one. made_by n (MakeRef k kind h q) answer choice.fresh a
    (made_making n k choice.fresh (Reference (record {
      kind = kind;
      referent = slot_named n k h;
      queue = slot_named n k q;
      state = Fresh;
    })) one refl))
step_done m w seat (Deref k h) answer choice c =
    quietly m seat (Deref k h) answer choice c (λ x h. no_need m h.0) refl (λ a fresh. given_quiet m k (given m (Deref k h)))
step_done m w seat (Refers k r h) answer choice c =
    quietly m seat (Refers k r h) answer choice c (λ x h. no_need m h.0) refl
    (λ a fresh. record { objects = refl; next = refl; taken = refl })
step_done m w seat (Clear k h) answer choice c =
    plainly m seat (Clear k h) answer choice c (λ x h. no_need m h.0) refl
    (λ a fresh. cleared_over (Clears m (Clear k h) choice) m k h (λ s e. inr e))
step_done m w seat (Enqueue k h) answer choice c =
    plainly m seat (Enqueue k h) answer choice c (λ x h. no_need m h.0) refl
    (λ a fresh. over_on (Clears m (Enqueue k h) choice) m (slot_named m k h) (enqueued m)
    (λ s e. enqueued_over (Clears m (Enqueue k h) choice) m s (λ r f. inr (inr e))))
step_done m w seat (Enqueued k h) answer choice c =
    quietly m seat (Enqueued k h) answer choice c (λ x h. no_need m h.0) refl
    (λ a fresh. record { objects = refl; next = refl; taken = refl })
step_done m w seat (MakeQueue k) answer choice c =
    making m seat (MakeQueue k) answer choice c (λ x h. h.1.full)
    (λ n o a one. made_by n (MakeQueue k) answer choice.fresh a (made_making n k choice.fresh (Queue []) one tt))
step_done m w seat (Poll k h) answer choice c =
    plainly m seat (Poll k h) answer choice c (λ x h. no_need m h.0) refl (λ a fresh. poll_over (Clears m (Poll k h) choice) m k h w)
step_done m w seat (Remove k h) answer choice c =
    plainly m seat (Remove k h) answer choice c (λ x h. no_need m h.0) refl (λ a fresh. poll_over (Clears m (Remove k h) choice) m k h w)
step_done m w seat (MakeCleaner k) answer choice c =
    making m seat (MakeCleaner k) answer choice c (λ x h. h.1.full)
    (λ n o a one. made_by n (MakeCleaner k) answer choice.fresh a (made_making n k choice.fresh Cleaner one tt))
step_done m w seat (Register k d h note) answer choice c =
    making m seat (Register k d h note) answer choice c (λ x h. h.1.full)
    (λ n o a one. made_by n (Register k d h note) answer choice.fresh a (registered_making n k h note choice.fresh one))
step_done m w seat (Clean k h) answer choice c =
    plainly m seat (Clean k h) answer choice c (λ x h. no_need m h.0) refl
    (λ a fresh. over_on (Clears m (Clean k h) choice) m (slot_named m k h) (λ s. cleaned m k s (cleanable_at m s))
    (λ s e. cleaned_over (Clears m (Clean k h) choice) m k s (cleanable_at m s)))
step_done m w seat (Prepare k) answer choice c =
    making m seat (Prepare k) answer choice c (λ x h. h.1.full)
    (λ n o a two. subst (λ z. IsMaking n (carried n (Prepare k) z choice.fresh) choice.fresh) (sym a.3)
    (prepared_making n k choice.fresh a.0 two))
step_done m w seat (Opened k OutcomeOk) answer choice c =
    quietly m seat (Opened k OutcomeOk) answer choice c (λ x h. no_need m h.0) refl
    (λ a fresh. quiet_on m (guard_fenced m k) (λ g. opened m k g OutcomeOk) (opened_quiet m k))
step_done m w seat (Opened k (Failed fault)) answer choice c =
    plainly m seat (Opened k (Failed fault)) answer choice c (λ x h. no_need m h.0) refl
    (λ a fresh. over_on (Clears m (Opened k (Failed fault)) choice) m (guard_fenced m k) (λ g. opened m k g (Failed fault))
    (λ g e. open_failed_over (Clears m (Opened k (Failed fault)) choice) m k g fault))
step_done m w seat (CheckOut k h) answer choice c =
    quietly m seat (CheckOut k h) answer choice c (λ x h. no_need m h.0) refl
    (λ a fresh. quiet_on m (guard_named m k h) (checked_out m k (slot_named m k h))
    (λ g. record { objects = refl; next = refl; taken = refl }))
step_done m w seat (CheckIn k outcome) answer choice c =
    quietly m seat (CheckIn k outcome) answer choice c (λ x h. no_need m h.0) refl
    (λ a fresh. quiet_on m (guard_fenced m k) (checked_in m k) (λ g. record { objects = refl; next = refl; taken = refl }))
step_done m w seat (Close k h) answer choice c =
    plainly m seat (Close k h) answer choice c (λ x h. no_need m h.0) refl
    (λ a fresh. over_on (Clears m (Close k h) choice) m (cleanable_of_guard m k h) (λ s. cleaned m k s (cleanable_at m s))
    (λ s e. cleaned_over (Clears m (Close k h) choice) m k s (cleanable_at m s)))
step_done m w seat (Finish by action outcome) answer choice c =
    quietly m seat (Finish by action outcome) answer choice c (λ x h. no_need m h.0) refl
    (λ a fresh. quiet_on m (job_of m action) (λ job. free_again (finished m job outcome) by) (λ job. finish_quiet m job outcome by))
step_done m w seat (Bind k name h) answer choice c =
    quietly m seat (Bind k name h) answer choice c (λ x h. no_need m h.0) refl
    (λ a fresh. quiet_on m (slot_named m k h) (λ s. record m { names = bound m.names name s })
    (λ s. record { objects = refl; next = refl; taken = refl }))
step_done m w seat (Find k name) answer choice c =
    quietly m seat (Find k name) answer choice c (λ x h. no_need m h.0) refl (λ a fresh. given_quiet m k (given m (Find k name)))
step_done m w seat (Full k mode) answer choice c =
    collecting m seat (Full k mode) answer choice c refl (λ n. full_quiet n k mode answer choice.fresh)
    (λ x h. (roots m, full_of m k mode x h))
step_done m w seat HandOver answer choice c =
    plainly m seat HandOver answer choice c (λ x h. no_need m h.0) refl
    (λ a fresh. handed_over_over (Clears m HandOver choice) m w m.pending)
step_done m w seat TakeUp answer choice c =
    plainly m seat TakeUp answer choice c (λ x h. no_need m h.0) refl
    (λ a fresh. line_over (Clears m TakeUp choice) m (from_lined m m.line))
step_done m w seat Collect answer choice c =
    collecting m seat Collect answer choice c refl (λ n. collect_quiet n answer choice.fresh) (λ x h. (roots m ++ x.kept, h.1.collection))
step_done m w seat asked answer choice c =
    quietly m seat asked answer choice c (λ x h. no_need m h.0) refl (λ a fresh. record { objects = refl; next = refl; taken = refl })

-- ---- Each legal entry

-- a refused ask leaves all as it was
refused_step : (m : Machine) (e : Entry) (by : Refusal) → e.answer ≡ Refused by → e.choice ≡ record { collected = None; fresh = [] }
    → IsStep (Clears m e.ask e.choice) m (done m e) e.choice.fresh
refused_step m e by a n =
    let same : done m e ≡ m = ap (λ (c : Chosen). carried (with_collection m c.collected) e.ask e.answer c.fresh) n
    ∙ ap (λ a. carried m e.ask a []) a in
    let P = Clears m e.ask e.choice in
    subst (λ z. IsStep P m z e.choice.fresh) (sym same)
    (over_alone P m m e.choice.fresh (ap (λ (c : Chosen). c.fresh) n) (quiet_over P m m (quiet m)))

full_step : (m : Machine) (e : Entry) → IsHeapFull m e → IsStep (Clears m e.ask e.choice) m (done m e) e.choice.fresh
full_step m e r =
    let c = r.clearing in
    let n = after_collection m c.kept c.pending in
    let same : done m e ≡ n =
    ap (λ (c : Chosen). carried (with_collection m c.collected) e.ask e.answer c.fresh) r.collects
    ∙ ap (λ a. carried n e.ask a []) r.answers in
    let P = Clears m e.ask e.choice in
    let always : (s : ℕ) → P s = λ s. inl (ap (λ (c : Chosen). is_some c.collected) r.collects) in
    subst (λ z. IsStep P m z e.choice.fresh) (sym same)
    (over_alone P m n e.choice.fresh (ap (λ (c : Chosen). c.fresh) r.collects)
    (collection_over P always m (roots m) c.kept c.pending r.full.full))

pub legal_step : (m : Machine) (e : Entry) → IsWellFormed m → IsLegal m e → IsStep (Clears m e.ask e.choice) m (done m e) e.choice.fresh
legal_step m e w (carried_out c) = step_done m w e.seat e.ask e.answer e.choice c
legal_step m e w (refused c) = refused_step m e c.by c.answers c.nothing
legal_step m e w (heap_full c) = full_step m e c
legal_step m e w (out_of_memory c) = refused_step m e NoMemory c.answers c.nothing
