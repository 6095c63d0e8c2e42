-- Which entries take an action up, and what they then leave.
use Rattle.std.proofs.Common.{replicate, ◌≡◌, ℕ, ◌+◌, true, false, cond, List, [], ◌∷◌, map, refl, sym, ◌∙◌, ap, subst, Option, Some, None}
use Rattle.std.proofs.Common.{option_map, option_and_then, slice_get}
use Rattle.std.proofs.lemmas.Bool.{both_ways, cond-false}
use Rattle.jlr_types.specs.declared.FieldValue.{FieldValue}
use Rattle.jlr_types.specs.declared.FieldValue.TheVariants.{Int as IntValue, Ref as RefValue}
use Rattle.jlr_types.specs.declared.Refusal.{Refusal}
use Rattle.jlr_types.specs.declared.Refusal.TheVariants.{NoMemory, HeapFull}
use Rattle.jlr_machine.specs.declared.object.Object.{Object}
use Rattle.jlr_machine.specs.declared.object.Contents.TheVariants.{Typed, Elements}
use Rattle.jlr_machine.specs.declared.object.Object.TheVariants.{Plain, Reference, Queue, Cleaner, Cleanable}
use Rattle.jlr_machine.specs.declared.object.Cleanable.{Cleanable as CleanableOf}
use Rattle.jlr_machine.specs.declared.object.RefState.TheVariants.{Fresh}
use Rattle.jlr_machine.specs.declared.object.CleanState.{CleanState}
use Rattle.jlr_machine.specs.declared.object.CleanState.TheVariants.{Armed, Pending as PendingClean, Lined, Spent}
use Rattle.jlr_machine.specs.declared.machine.Machine.{Machine}
use Rattle.jlr_machine.specs.declared.machine.Call.TheVariants.{Job as CallJob}
use Rattle.jlr_machine.specs.declared.ask.Outcome.{Outcome}
use Rattle.jlr_machine.specs.declared.ask.Outcome.TheVariants.{Ok as OutcomeOk, Failed}
use Rattle.jlr_machine.specs.declared.ask.CallOutcome.{CallOutcome}
use Rattle.jlr_machine.specs.declared.ask.CallOutcome.TheVariants.{Data as GotData, Wrote as GotWrote, Failed as GotFailed}
use Rattle.jlr_machine.specs.declared.ask.Handed.{Handed}
use Rattle.jlr_machine.specs.declared.ask.Handed.TheVariants.{Queued as HandedQueued, Lined as HandedLined, Skipped, Nothing}
use Rattle.jlr_machine.specs.declared.ask.Ask.{Ask}
use Rattle.jlr_machine.specs.declared.ask.Ask.TheVariants.{New, Put, Get, SetInt, Int, Dup, MakeRef, Deref, Refers}
use Rattle.jlr_machine.specs.declared.ask.Ask.TheVariants.{Clear, Enqueue, Enqueued, MakeQueue, Poll, Remove, MakeCleaner, Register, Clean}
use Rattle.jlr_machine.specs.declared.ask.Ask.TheVariants.{Prepare, Opened, CheckOut, CheckIn, Close, Finish, Bind, Find}
use Rattle.jlr_machine.specs.declared.ask.Ask.TheVariants.{HandOver, TakeUp, Collect, Array}
use Rattle.jlr_machine.specs.declared.ask.Answer.{Answer}
use Rattle.jlr_machine.specs.declared.ask.Answer.TheVariants.{Handle, Job, AlreadyDone, Refused}
use Rattle.jlr_machine.specs.declared.entry.Entry.{Entry}
use Rattle.jlr_machine.specs.Chosen.{Chosen}
use Rattle.jlr_machine.specs.declared.entry.Collected.{Collected}
use Rattle.jlr_machine.specs.Objects.{at, some_and, as_reference, as_cleanable, with_cleanable, with_reference, with_field, queue_ahead}
use Rattle.jlr_machine.specs.Objects.{is_lined, is_spent}
use Rattle.jlr_machine.specs.Collection.{after_collection}
use Rattle.jlr_machine.specs.Lookups.{slot_named, field_named, cleanable_at, cleanable_of_guard, guard_named, on, job_of, with_object}
use Rattle.jlr_machine.specs.Lookups.{with_handle, with_new, with_call, bound, blank}
use Rattle.jlr_machine.specs.Refusals.{given}
use Rattle.jlr_machine.specs.Calls.{after, new_handle, handle_given, number_in, outcome_answer, call_answer, take_up_answer, handed}
use Rattle.jlr_machine.specs.Calls.{hand_over_answer, line_answer, from_lined, made, registered, with_given, to_queue, unreferred, enqueued}
use Rattle.jlr_machine.specs.Calls.{polled, poll_given, spent, taken_up, cleaned, line_taken, delivered, handed_over, guard_fenced, opened}
use Rattle.jlr_machine.specs.Calls.{checked_out, checked_in, finished, free_again, prepared_in}
use Rattle.jlr_machine.specs.Run.{MayCollect, Answers, with_collection, IsCarriedOut, IsLegal, carried, done}
use Rattle.jlr_machine.specs.Run.IsLegal.{carried_out, refused, heap_full, out_of_memory}
use Rattle.jlr_machine.specs.WellFormed.{IsCleanableAt, IsUnspent}
use Rattle.jlr_laws.proofs.Frames.{no_some, some_same, is_cleanable_there}
use Rattle.jlr_laws.proofs.LegalKept.{entry, no_need}
use Rattle.jlr_histories.specs.Lives.{is_job}
use Rattle.jlr_histories.proofs.Changes.{quiet_on, changed_is}
use Rattle.jlr_histories.proofs.ReferenceAsks.{given_quiet}
use Rattle.jlr_histories.proofs.CleaningAsks.{with_line, taken_up_objects, taken_up_count}
use Rattle.jlr_histories.proofs.Steps.{opened_quiet, finish_quiet}

-- ---- What an entry takes up

-- the answer is no job, and none is counted
pub record TakesNone (m n : Machine) (a : Answer) : Type 0 where
  pub no_job : is_job a ≡ false
  pub same : n.taken ≡ m.taken

-- nothing, or the action of an unspent cleanable, which then is Spent
pub data IsTaking (m n : Machine) (a : Answer) : Type 0 where
  none : TakesNone m n a → IsTaking m n a
  one : (s : ℕ) (c : CleanableOf) → IsUnspent m s c → a ≡ Job c.action c.work → n.taken ≡ m.taken + 1 → IsCleanableAt n s (spent c)
      → IsTaking m n a

-- ---- Answers that are no jobs

-- an option that holds no job
abbrev HoldsNoJob : Option Answer → Type 0
HoldsNoJob o = (a : Answer) → o ≡ Some a → is_job a ≡ false

plain : (x : Answer) → is_job x ≡ false → HoldsNoJob (Some x)
plain x h a e = ap is_job (sym (some_same x a e)) ∙ h

mapped : {A : Type 0} (f : A → Answer) → ((x : A) → is_job (f x) ≡ false) → (o : Option A) → HoldsNoJob (option_map f o)
mapped f h None a e = no_some a e
mapped f h (Some x) a e = plain (f x) (h x) a e

handle : (m : Machine) (k : ℕ) → HoldsNoJob (new_handle m k)
handle m k = mapped _ (λ s. refl) (at m.mutators k)

object_given : (m : Machine) (k : ℕ) (o : Option ℕ) → HoldsNoJob (handle_given m k o)
object_given m k None = plain (Handle 0) refl
object_given m k (Some s) = handle m k

number : (o : Option FieldValue) → HoldsNoJob (option_and_then number_in o)
number None a e = no_some a e
number (Some (IntValue n)) a e = plain _ refl a e
number (Some (RefValue s)) a e = no_some a e

outcome_job : (outcome : Outcome) (success : Option Answer) → HoldsNoJob success → HoldsNoJob (outcome_answer outcome success)
outcome_job OutcomeOk success h = h
outcome_job (Failed fault) success h = plain _ refl

call_job : (outcome : CallOutcome) → is_job (call_answer outcome) ≡ false
call_job (GotData bytes) = refl
call_job (GotWrote n) = refl
call_job (GotFailed fault) = refl

handed_job : (m : Machine) (slots : List ℕ) → HoldsNoJob (hand_over_answer m slots)
handed_job m [] = plain _ refl
handed_job m (s ∷ slots) = mapped _ (λ o. refl) (at m.objects s)

-- ---- Changes that count nothing

taken_on : {A : Type 0} (m : Machine) (o : Option A) (f : A → Machine) → ((x : A) → (f x).taken ≡ m.taken) → (on o f m).taken ≡ m.taken
taken_on m None f h = refl
taken_on m (Some x) f h = h x

to_queue_taken : (m : Machine) (s : ℕ) (o : Option ℕ) → (to_queue m s o).taken ≡ m.taken
to_queue_taken m s None = refl
to_queue_taken m s (Some q) = refl

enqueued_taken : (m : Machine) (s : ℕ) → (enqueued m s).taken ≡ m.taken
enqueued_taken m s = to_queue_taken (with_object m s (with_reference unreferred)) s
    (option_and_then queue_ahead (option_and_then as_reference (at m.objects s)))

polled_taken : (m : Machine) (q : ℕ) (o : Option ℕ) → (polled m q o).taken ≡ m.taken
polled_taken m q None = refl
polled_taken m q (Some s) = refl

poll_taken : (m : Machine) (k h : ℕ) (o : Option ℕ) → (poll_given m k h o).taken ≡ m.taken
poll_taken m k h o =
    taken_on m (slot_named m k h) (λ q. with_given (polled m q o) k o) (λ q. (given_quiet (polled m q o) k o).taken ∙ polled_taken m q o)

made_taken : (m : Machine) (k : ℕ) (fresh : List ℕ) (o : Object) → (made m k fresh o).taken ≡ m.taken
made_taken m k fresh o = taken_on m (slice_get fresh 0) (λ s. with_handle (with_new m s o) k s) (λ s. refl)

prepared_taken : (m : Machine) (k : ℕ) (fresh : List ℕ) (rid : ℕ) → (prepared_in m k fresh rid).taken ≡ m.taken
prepared_taken m k [] rid = refl
prepared_taken m k (g ∷ []) rid = refl
prepared_taken m k (g ∷ c ∷ []) rid = refl
prepared_taken m k (g ∷ c ∷ x ∷ rest) rid = refl

delivered_taken : (m : Machine) (s : ℕ) (h : Handed) → (delivered m s h).taken ≡ m.taken
delivered_taken m s HandedQueued = enqueued_taken m s
delivered_taken m s HandedLined = refl
delivered_taken m s Skipped = refl
delivered_taken m s Nothing = refl

handed_over_taken : (m : Machine) (slots : List ℕ) → (handed_over m slots).taken ≡ m.taken
handed_over_taken m [] = refl
handed_over_taken m (s ∷ rest) =
    elim (at m.objects s) as (λ o. (elim o as (λ _. Machine) [
      | None ↦ record m { pending = rest }
      | Some o ↦
          delivered (record m { pending = rest }) s (handed o)
    ]).taken ≡ m.taken) [
      | None ↦ refl
      | Some o ↦ delivered_taken (record m { pending = rest }) s (handed o)
    ]

-- ---- Take-ups

unspent_state : (state : CleanState) → is_spent state ≡ false → state ≡ Spent → ⊥
unspent_state state h e = both_ways (is_spent state) h (ap is_spent e)

-- what a take-up leaves of the cleanable
spent_there : (m : Machine) (line : List ℕ) (by s : ℕ) (c : CleanableOf) → IsCleanableAt m s c
    → at (taken_up (with_line m line) by s c).objects s ≡ Some (Cleanable (spent c))
spent_there m line by s c e =
    ap (λ heap. at heap s) (taken_up_objects m line by s c) ∙ changed_is m.objects s (with_cleanable spent)
    ∙ ap (option_map (with_cleanable spent)) e

cleaned_taking : (m : Machine) (k s : ℕ) (c : CleanableOf) (a : Answer) → IsCleanableAt m s c → take_up_answer c ≡ a
    → IsTaking m (cleaned m k s (Some c)) a
cleaned_taking m k s c a e h =
    elim (is_spent c.state) as (λ b. is_spent c.state ≡ b → cond b AlreadyDone (Job c.action c.work) ≡ a
    → IsTaking m (cond b m (with_call (taken_up m k s c) k None (CallJob c.action))) a) [
      | true ↦ λ b h. none (record { no_job = sym (ap is_job h); same = refl })
      | false ↦ λ b h. one s c (record { there = e; unspent = unspent_state c.state b }) (sym h) (taken_up_count m m.line k s c)
          (spent_there m m.line k s c e)
    ] refl h

taking_on : (m : Machine) (k : ℕ) (o : Option ℕ) (a : Answer) → option_map take_up_answer (option_and_then (cleanable_at m) o) ≡ Some a
    → IsTaking m (on o (λ s. cleaned m k s (cleanable_at m s)) m) a
taking_on m k None a h = no_some a h
taking_on m k (Some s) a h =
    elim (cleanable_at m s) as (λ x. cleanable_at m s ≡ x → option_map take_up_answer x ≡ Some a → IsTaking m (cleaned m k s x) a) [
      | None ↦ λ e h. no_some a h
      | Some c ↦ λ e h. cleaned_taking m k s c a (is_cleanable_there (at m.objects s) c e) (some_same (take_up_answer c) a h)
    ] refl h

-- the cleanable that a handle names, in two words
pub named_cleanable : (m : Machine) (o : Option ℕ)
    → option_and_then as_cleanable (option_and_then (at m.objects) o) ≡ option_and_then (cleanable_at m) o
named_cleanable m None = refl
named_cleanable m (Some s) = refl

pub first_lined : (m : Machine) (line : List ℕ) (s : ℕ) (rest : List ℕ) → from_lined m line ≡ s ∷ rest
    → some_and (λ c. is_lined c.state) (cleanable_at m s) ≡ true
first_lined m [] s rest e = absurd (cc e)
first_lined m (x ∷ line) s rest e =
    elim (some_and (λ c. is_lined c.state) (cleanable_at m x)) as (λ b. some_and (λ c. is_lined c.state) (cleanable_at m x) ≡ b
    → cond b (x ∷ line) (from_lined m line) ≡ s ∷ rest → some_and (λ c. is_lined c.state) (cleanable_at m s) ≡ true) [
      | true ↦ λ h f. let same : x ≡ s = cc f in ap (λ z. some_and (λ c. is_lined c.state) (cleanable_at m z)) (sym same) ∙ h
      | false ↦ λ h f. first_lined m line s rest f
    ] refl e

pub lined_unspent : (state : CleanState) → is_lined state ≡ true → is_spent state ≡ false
lined_unspent Armed h = absurd (both_ways false refl h)
lined_unspent PendingClean h = absurd (both_ways false refl h)
lined_unspent Lined h = refl
lined_unspent Spent h = absurd (both_ways false refl h)

line_taking : (m : Machine) (line : List ℕ) (a : Answer)
    → ((s : ℕ) (rest : List ℕ) → line ≡ s ∷ rest → some_and (λ c. is_lined c.state) (cleanable_at m s) ≡ true) → line_answer m line ≡ Some a
    → IsTaking m (line_taken m line) a
line_taking m [] a first h = none (record { no_job = plain _ refl a h; same = refl })
line_taking m (s ∷ rest) a first h =
    elim (cleanable_at m s) as (λ o. cleanable_at m s ≡ o → option_map take_up_answer o ≡ Some a
    → IsTaking m (elim o as (λ _. Machine) [ None ↦ record m { line = rest } | Some c ↦ taken_up (record m { line = rest }) 255 s c ])
    a) [
      | None ↦ λ e h. no_some a h
      | Some c ↦ λ e h.
          let there : IsCleanableAt m s c = is_cleanable_there (at m.objects s) c e in
          let free : is_spent c.state ≡ false = lined_unspent c.state (sym (ap (some_and (λ c. is_lined c.state)) e) ∙ first s rest refl) in
          let job : Job c.action c.work ≡ a = sym (cond-false (is_spent c.state) AlreadyDone (Job c.action c.work) free)
          ∙ some_same (take_up_answer c) a h in
          one s c (record { there = there; unspent = unspent_state c.state free }) (sym job) (taken_up_count m rest 255 s c)
          (spent_there m rest 255 s c there)
    ] refl h

-- ---- The cases of an entry

abbrev pub TakingOf : Machine → ℕ → Ask → Answer → Chosen → Type 0
TakingOf m seat ask answer choice = IsTaking m (done m (entry seat ask answer choice)) answer

carried_none : (n : Machine) (ask : Ask) (a : Answer) (fresh : List ℕ) → TakesNone n (after n ask a fresh) a
    → TakesNone n (carried n ask a fresh) a
carried_none n ask (Refused by) fresh h = record { no_job = refl; same = refl }
carried_none n ask a fresh h = h

-- whatever the collection
none_taken : (m : Machine) (seat : ℕ) (ask : Ask) (answer : Answer) (choice : Chosen) → IsCarriedOut m (entry seat ask answer choice)
    → ((n : Machine) (o : Option Collected) → Answers n ask o answer → TakesNone n (after n ask answer choice.fresh) answer)
    → TakingOf m seat ask answer choice
none_taken m seat ask answer choice c h =
    elim (choice.collected) as (λ o. Answers (with_collection m o) ask o answer
    → IsTaking m (carried (with_collection m o) ask answer choice.fresh) answer) [
      | None ↦ λ a. none (carried_none m ask answer choice.fresh (h m None a))
      | Some x ↦ λ a.
          let n = after_collection m x.kept x.pending in
          let t = carried_none n ask answer choice.fresh (h n (Some x) a) in
          none (record { no_job = t.no_job; same = t.same })
    ] c.answers

carried_taking : (m : Machine) (ask : Ask) (a : Answer) (fresh : List ℕ) → IsTaking m (after m ask a fresh) a
    → IsTaking m (carried m ask a fresh) a
carried_taking m ask (Refused by) fresh h = none (record { no_job = refl; same = refl })
carried_taking m ask a fresh h = h

-- an ask that takes up comes with no collection
takes : (m : Machine) (seat : ℕ) (ask : Ask) (answer : Answer) (choice : Chosen) → IsCarriedOut m (entry seat ask answer choice)
    → ((c : Collected) → MayCollect m ask (Some c) → ⊥) → (Answers m ask None answer → IsTaking m (after m ask answer choice.fresh) answer)
    → TakingOf m seat ask answer choice
takes m seat ask answer choice c never h =
    elim (choice.collected) as (λ o. MayCollect m ask o → Answers (with_collection m o) ask o answer
    → IsTaking m (carried (with_collection m o) ask answer choice.fresh) answer) [
      | None ↦ λ g a. carried_taking m ask answer choice.fresh (h a)
      | Some x ↦ λ g a. absurd (never x g)
    ] c.collection c.answers

-- ---- Each ask

taking_done : (m : Machine) (seat : ℕ) (ask : Ask) (answer : Answer) (choice : Chosen) → IsCarriedOut m (entry seat ask answer choice)
    → TakingOf m seat ask answer choice
taking_done m seat (New k layout) answer choice c =
    none_taken m seat (New k layout) answer choice c
    (λ n o a. record { no_job = handle n k answer a; same = made_taken n k choice.fresh (Plain (Typed (map blank layout))) })
taking_done m seat (Array k size) answer choice c =
    none_taken m seat (Array k size) answer choice c
    (λ n o a. record { no_job = handle n k answer a; same = made_taken n k choice.fresh (Plain (Elements (replicate size None))) })
taking_done m seat (Put k h f v) answer choice c =
    none_taken m seat (Put k h f v) answer choice c (λ n o a.
    record {
      no_job = plain _ refl answer a;
      same =
          taken_on n (slot_named n k h) (λ s. with_object n s (with_field f (RefValue (slot_named n k v)))) (λ s. refl);
    })
taking_done m seat (Get k h f) answer choice c = none_taken m seat (Get k h f) answer choice c
    (λ n o a. record { no_job = object_given n k (given n (Get k h f)) answer a; same = (given_quiet n k (given n (Get k h f))).taken })
taking_done m seat (SetInt k h f v) answer choice c =
    none_taken m seat (SetInt k h f v) answer choice c
    (λ n o a. record {
      no_job =
          plain _ refl answer a;
      same = taken_on n (slot_named n k h) (λ s. with_object n s (with_field f (IntValue v))) (λ s. refl);
    })
taking_done m seat (Int k h f) answer choice c =
    none_taken m seat (Int k h f) answer choice c (λ n o a. record { no_job = number (field_named n k h f) answer a; same = refl })
taking_done m seat (Dup k h) answer choice c = none_taken m seat (Dup k h) answer choice c
    (λ n o a. record { no_job = object_given n k (given n (Dup k h)) answer a; same = (given_quiet n k (given n (Dup k h))).taken })
taking_done m seat (MakeRef k kind h q) answer choice c =
    none_taken m seat (MakeRef k kind h q) answer choice c
    (λ n o a. record {
      no_job = handle n k answer a;
      same =
          made_taken n k choice.fresh
          (Reference (record { kind = kind; referent = slot_named n k h; queue = slot_named n k q; state = Fresh }));
    })
taking_done m seat (Deref k h) answer choice c = none_taken m seat (Deref k h) answer choice c
    (λ n o a. record { no_job = object_given n k (given n (Deref k h)) answer a; same = (given_quiet n k (given n (Deref k h))).taken })
taking_done m seat (Refers k r h) answer choice c =
    none_taken m seat (Refers k r h) answer choice c (λ n o a. record { no_job = mapped _ (λ x. refl) _ answer a; same = refl })
taking_done m seat (Clear k h) answer choice c = none_taken m seat (Clear k h) answer choice c
    (λ n o a. record {
      no_job =
          plain _ refl answer a;
      same = taken_on n (slot_named n k h) (λ s. with_object n s (with_reference unreferred)) (λ s. refl);
    })
taking_done m seat (Enqueue k h) answer choice c =
    none_taken m seat (Enqueue k h) answer choice c (λ n o a.
    record { no_job = mapped _ (λ x. refl) _ answer a; same = taken_on n (slot_named n k h) (enqueued n) (λ s. enqueued_taken n s) })
taking_done m seat (Enqueued k h) answer choice c =
    none_taken m seat (Enqueued k h) answer choice c (λ n o a. record { no_job = mapped _ (λ x. refl) _ answer a; same = refl })
taking_done m seat (MakeQueue k) answer choice c =
    none_taken m seat (MakeQueue k) answer choice c (λ n o a.
    record { no_job = handle n k answer a; same = made_taken n k choice.fresh (Queue []) })
taking_done m seat (Poll k h) answer choice c = none_taken m seat (Poll k h) answer choice c
    (λ n o a. record { no_job = object_given n k (given n (Poll k h)) answer a; same = poll_taken n k h (given n (Poll k h)) })
taking_done m seat (Remove k h) answer choice c =
    none_taken m seat (Remove k h) answer choice c (λ n o a.
    record { no_job = object_given n k (given n (Remove k h)) answer a; same = poll_taken n k h (given n (Remove k h)) })
taking_done m seat (MakeCleaner k) answer choice c =
    none_taken m seat (MakeCleaner k) answer choice c
    (λ n o a. record { no_job = handle n k answer a; same = made_taken n k choice.fresh Cleaner })
taking_done m seat (Register k d h note) answer choice c =
    none_taken m seat (Register k d h note) answer choice c
    (λ n o a. record { no_job = handle n k answer a; same = made_taken n k choice.fresh (registered n k h note) })
taking_done m seat (Clean k h) answer choice c = takes m seat (Clean k h) answer choice c (λ x g. no_need m g.0)
    (λ a. taking_on m k (slot_named m k h) answer (ap (option_map take_up_answer) (sym (named_cleanable m (slot_named m k h))) ∙ a))
taking_done m seat (Prepare k) answer choice c =
    none_taken m seat (Prepare k) answer choice c (λ n o a. subst (λ z. TakesNone n (after n (Prepare k) z choice.fresh) z) (sym a.3)
    (record { no_job = refl; same = prepared_taken n k choice.fresh a.0 }))
taking_done m seat (Opened k OutcomeOk) answer choice c =
    none_taken m seat (Opened k OutcomeOk) answer choice c
    (λ n o a. record {
      no_job =
          handle n k answer a;
      same = (quiet_on n (guard_fenced n k) (λ g. opened n k g OutcomeOk) (opened_quiet n k)).taken;
    })
taking_done m seat (Opened k (Failed fault)) answer choice c =
    none_taken m seat (Opened k (Failed fault)) answer choice c
    (λ n o a. record {
      no_job =
          plain _ refl answer a;
      same = taken_on n (guard_fenced n k) (λ g. opened n k g (Failed fault)) (λ g. refl);
    })
taking_done m seat (CheckOut k h) answer choice c =
    none_taken m seat (CheckOut k h) answer choice c
    (λ n o a. record {
      no_job =
          mapped _ (λ x. refl) _ answer a;
      same = taken_on n (guard_named n k h) (checked_out n k (slot_named n k h)) (λ g. refl);
    })
taking_done m seat (CheckIn k outcome) answer choice c =
    none_taken m seat (CheckIn k outcome) answer choice c
    (λ n o a. record { no_job = plain _ (call_job outcome) answer a; same = taken_on n (guard_fenced n k) (checked_in n k) (λ g. refl) })
taking_done m seat (Close k h) answer choice c =
    takes m seat (Close k h) answer choice c (λ x g. no_need m g.0) (λ a. taking_on m k (cleanable_of_guard m k h) answer a)
taking_done m seat (Finish by action outcome) answer choice c =
    none_taken m seat (Finish by action outcome) answer choice c
    (λ n o a. record {
      no_job = outcome_job outcome _ (plain _ refl) answer a;
      same =
          taken_on n (job_of n action) (λ job. free_again (finished n job outcome) by) (λ job. (finish_quiet n job outcome by).taken);
    })
taking_done m seat (Bind k name h) answer choice c =
    none_taken m seat (Bind k name h) answer choice c
    (λ n o a. record {
      no_job =
          plain _ refl answer a;
      same = taken_on n (slot_named n k h) (λ s. record n { names = bound n.names name s }) (λ s. refl);
    })
taking_done m seat (Find k name) answer choice c =
    none_taken m seat (Find k name) answer choice c (λ n o a.
    record { no_job = handle n k answer a; same = (given_quiet n k (given n (Find k name))).taken })
taking_done m seat HandOver answer choice c = none_taken m seat HandOver answer choice c
    (λ n o a. record { no_job = handed_job n n.pending answer a; same = handed_over_taken n n.pending })
taking_done m seat TakeUp answer choice c =
    takes m seat TakeUp answer choice c (λ x g. no_need m g.0) (λ a. line_taking m (from_lined m m.line) answer (first_lined m m.line) a)
taking_done m seat Collect answer choice c =
    none_taken m seat Collect answer choice c (λ n o a. record { no_job = ap is_job a; same = refl })
taking_done m seat asked answer choice c =
    none_taken m seat asked answer choice c (λ n o a. record { no_job = plain _ refl answer a; same = refl })

-- ---- Each legal entry

collected_taken : (m : Machine) (o : Option Collected) → (with_collection m o).taken ≡ m.taken
collected_taken m None = refl
collected_taken m (Some x) = refl

-- a refused ask takes nothing up
refused_taking : (m : Machine) (e : Entry) (by : Refusal) → e.answer ≡ Refused by → IsTaking m (done m e) e.answer
refused_taking m e by a =
    let same : (done m e).taken ≡ m.taken = ap (λ z. (carried (with_collection m e.choice.collected) e.ask z e.choice.fresh).taken) a
    ∙ collected_taken m e.choice.collected in
    none (record { no_job = ap is_job a; same = same })

pub legal_taking : (m : Machine) (e : Entry) → IsLegal m e → IsTaking m (done m e) e.answer
legal_taking m e (carried_out c) = taking_done m e.seat e.ask e.answer e.choice c
legal_taking m e (refused c) = refused_taking m e c.by c.answers
legal_taking m e (heap_full c) = refused_taking m e HeapFull c.answers
legal_taking m e (out_of_memory c) = refused_taking m e NoMemory c.answers
