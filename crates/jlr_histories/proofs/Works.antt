-- What an entry does to the running jobs, and what it records.
use Rattle.std.proofs.Common.{◌≡◌, ℕ, ◌==◌, true, false, not, ◌&&◌, List, [], ◌∷◌, ◌++◌, ◌+◌, refl, sym, ◌∙◌, ap, subst, Option, Some, None}
use Rattle.std.proofs.Common.{option_map, option_and_then, unwrap_or}
use Rattle.std.proofs.lemmas.Bool.{both_ways, and_right, cond_both, cond-true, cond-false, not-false, eqb-true}
use Rattle.jlr_types.specs.declared.Work.{Work}
use Rattle.jlr_types.specs.declared.Work.TheVariants.{Note, Resource as WorkOn}
use Rattle.jlr_types.specs.declared.Refusal.{Refusal}
use Rattle.jlr_types.specs.declared.Refusal.TheVariants.{NoMemory, HeapFull, NotOut}
use Rattle.jlr_machine.specs.declared.object.Cleanable.{Cleanable as CleanableOf}
use Rattle.jlr_machine.specs.declared.machine.Machine.{Machine}
use Rattle.jlr_machine.specs.declared.machine.Job.{Job as JobOf}
use Rattle.jlr_machine.specs.declared.machine.Call.TheVariants.{Free, Job as CallJob}
use Rattle.jlr_machine.specs.declared.ask.Outcome.{Outcome}
use Rattle.jlr_machine.specs.declared.ask.Outcome.TheVariants.{Ok as OutcomeOk, Failed}
use Rattle.jlr_machine.specs.declared.ask.Ask.{Ask}
use Rattle.jlr_machine.specs.declared.ask.Ask.TheVariants.{Clean, Close, Finish, TakeUp}
use Rattle.jlr_machine.specs.declared.ask.Answer.{Answer}
use Rattle.jlr_machine.specs.declared.ask.Answer.TheVariants.{Done, Faulted, Job, AlreadyDone, Refused}
use Rattle.jlr_machine.specs.declared.entry.Entry.{Entry}
use Rattle.jlr_machine.specs.Chosen.{Chosen}
use Rattle.jlr_machine.specs.declared.entry.Collected.{Collected}
use Rattle.jlr_machine.specs.Objects.{some_and, is_lined, is_spent}
use Rattle.jlr_machine.specs.Lookups.{slot_named, cleanable_at, cleanable_of_guard, on, job_of, without_job, last_256, rid_of, with_call}
use Rattle.jlr_machine.specs.Refusals.{asker, refusal}
use Rattle.jlr_machine.specs.Calls.{after, reply, outcome_answer, take_up_answer, line_answer, from_lined, taken_up, cleaned, line_taken}
use Rattle.jlr_machine.specs.Calls.{noted, without_work_resource, finished, free_again}
use Rattle.jlr_machine.specs.Run.{MayCollect, Answers, with_collection, IsCarriedOut, IsLegal, carried, done}
use Rattle.jlr_machine.specs.Run.IsLegal.{carried_out, refused, heap_full, out_of_memory}
use Rattle.jlr_machine.specs.WellFormed.{IsJob}
use Rattle.jlr_laws.proofs.Frames.{no_some, some_same}
use Rattle.jlr_laws.proofs.Keyed.{key_found}
use Rattle.jlr_laws.proofs.Allowed.{allowed, some_and_gives}
use Rattle.jlr_laws.proofs.LegalKept.{entry, no_need}
use Rattle.jlr_laws.proofs.Refused.{gives_no_refusal}
use Rattle.jlr_laws.proofs.keeps.TakeUps.{job_of_cleanable, taken_up_is}
use Rattle.jlr_histories.specs.Lives.{tells}
use Rattle.jlr_machine.specs.Refusals.{is_refusal}
use Rattle.jlr_histories.proofs.Steps.{carried_is}
use Rattle.jlr_histories.proofs.Takes.{named_cleanable, first_lined, lined_unspent}
use Rattle.jlr_histories.proofs.Accounts.{Account, account, action_key, begun, ended, works, kept, collected_kept, carried_kept}

-- ---- What an entry does to the account

-- the outcome of no action is recorded
abbrev pub IsSilent : Ask → Answer → Type 0
IsSilent ask a = (action : ℕ) → (tells action ask && not (is_refusal a)) ≡ false

-- whose a job is that is taken up
abbrev pub taker : Ask → ℕ
taker ask = unwrap_or (asker ask) 255

abbrev pub job_for : ℕ → Work → ℕ → JobOf
job_for action work by = record { action = action; work = work; by = by }

-- nothing; a job is taken up; or one ends, and its outcome is recorded
pub data IsWorking (m n : Machine) (ask : Ask) (a : Answer) : Type 0 where
  keeps : IsSilent ask a → account n ≡ account m → IsWorking m n ask a
  takes : IsSilent ask a → (action : ℕ) (work : Work) → a ≡ Job action work → account n ≡ begun m (job_for action work (taker ask))
      → IsWorking m n ask a
  ends : (job : JobOf) (outcome : Outcome) → ask ≡ Finish job.by job.action outcome → is_refusal a ≡ false → IsJob m job
      → account n ≡ ended m job outcome → IsWorking m n ask a

-- ---- Take-ups

take_up_works : (m n : Machine) (ask : Ask) (c : CleanableOf) (a : Answer) → ((x : Answer) → IsSilent ask x) → take_up_answer c ≡ a
    → (is_spent c.state ≡ true → account n ≡ account m)
    → (is_spent c.state ≡ false → account n ≡ begun m (job_of_cleanable (taker ask) c)) → IsWorking m n ask a
take_up_works m n ask c a silent answer spent taken =
    subst (λ z. IsWorking m n ask z) answer
    (cond_both (is_spent c.state) AlreadyDone (Job c.action c.work) (λ z. IsWorking m n ask z)
    (λ e. keeps (silent AlreadyDone) (spent e))
    (λ e. takes (silent (Job c.action c.work)) c.action c.work refl (taken e)))

-- by a mutator
cleaned_works : (m : Machine) (k s : ℕ) (ask : Ask) (c : CleanableOf) (a : Answer) → taker ask ≡ k → ((x : Answer) → IsSilent ask x)
    → take_up_answer c ≡ a → IsWorking m (cleaned m k s (Some c)) ask a
cleaned_works m k s ask c a by silent answer =
    take_up_works m (cleaned m k s (Some c)) ask c a silent answer
    (λ e. ap account (cond-true (is_spent c.state) m (with_call (taken_up m k s c) k None (CallJob c.action)) e))
    (λ e. ap account (cond-false (is_spent c.state) m (with_call (taken_up m k s c) k None (CallJob c.action)) e)
    ∙ ap account (taken_up_is m k s c) ∙ ap (λ i. begun m (job_of_cleanable i c)) (sym by))

cleans : (m : Machine) (k : ℕ) (o : Option ℕ) (ask : Ask) (a : Answer) → taker ask ≡ k → ((x : Answer) → IsSilent ask x)
    → option_map take_up_answer (option_and_then (cleanable_at m) o) ≡ Some a
    → IsWorking m (on o (λ s. cleaned m k s (cleanable_at m s)) m) ask a
cleans m k None ask a by silent h = no_some a h
cleans m k (Some s) ask a by silent h =
    elim (cleanable_at m s) as (λ x. option_map take_up_answer x ≡ Some a → IsWorking m (cleaned m k s x) ask a) [
      | None ↦ λ h. no_some a h
      | Some c ↦ λ h. cleaned_works m k s ask c a by silent (some_same (take_up_answer c) a h)
    ] h

-- by the cleaner
line_works : (m : Machine) (line : List ℕ) (a : Answer)
    → ((s : ℕ) (rest : List ℕ) → line ≡ s ∷ rest → some_and (λ c. is_lined c.state) (cleanable_at m s) ≡ true) → line_answer m line ≡ Some a
    → IsWorking m (line_taken m line) TakeUp a
line_works m [] a first h = keeps (λ action. refl) refl
line_works m (s ∷ rest) a first h =
    elim (cleanable_at m s) as (λ o. cleanable_at m s ≡ o → option_map take_up_answer o ≡ Some a
    → IsWorking m (elim o as (λ _. Machine) [ None ↦ record m { line = rest } | Some c ↦ taken_up (record m { line = rest }) 255 s c ])
    TakeUp a) [
      | None ↦ λ e h. no_some a h
      | Some c ↦ λ e h.
          let free : is_spent c.state ≡ false = lined_unspent c.state (sym (ap (some_and (λ c. is_lined c.state)) e) ∙ first s rest refl) in
          take_up_works m (taken_up (record m { line = rest }) 255 s c) TakeUp c a (λ x action. refl) (some_same (take_up_answer c) a h)
          (λ b. absurd (both_ways (is_spent c.state) free b))
          (λ b. ap account (taken_up_is (record m { line = rest }) 255 s c))
    ] refl h

-- ---- The end of a job

pub outcome_said : (outcome : Outcome) (a : Answer) → outcome_answer outcome (Some Done) ≡ Some a → is_refusal a ≡ false
outcome_said OutcomeOk a e = ap is_refusal (sym (some_same Done a e))
outcome_said (Failed fault) a e = ap is_refusal (sym (some_same (Faulted fault) a e))

resource_kept : (m : Machine) (work : Work) → account (without_work_resource m (rid_of work)) ≡ account m
resource_kept m (Note n) = refl
resource_kept m (WorkOn rid) = refl

finished_ended : (m : Machine) (job : JobOf) (outcome : Outcome) → account (finished m job outcome) ≡ ended m job outcome
finished_ended m job OutcomeOk =
    ap {A = Account} {B = Account} (λ x. record x { ok = m.ok + 1; notes = noted m.notes job.work })
    (resource_kept (record m { jobs = without_job m.jobs job.action }) job.work)
finished_ended m job (Failed fault) =
    ap {A = Account} {B = Account} (λ x. record x {
      failed = m.failed + 1;
      faults = last_256 (m.faults ++ record { action = job.action; fault = fault } ∷ []);
    })
    (resource_kept (record m { jobs = without_job m.jobs job.action }) job.work)

freed_kept : (n : Machine) (by : ℕ) → account (free_again n by) ≡ account n
freed_kept n by = cond_both (by == 255) n (with_call n by None Free) (λ z. account z ≡ account n) (λ _. refl) (λ _. refl)

finish_works : (m : Machine) (by action : ℕ) (outcome : Outcome) (a : Answer) (fresh : List ℕ) → refusal m (Finish by action outcome) ≡ None
    → reply m (Finish by action outcome) ≡ Some a
    → IsWorking m (after m (Finish by action outcome) a fresh) (Finish by action outcome) a
finish_works m by action outcome a fresh r answers =
    let ok = allowed m (Finish by action outcome) r in
    let job = some_and_gives (λ (job : JobOf). job.by == by) (job_of m action) (not-false _ (ok NotOut refl)) in
    let is : job.0.action ≡ action = key_found action_key m.jobs action job.0 job.1 in
    let asks : Finish by action outcome ≡ Finish job.0.by job.0.action outcome =
    ap (λ i. Finish i action outcome) (sym (eqb-true job.0.by by job.2)) ∙ ap (λ i. Finish job.0.by i outcome) (sym is) in
    subst (λ o. IsWorking m (on o (λ job. free_again (finished m job outcome) by) m) (Finish by action outcome) a) (sym job.1)
    (ends job.0 outcome asks (outcome_said outcome a answers) (ap (job_of m) is ∙ job.1)
    (freed_kept (finished m job.0 outcome) by ∙ finished_ended m job.0 outcome))

-- ---- Each ask

abbrev pub WorkingOf : Machine → ℕ → Ask → Answer → Chosen → Type 0
WorkingOf m seat ask answer choice = IsWorking m (done m (entry seat ask answer choice)) ask answer

silent_ask : (ask : Ask) → works ask ≡ false → (a : Answer) → IsSilent ask a
silent_ask (Finish by action outcome) t a number = absurd (both_ways true t refl)
silent_ask ask t a number = refl

-- one of the others, whatever the collection
other : (m : Machine) (seat : ℕ) (ask : Ask) (answer : Answer) (choice : Chosen) → works ask ≡ false → WorkingOf m seat ask answer choice
other m seat ask answer choice t =
    let n = with_collection m choice.collected in
    keeps (silent_ask ask t answer) (carried_kept n ask answer choice.fresh (kept n ask answer choice.fresh t)
    ∙ collected_kept m choice.collected)

-- an ask that makes no object comes with no collection
alone : (m : Machine) (seat : ℕ) (ask : Ask) (answer : Answer) (choice : Chosen) → IsCarriedOut m (entry seat ask answer choice)
    → ((c : Collected) → MayCollect m ask (Some c) → ⊥)
    → (Answers m ask None answer → reply m ask ≡ Some answer)
    → (reply m ask ≡ Some answer → IsWorking m (after m ask answer choice.fresh) ask answer) → WorkingOf m seat ask answer choice
alone m seat ask answer choice c none replies h =
    elim (choice.collected) as (λ o. MayCollect m ask o → Answers (with_collection m o) ask o answer
    → IsWorking m (carried (with_collection m o) ask answer choice.fresh) ask answer) [
      | None ↦ λ g a. subst (λ z. IsWorking m z ask answer)
          (sym (carried_is m ask answer choice.fresh (gives_no_refusal m ask answer (replies a)))) (h (replies a))
      | Some x ↦ λ g a. absurd (none x g)
    ] c.collection c.answers

working_done : (m : Machine) (seat : ℕ) (ask : Ask) (answer : Answer) (choice : Chosen) → IsCarriedOut m (entry seat ask answer choice)
    → WorkingOf m seat ask answer choice
working_done m seat (Clean k h) answer choice c =
    alone m seat (Clean k h) answer choice c (λ x g. no_need m g.0) (λ a. a)
    (λ a. cleans m k (slot_named m k h) (Clean k h) answer refl (λ x action. refl)
    (ap (option_map take_up_answer) (sym (named_cleanable m (slot_named m k h))) ∙ a))
working_done m seat (Close k h) answer choice c =
    alone m seat (Close k h) answer choice c (λ x g. no_need m g.0) (λ a. a)
    (λ a. cleans m k (cleanable_of_guard m k h) (Close k h) answer refl (λ x action. refl) a)
working_done m seat (Finish by action outcome) answer choice c =
    alone m seat (Finish by action outcome) answer choice c (λ x g. no_need m g.0) (λ a. a)
    (finish_works m by action outcome answer choice.fresh c.allowed)
working_done m seat TakeUp answer choice c =
    alone m seat TakeUp answer choice c (λ x g. no_need m g.0) (λ a. a)
    (λ a. line_works m (from_lined m m.line) answer (first_lined m m.line) a)
working_done m seat ask answer choice c = other m seat ask answer choice refl

-- ---- Each legal entry

-- a refused ask does nothing
refused_working : (m : Machine) (e : Entry) (by : Refusal) → e.answer ≡ Refused by → IsWorking m (done m e) e.ask e.answer
refused_working m e by a =
    keeps (λ action. and_right (tells action e.ask) (not (is_refusal e.answer)) (ap (λ z. not (is_refusal z)) a))
    (ap (λ z. account (carried (with_collection m e.choice.collected) e.ask z e.choice.fresh)) a ∙ collected_kept m e.choice.collected)

pub legal_working : (m : Machine) (e : Entry) → IsLegal m e → IsWorking m (done m e) e.ask e.answer
legal_working m e (carried_out c) = working_done m e.seat e.ask e.answer e.choice c
legal_working m e (refused c) = refused_working m e c.by c.answers
legal_working m e (heap_full c) = refused_working m e HeapFull c.answers
legal_working m e (out_of_memory c) = refused_working m e NoMemory c.answers
