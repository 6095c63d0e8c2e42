-- An end that is carried out is one of those that were owed, and no more than 129 are.
use Rattle.std.proofs.Common.{◌≡◌, ◌≢◌, ℕ, zero, suc, ◌+◌, ◌*◌, ◌≤◌, Bool, true, false, not, cond, List, [], ◌∷◌, length, find, Option}
use Rattle.std.proofs.Common.{Some, None, option_map, slice_set, refl, sym, ◌∙◌, ap, subst, arith, nat_eq, ◌==◌}
use Rattle.std.proofs.lemmas.Bool.{both_ways, not-false, eqb-true, eqb-false, cond_both}
use Rattle.std.proofs.lemmas.List.Sums.{sum_by-cons}
use Rattle.jlr_types.specs.declared.Refusal.{Refusal}
use Rattle.jlr_types.specs.declared.Refusal.TheVariants.{NoMemory, HeapFull, NoSession, Busy, NotOut}
use Rattle.jlr_machine.specs.declared.object.Guard.{Guard as GuardOf}
use Rattle.jlr_machine.specs.declared.machine.Machine.{Machine}
use Rattle.jlr_machine.specs.declared.machine.Session.{Session}
use Rattle.jlr_machine.specs.declared.machine.Job.{Job as JobOf}
use Rattle.jlr_machine.specs.declared.machine.Call.{Call}
use Rattle.jlr_machine.specs.declared.machine.ResourceState.TheVariants.{Idle}
use Rattle.jlr_machine.specs.declared.machine.Call.TheVariants.{Free}
use Rattle.jlr_machine.specs.declared.ask.Ask.{Ask}
use Rattle.jlr_machine.specs.declared.ask.Ask.TheVariants.{Leave, Opened, CheckIn, Finish}
use Rattle.jlr_machine.specs.declared.ask.Outcome.{Outcome}
use Rattle.jlr_machine.specs.declared.ask.Outcome.TheVariants.{Ok as OutcomeOk, Failed}
use Rattle.jlr_machine.specs.declared.ask.CallOutcome.{CallOutcome}
use Rattle.jlr_machine.specs.declared.ask.Answer.{Answer}
use Rattle.jlr_machine.specs.declared.ask.Answer.TheVariants.{Refused}
use Rattle.jlr_machine.specs.declared.entry.Entry.{Entry}
use Rattle.jlr_machine.specs.declared.entry.Collected.{Collected}
use Rattle.jlr_machine.specs.Objects.{Table, at, set_at, change_at}
use Rattle.jlr_machine.specs.Lookups.{job_of, on, without_job, rid_of, with_call, with_handle, with_state, free_handle}
use Rattle.jlr_machine.specs.Refusals.{is_end, is_in_flight, refusal}
use Rattle.jlr_machine.specs.Calls.{after, checked_in, opened, finished, free_again, with_given, without_work_resource}
use Rattle.jlr_machine.specs.Run.{IsLegal, MayCollect, with_collection, carried, apply}
use Rattle.jlr_machine.specs.Run.IsLegal.{carried_out, refused, heap_full, out_of_memory}
use Rattle.jlr_machine.specs.WellFormed.{IsWellFormed, IsSessionAt, IsJob}
use Rattle.jlr_laws.proofs.Frames.{no_some, some_same}
use Rattle.jlr_laws.proofs.Keyed.{key_found}
use Rattle.jlr_laws.proofs.Changes.{change_here}
use Rattle.jlr_laws.proofs.Allowed.{allowed, joined_session, free_session, opening_session, out_session, some_and_gives}
use Rattle.jlr_laws.proofs.LegalKept.{no_need}
use Rattle.jlr_laws.proofs.keeps.Calls.{calling, fence_on, guard_on, opening_ends, out_ends}
use Rattle.jlr_histories.specs.Owing.{owed, owed_at, owed_by, owed_by_cleaner, most_owed}

-- ---- Tables of mutators

set_owes : (table : Table Session) (k : ℕ) (s : Session) (v : Option Session) → at table k ≡ Some s
    → owed_by (slice_set table k v) + owed_at (Some s) ≡ owed_by table + owed_at v
set_owes [] k s v e = no_some s e
set_owes (o ∷ table) zero s v e = rw e (omega arith)
set_owes (o ∷ table) (suc k) s v e = let h = set_owes table k s v e in omega (arith, h)

change_owes : (table : Table Session) (k : ℕ) (s : Session) (f : Session → Session) → at table k ≡ Some s
    → owed_by (change_at table k f) + owed_at (Some s) ≡ owed_by table + owed_at (Some (f s))
change_owes table k s f e = subst (λ o. owed_by (slice_set table k (option_map f o)) + owed_at (Some s)
    ≡ owed_by table + owed_at (Some (f s))) (sym e) (set_owes table k s (Some (f s)) e)

-- a call ends
ending_owes : (table : Table Session) (k : ℕ) (s : Session) → at table k ≡ Some s → is_in_flight s.call ≡ true
    → owed_by (change_at table k (calling None Free)) + 1 ≡ owed_by table
ending_owes table k s e busy =
    let h : owed_by (change_at table k (calling None Free)) + (1 + cond (is_in_flight s.call) 1 0) ≡ owed_by table + 1 =
    change_owes table k s (calling None Free) e in
    let two : ◌≡◌ {A = ℕ} (cond (is_in_flight s.call) 1 0) 1 = ap {A = Bool} {B = ℕ} (λ b. cond b 1 0) busy in
    omega (arith, h, two)

owed_at_most : (o : Option Session) → owed_at o ≤ 2
owed_at_most None = omega arith
owed_at_most (Some s) = elim (is_in_flight s.call) as (λ b. 1 + cond b 1 0 ≤ 2) [ true ↦ omega arith | false ↦ omega arith ]

table_owes : (table : Table Session) → owed_by table ≤ 2 * length table
table_owes [] = omega arith
table_owes (o ∷ table) = omega (arith, owed_at_most o, table_owes table)

pub owed_bounded : (m : Machine) → IsWellFormed m → owed m ≤ most_owed
owed_bounded m w = omega (arith, table_owes m.mutators, w.limits.sessions, w.actions.cleaners)

-- ---- Jobs

cons_owes : (job : JobOf) (jobs : List JobOf) → owed_by_cleaner (job ∷ jobs) ≡ cond (nat_eq job.by 255) 1 0 + owed_by_cleaner jobs
cons_owes job jobs = sum_by-cons {X = JobOf} (λ x. cond (nat_eq x.by 255) 1 0) job jobs

jobs_left : (jobs : List JobOf) (action : ℕ) → owed_by_cleaner (without_job jobs action) ≤ owed_by_cleaner jobs
jobs_left [] action = omega arith
jobs_left (j ∷ jobs) action =
    let less = jobs_left jobs action in
    let whole = cons_owes j jobs in
    elim (j.action == action) as (λ b. owed_by_cleaner
    (cond (not b) (j ∷ without_job jobs action) (without_job jobs action)) ≤ owed_by_cleaner (j ∷ jobs)) [
      | true ↦ omega (arith, less, whole)
      | false ↦ let left = cons_owes j (without_job jobs action) in omega (arith, less, whole, left)
    ]

-- the job of this action is the cleaner's, and goes
job_gone : (jobs : List JobOf) (action : ℕ) (job : JobOf) → find (λ j. j.action == action) jobs ≡ Some job → nat_eq job.by 255 ≡ true
    → owed_by_cleaner (without_job jobs action) + 1 ≤ owed_by_cleaner jobs
job_gone [] action job e cleaner = no_some job e
job_gone (j ∷ jobs) action job e cleaner =
    let whole = cons_owes j jobs in
    elim (j.action == action) as (λ b. cond b (Some j) (find (λ x. x.action == action) jobs) ≡ Some job
    → owed_by_cleaner (cond (not b) (j ∷ without_job jobs action) (without_job jobs action)) + 1 ≤ owed_by_cleaner (j ∷ jobs)) [
      | true ↦ λ f.
          let is : nat_eq j.by 255 ≡ true = ap {A = JobOf} {B = Bool} (λ x. nat_eq x.by 255) (some_same j job f) ∙ cleaner in
          let one : ◌≡◌ {A = ℕ} (cond (nat_eq j.by 255) 1 0) 1 = ap {A = Bool} {B = ℕ} (λ b. cond b 1 0) is in
          let less = jobs_left jobs action in
          omega (arith, less, whole, one)
      | false ↦ λ f.
          let less = job_gone jobs action job f cleaner in
          let left = cons_owes j (without_job jobs action) in
          omega (arith, less, whole, left)
    ] e

-- what a finished job leaves of jobs and mutators
work_left : (m : Machine) (o : Option ℕ) → ((without_work_resource m o).mutators ≡ m.mutators) × ((without_work_resource m o).jobs ≡ m.jobs)
work_left m None = (refl, refl)
work_left m (Some rid) = (refl, refl)

finished_left : (m : Machine) (job : JobOf) (outcome : Outcome) → ((finished m job outcome).mutators ≡ m.mutators)
    × ((finished m job outcome).jobs ≡ without_job m.jobs job.action)
finished_left m job OutcomeOk = work_left (record m { jobs = without_job m.jobs job.action }) (rid_of job.work)
finished_left m job (Failed fault) = work_left (record m { jobs = without_job m.jobs job.action }) (rid_of job.work)

-- ---- Each end that is carried out

abbrev Lowers : Machine → Machine → Type 0
Lowers m n = owed n + 1 ≤ owed m

-- mutators and jobs alone are looked at
lowered : (m n : Machine) → owed_by n.mutators + 1 ≡ owed_by m.mutators → n.jobs ≡ m.jobs → Lowers m n
lowered m n less same = let j = ap owed_by_cleaner same in omega (arith, less, j)

leave_lowers : (m : Machine) (k : ℕ) (a : Answer) (fresh : List ℕ) → IsWellFormed m → refusal m (Leave k) ≡ None
    → Lowers m (after m (Leave k) a fresh)
leave_lowers m k a fresh w r =
    let ok = allowed m (Leave k) r in
    let s = joined_session m k (ok NoSession refl) in
    let free : s.0.call ≡ Free = free_session m k s.0 s.1 (ok Busy refl) in
    let h : owed_by (slice_set m.mutators k None) + (1 + cond (is_in_flight s.0.call) 1 0) ≡ owed_by m.mutators + 0 =
    set_owes m.mutators k s.0 None s.1 in
    let none : ◌≡◌ {A = ℕ} (cond (is_in_flight s.0.call) 1 0) 0 = ap {A = Call} {B = ℕ} (λ c. cond (is_in_flight c) 1 0) free in
    lowered m (after m (Leave k) a fresh) (omega (arith, h, none)) refl

check_in_lowers : (m : Machine) (k : ℕ) (outcome : CallOutcome) (a : Answer) (fresh : List ℕ) → IsWellFormed m
    → refusal m (CheckIn k outcome) ≡ None → Lowers m (after m (CheckIn k outcome) a fresh)
check_in_lowers m k outcome a fresh w r =
    let ok = allowed m (CheckIn k outcome) r in
    let s = out_session m k (ok NotOut refl) in
    let x = out_ends m k s.0 s.2 w s.1 s.3 in
    let busy : is_in_flight s.0.call ≡ true = ap is_in_flight s.3 in
    subst (λ z. Lowers m (on z (checked_in m k) m)) (sym (guard_on m k s.0 x.0 x.1 s.1 x.3.fence x.3.guard))
    (lowered m (checked_in m k x.1) (ending_owes m.mutators k s.0 s.1 busy) refl)

-- a handle more does not change what is owed
handle_owes : (table : Table Session) (k slot : ℕ) (s : Session) → at table k ≡ Some s
    → owed_by (change_at table k (λ s. record s { handles = set_at s.handles (free_handle s) slot })) ≡ owed_by table
handle_owes table k slot s e =
    let h : owed_by (change_at table k (λ s. record s { handles = set_at s.handles (free_handle s) slot })) + owed_at (Some s)
    ≡ owed_by table + owed_at (Some s) = change_owes table k s (λ s. record s { handles = set_at s.handles (free_handle s) slot }) e in
    omega (arith, h)

opened_lowers : (m : Machine) (k t : ℕ) (g : GuardOf) (s : Session) (outcome : Outcome) → IsSessionAt m k s → is_in_flight s.call ≡ true
    → s.fence ≡ Some t → Lowers m (opened m k g outcome)
opened_lowers m k t g s (Failed fault) there busy fence =
    lowered m (opened m k g (Failed fault)) (ending_owes m.mutators k s there busy) refl
opened_lowers m k t g s OutcomeOk there busy fence =
    let n : Machine = with_call (with_state m g.rid Idle) k None Free in
    let free = change_here m.mutators k (calling None Free) s there in
    let same = handle_owes n.mutators k t (calling None Free s) free in
    subst (λ z. Lowers m (with_given n k z)) (sym (fence_on m k s t there fence))
    (lowered m (with_handle n k t) (let h = ending_owes m.mutators k s there busy in omega (arith, h, same)) refl)

open_lowers : (m : Machine) (k : ℕ) (outcome : Outcome) (a : Answer) (fresh : List ℕ) → IsWellFormed m → refusal m (Opened k outcome) ≡ None
    → Lowers m (after m (Opened k outcome) a fresh)
open_lowers m k outcome a fresh w r =
    let ok = allowed m (Opened k outcome) r in
    let s = opening_session m k (ok NotOut refl) in
    let x = opening_ends m k s.0 s.2 w s.1 s.3 in
    subst (λ z. Lowers m (on z (λ g. opened m k g outcome) m)) (sym (guard_on m k s.0 x.0 x.1 s.1 x.3.fence x.3.guard))
    (opened_lowers m k x.0 x.1 s.0 outcome s.1 (ap is_in_flight s.3) x.3.fence)

finish_by : (m : Machine) (by : ℕ) (job : JobOf) (outcome : Outcome) → IsWellFormed m → IsJob m job → job.by ≡ by
    → Lowers m (free_again (finished m job outcome) by)
finish_by m by job outcome w running e =
    let n = finished m job outcome in
    let left = finished_left m job outcome in
    let mutators : owed_by n.mutators ≡ owed_by m.mutators = ap owed_by left.0 in
    let jobs : owed_by_cleaner n.jobs ≡ owed_by_cleaner (without_job m.jobs job.action) = ap owed_by_cleaner left.1 in
    cond_both (by == 255) n (with_call n by None Free) (Lowers m)
    (λ p.
    let less = job_gone m.jobs job.action job running (ap {A = ℕ} {B = Bool} (λ x. nat_eq x 255) e ∙ p) in
    omega (arith, less, mutators, jobs))
    (λ p.
    let taker = w.calls.jobs job running (λ q. eqb-false by 255 p (sym e ∙ q)) in
    let there : at n.mutators by ≡ Some taker.0 = ap {A = Table Session} (λ t. at t by) left.0 ∙ ap (at m.mutators) (sym e) ∙ taker.1 in
    let less : owed_by (change_at n.mutators by (calling None Free)) + 1 ≡ owed_by n.mutators =
    ending_owes n.mutators by taker.0 there (ap is_in_flight taker.2) in
    let fewer = jobs_left m.jobs job.action in
    omega (arith, less, fewer, mutators, jobs))

finish_lowers : (m : Machine) (by action : ℕ) (outcome : Outcome) (a : Answer) (fresh : List ℕ) → IsWellFormed m
    → refusal m (Finish by action outcome) ≡ None → Lowers m (after m (Finish by action outcome) a fresh)
finish_lowers m by action outcome a fresh w r =
    let ok = allowed m (Finish by action outcome) r in
    let job = some_and_gives (λ job. job.by == by) (job_of m action) (not-false _ (ok NotOut refl)) in
    let is : job.0.action ≡ action = key_found {A = JobOf} (λ j. j.action) m.jobs action job.0 job.1 in
    let running : IsJob m job.0 = ap (job_of m) is ∙ job.1 in
    subst (λ o. Lowers m (on o (λ job. free_again (finished m job outcome) by) m)) (sym job.1)
    (finish_by m by job.0 outcome w running (eqb-true job.0.by by job.2))

-- ---- Legal ends

after_lowers : (m : Machine) (ask : Ask) (a : Answer) (fresh : List ℕ) → IsWellFormed m → is_end ask ≡ true → refusal m ask ≡ None
    → Lowers m (after m ask a fresh)
after_lowers m (Leave k) a fresh w is r = leave_lowers m k a fresh w r
after_lowers m (Opened k outcome) a fresh w is r = open_lowers m k outcome a fresh w r
after_lowers m (CheckIn k outcome) a fresh w is r = check_in_lowers m k outcome a fresh w r
after_lowers m (Finish by action outcome) a fresh w is r = finish_lowers m by action outcome a fresh w r
after_lowers m ask a fresh w is r = absurd (both_ways false refl is)

-- no collection comes with an end
pub end_collects : (m : Machine) (ask : Ask) (c : Collected) → is_end ask ≡ true → MayCollect m ask (Some c) → ⊥
end_collects m (Leave k) c is x = no_need m x.0
end_collects m (Opened k outcome) c is x = no_need m x.0
end_collects m (CheckIn k outcome) c is x = no_need m x.0
end_collects m (Finish by action outcome) c is x = no_need m x.0
end_collects m ask c is x = absurd (both_ways false refl is)

carried_lowers : (m : Machine) (ask : Ask) (a : Answer) (fresh : List ℕ) → ((by : Refusal) → a ≢ Refused by)
    → Lowers m (after m ask a fresh) → Lowers m (carried m ask a fresh)
carried_lowers m ask (Refused by) fresh kept l = absurd (kept by refl)
carried_lowers m ask a fresh kept l = l

pub end_lowers : (m : Machine) (e : Entry) → IsWellFormed m → IsLegal m e → is_end e.ask ≡ true → ((by : Refusal) → e.answer ≢ Refused by)
    → owed (apply m e) + 1 ≤ owed m
end_lowers m e w (carried_out c) is kept =
    elim (e.choice.collected) as (λ o. MayCollect m e.ask o → Lowers m (carried (with_collection m o) e.ask e.answer e.choice.fresh)) [
      | None ↦ λ g. carried_lowers m e.ask e.answer e.choice.fresh kept (after_lowers m e.ask e.answer e.choice.fresh w is c.allowed)
      | Some x ↦ λ g. absurd (end_collects m e.ask x is g)
    ] c.collection
end_lowers m e w (refused r) is kept = absurd (kept r.by r.answers)
end_lowers m e w (heap_full r) is kept = absurd (kept HeapFull r.answers)
end_lowers m e w (out_of_memory r) is kept = absurd (kept NoMemory r.answers)
