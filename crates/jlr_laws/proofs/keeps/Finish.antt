-- Finish leads from a well-formed machine to a well-formed one.
use Rattle.std.proofs.Common.{◌≡◌, ℕ, zero, suc, ◌+◌, ◌≤◌, List, [], ◌∷◌, ◌++◌, length, refl, sym, ◌∙◌, ap, subst, ◌⊎◌, inl, inr, arith}
use Rattle.std.proofs.Common.{Some, None, map, IsTrue, drop, ◌==◌}
use Rattle.std.specs.List.{AllByRecursion}
use Rattle.std.proofs.lemmas.Bool.{cases_eq}
use Rattle.jlr_types.specs.declared.Work.{Work}
use Rattle.jlr_types.specs.declared.Work.TheVariants.{Note, Resource as WorkOn}
use Rattle.jlr_types.specs.declared.Refusal.TheVariants.{NotOut}
use Rattle.jlr_machine.specs.declared.machine.Machine.{Machine}
use Rattle.jlr_machine.specs.declared.machine.Session.{Session}
use Rattle.jlr_machine.specs.declared.machine.Job.{Job as JobOf}
use Rattle.jlr_machine.specs.declared.machine.Resource.{Resource}
use Rattle.jlr_machine.specs.declared.machine.Call.TheVariants.{Free, Job as CallJob}
use Rattle.jlr_machine.specs.declared.machine.ResourceState.{ResourceState}
use Rattle.jlr_machine.specs.Objects.{Table, at, change_at, is_rising}
use Rattle.jlr_machine.specs.Lookups.{with_call, rid_of, job_of, without_job, last_256, on}
use Rattle.jlr_machine.specs.Refusals.{refusal}
use Rattle.jlr_machine.specs.Calls.{after, without_work_resource, without_work, noted, finished, free_again}
use Rattle.jlr_machine.specs.WellFormed.{IsWellFormed, IsSessionAt, HasResource, IsJob, IsAction, FitsItsCall}
use Rattle.std.proofs.lemmas.Bool.{not-false, eqb-true, eqb-false, cond_both}
use Rattle.std.proofs.Common.{◌-◌, length-drop}
use Rattle.jlr_machine.specs.declared.machine.Failure.{Failure}
use Rattle.jlr_machine.specs.declared.ask.Ask.TheVariants.{Finish}
use Rattle.jlr_machine.specs.declared.ask.Answer.{Answer}
use Rattle.jlr_machine.specs.declared.ask.Outcome.{Outcome}
use Rattle.jlr_machine.specs.declared.ask.Outcome.TheVariants.{Ok as OutcomeOk, Failed}
use Rattle.jlr_laws.proofs.Frames.{no_some, some_same, change_as_long}
use Rattle.jlr_laws.proofs.Keyed.{by_key, keyed_without, key_found, found_gone, found_left, rising_without, all_without, all_found}
use Rattle.jlr_laws.proofs.Changes.{change_here, change_beside, session_same}
use Rattle.jlr_laws.proofs.Allowed.{allowed, some_and_gives}
use Rattle.jlr_laws.proofs.keeps.Calls.{calling}
use Rattle.jlr_laws.proofs.keeps.TakeUps.{no_mutator_255}
use Rattle.jlr_laws.proofs.TakenUp.{has}
use Rattle.jlr_laws.proofs.Ended.{IsFreed, ended_is_well_formed}

-- ---- The last 256

pub last_limit : {A : Type 0} (xs : List A) → length (last_256 xs) ≤ 256
last_limit xs = omega (arith, length-drop (length xs - 256) xs)

all_append : {A : Type 0} (P : A → Type 0) (xs : List A) (x : A) → AllByRecursion P xs → P x → AllByRecursion P (xs ++ x ∷ [])
all_append P [] x all h = (h, tt)
all_append P (y ∷ xs) x all h = (all.0, all_append P xs x all.1 h)

all_drop : {A : Type 0} (P : A → Type 0) (n : ℕ) (xs : List A) → AllByRecursion P xs → AllByRecursion P (drop n xs)
all_drop P zero xs all = all
all_drop P (suc n) [] all = tt
all_drop P (suc n) (x ∷ xs) all = all_drop P n xs all.1

noted_limit : (notes : List ℕ) (work : Work) → length notes ≤ 256 → length (noted notes work) ≤ 256
noted_limit notes (Note n) h = last_limit (notes ++ n ∷ [])
noted_limit notes (WorkOn rid) h = h

-- ---- The machine after, in one record

abbrev pub ended : List Resource → Work → List Resource
ended resources (Note n) = resources
ended resources (WorkOn rid) = keyed_without {A = Resource} (λ r. r.rid) resources rid

work_ended_is : (m : Machine) (work : Work) → without_work_resource m (rid_of work) ≡ record m { resources = ended m.resources work }
work_ended_is m (Note n) = refl
work_ended_is m (WorkOn rid) = refl

without_work_is : (m : Machine) (job : JobOf) → without_work m job ≡
    record m { jobs = without_job m.jobs job.action; resources = ended m.resources job.work }
without_work_is m job = work_ended_is (record m { jobs = without_job m.jobs job.action }) job.work

module _ (m : Machine) (job : JobOf) where
  ended_cases : (work : Work) → job.work ≡ work → (rid action : ℕ) (state : ResourceState) → has (ended m.resources work) rid action state
      → HasResource m rid action state × (job.work ≡ WorkOn rid → ⊥)
  ended_cases (Note i) e rid action state h = (h, λ f. absurd (cc (e, f)))
  ended_cases (WorkOn r) e rid action state h = elim (cases_eq rid r) [
    | inl p ↦ no_some (record { rid = rid; action = action; state = state })
        (sym (found_gone {A = Resource} (λ r. r.rid) m.resources r)
        ∙ ap (by_key {A = Resource} (λ r. r.rid) (ended m.resources (WorkOn r))) (sym p) ∙ h)
    | inr d ↦ (
      sym (found_left {A = Resource} (λ r. r.rid) m.resources r rid d) ∙ h,
      λ f. let works : WorkOn rid ≡ WorkOn r = sym f ∙ e in
          let same : rid ≡ r = cc works in d same,
    )
  ]

  ended_over : (work : Work) → job.work ≡ work → (rid action : ℕ) (state : ResourceState) → (job.work ≡ WorkOn rid → ⊥)
      → HasResource m rid action state → has (ended m.resources work) rid action state
  ended_over (Note i) e rid action state d h = h
  ended_over (WorkOn r) e rid action state d h = found_left {A = Resource} (λ r. r.rid) m.resources r rid (λ p. d (e ∙ ap WorkOn (sym p)))
      ∙ h

  ended_rising : (work : Work) → IsTrue (is_rising (map (λ r. r.rid) m.resources))
      → IsTrue (is_rising (map (λ r. r.rid) (ended m.resources work)))
  ended_rising (Note i) h = h
  ended_rising (WorkOn r) h = rising_without {A = Resource} (λ r. r.rid) m.resources r h

  ended_actions : (work : Work) → AllByRecursion (λ r. IsAction m r.action) m.resources
      → AllByRecursion (λ r. IsAction m r.action) (ended m.resources work)
  ended_actions (Note i) h = h
  ended_actions (WorkOn r) h = all_without {A = Resource} (λ r. r.rid) (λ r. IsAction m r.action) m.resources r h

-- who is free again
pub record IsLeft (m : Machine) (mutators : Table Session) (job : JobOf) : Type 0 where
  pub as_many : length mutators ≡ length m.mutators
  pub sessions : (j : ℕ) (z : Session) → at mutators j ≡ Some z → IsFreed m j z ⊎ (IsSessionAt m j z × (z.call ≡ CallJob job.action → ⊥))
  pub over : (j : ℕ) (z : Session) → IsSessionAt m j z → (z.call ≡ CallJob job.action → ⊥) → at mutators j ≡ Some z

-- what is recorded
pub record IsRecorded (m : Machine) (faults : List Failure) (notes : List ℕ) (ok failed : ℕ) : Type 0 where
  pub of_faults : AllByRecursion (λ f. IsAction m f.action) faults
  pub faults_limit : length faults ≤ 256
  pub notes_limit : length notes ≤ 256
  pub sum : ok + failed ≡ m.ok + m.failed + 1

ends : (m : Machine) (mutators : Table Session) (job : JobOf) (faults : List Failure) (notes : List ℕ) (ok failed : ℕ) → IsWellFormed m
    → IsJob m job → IsLeft m mutators job → IsRecorded m faults notes ok failed
    → IsWellFormed (record m {
      mutators = mutators;
      jobs = without_job m.jobs job.action;
      resources = ended m.resources job.work;
      faults = faults;
      notes = notes;
      ok = ok;
      failed = failed;
    })
ends m mutators job faults notes ok failed w running left recorded =
    ended_is_well_formed m mutators (ended m.resources job.work) faults notes ok failed job w
    (record {
      as_many = left.as_many;
      running = running;
      sessions = left.sessions;
      over = left.over;
      resource_cases = ended_cases m job job.work refl;
      resource_over = ended_over m job job.work refl;
      rising = ended_rising m job job.work w.resources.rising;
      actions = ended_actions m job job.work w.actions.of_resources;
      of_faults = recorded.of_faults;
      faults_limit = recorded.faults_limit;
      notes_limit = recorded.notes_limit;
      sum = recorded.sum;
    })

-- ---- By outcome

finishes : (m : Machine) (mutators : Table Session) (job : JobOf) (outcome : Outcome) → IsWellFormed m → IsJob m job → IsLeft m mutators job
    → IsWellFormed (record (finished m job outcome) { mutators = mutators })
finishes m mutators job OutcomeOk w running left =
    subst (λ n. IsWellFormed (record n { mutators = mutators; ok = m.ok + 1; notes = noted m.notes job.work }))
    (sym (without_work_is m job))
    (ends m mutators job m.faults (noted m.notes job.work) (m.ok + 1) m.failed w running left
    (record {
      of_faults =
          w.actions.of_faults;
      faults_limit = w.faults;
      notes_limit = noted_limit m.notes job.work w.notes;
      sum = omega arith;
    }))
finishes m mutators job (Failed fault) w running left =
    let failure : Failure = record { action = job.action; fault = fault } in
    let all = m.faults ++ failure ∷ [] in
    subst (λ n. IsWellFormed (record n { mutators = mutators; failed = m.failed + 1; faults = last_256 all })) (sym (without_work_is m job))
    (ends m mutators job (last_256 all) m.notes m.ok (m.failed + 1) w running left
    (record {
      of_faults = all_drop (λ f. IsAction m f.action) (length all - 256) all
          (all_append (λ f. IsAction m f.action) m.faults failure w.actions.of_faults
          (all_found {A = JobOf} (λ j. j.action) (λ j. IsAction m j.action) m.jobs job.action job w.actions.of_jobs running));
      faults_limit = last_limit all;
      notes_limit = w.notes;
      sum = omega arith;
    }))

-- ---- By a mutator, or by the cleaner

same_mutators : (m : Machine) (job : JobOf) (outcome : Outcome) → (finished m job outcome).mutators ≡ m.mutators
same_mutators m job OutcomeOk = ap {A = Machine} {B = Table Session} (λ n. n.mutators) (without_work_is m job)
same_mutators m job (Failed fault) = ap {A = Machine} {B = Table Session} (λ n. n.mutators) (without_work_is m job)

cleaner_left : (m : Machine) (job : JobOf) → IsWellFormed m → IsJob m job → job.by ≡ 255 → IsLeft m m.mutators job
cleaner_left m job w running e =
    record {
      as_many = refl;
      sessions = λ j z p. inr (
        p,
        λ f.
            let fits = subst (λ call. FitsItsCall m j z call) f (w.calls.calls j z p) in
            let same : fits.1.0 ≡ job = some_same fits.1.0 job (sym fits.1.1 ∙ running) in
            no_mutator_255 m j z w p (sym fits.1.2 ∙ ap (λ v. v.by) same ∙ e),
      );
      over = λ j z p d. p;
    }

mutator_left : (m : Machine) (job : JobOf) → IsWellFormed m → IsJob m job → (job.by ≡ 255 → ⊥)
    → IsLeft m (change_at m.mutators job.by (calling None Free)) job
mutator_left m job w running d =
    let taker = w.calls.jobs job running d in
    let f : Session → Session = calling None Free in
    let here = change_here m.mutators job.by f taker.0 taker.1 in
    record {
      as_many = change_as_long m.mutators job.by f;
      sessions = λ j z p. elim (cases_eq j job.by) [
        | inl q ↦
            let same : z ≡ f taker.0 = some_same z (f taker.0) (sym p ∙ ap (at (change_at m.mutators job.by f)) q ∙ here) in
            inl (record {
              before = taker.0;
              there = ap (at m.mutators) q ∙ taker.1;
              handles =
                  ap (λ v. v.handles) same;
              fence = ap (λ v. v.fence) same;
              call = ap (λ v. v.call) same;
            })
        | inr q ↦
            let there = sym (change_beside m.mutators job.by j f q) ∙ p in
            inr (there, λ e. q (w.calls.one_call j job.by (CallJob job.action) (z, there, e) taker (λ v. absurd (cc v))))
      ];
      over = λ j z p e. change_beside m.mutators job.by j f
          (λ q. e (ap (λ v. v.call) (session_same m job.by z taker.0 (ap (at m.mutators) (sym q) ∙ p) taker.1) ∙ taker.2)) ∙ p;
    }

pub finishes_by : (m : Machine) (by : ℕ) (job : JobOf) (outcome : Outcome) → IsWellFormed m → IsJob m job → job.by ≡ by
    → IsWellFormed (free_again (finished m job outcome) by)
finishes_by m by job outcome w running e =
    let n = finished m job outcome in
    cond_both (by == 255) n (with_call n by None Free) (λ z. IsWellFormed z)
    (λ p. subst (λ t. IsWellFormed (record n { mutators = t })) (sym (same_mutators m job outcome))
    (finishes m m.mutators job outcome w running (cleaner_left m job w running (e ∙ eqb-true by 255 p))))
    (λ p.
    let mutators_are : change_at n.mutators by (calling None Free) ≡ change_at m.mutators job.by (calling None Free) =
    ap (λ t. change_at t by (calling None Free)) (same_mutators m job outcome)
    ∙ ap (λ i. change_at m.mutators i (calling None Free)) (sym e) in
    subst (λ t. IsWellFormed (record n { mutators = t })) (sym mutators_are)
    (finishes m (change_at m.mutators job.by (calling None Free)) job outcome w running
    (mutator_left m job w running (λ q. eqb-false by 255 p (sym e ∙ q)))))

pub keeps_finish : (m : Machine) (by action : ℕ) (outcome : Outcome) (a : Answer) (fresh : List ℕ) → IsWellFormed m
    → refusal m (Finish by action outcome) ≡ None → IsWellFormed (after m (Finish by action outcome) a fresh)
keeps_finish m by action outcome a fresh w r =
    let ok = allowed m (Finish by action outcome) r in
    let job = some_and_gives (λ job. job.by == by) (job_of m action) (not-false _ (ok NotOut refl)) in
    let is : job.0.action ≡ action = key_found {A = JobOf} (λ j. j.action) m.jobs action job.0 job.1 in
    let running : IsJob m job.0 = ap (job_of m) is ∙ job.1 in
    subst (λ o. IsWellFormed (on o (λ job. free_again (finished m job outcome) by) m)) (sym job.1)
    (finishes_by m by job.0 outcome w running (eqb-true job.0.by by job.2))
