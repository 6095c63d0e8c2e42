-- Where a job stands in the list, and where a new one belongs.
use Rattle.std.proofs.Common.{◌≡◌, ◌≢◌, ℕ, suc, ◌+◌, ◌<◌, ◌≤◌, ◌==◌, Bool, true, false, cond, not, eqb, List, [], ◌∷◌, map, length, refl}
use Rattle.std.proofs.Common.{subst, sym, ap, ◌∙◌, arith, nat_lt, Some, None, is_some, unwrap_or, slice_get, slice_index_or, Result, Ok}
use Rattle.std.proofs.Common.{Err, IsOk, is_ok}
use Rattle.std.specs.List.{AllByRecursion, IsDistinct, position, position_or_len, insert, remove}
use Rattle.std.proofs.lemmas.Bool.{eqb-true, ne_eqb, eq-eqb, ltb-true, ltb-false, cond_both}
use Rattle.std.proofs.lemmas.List.Folds.{find_at}
use Rattle.std.proofs.lemmas.List.Sums.{prefix_len-le-length}
use Rattle.std.proofs.lemmas.Option.{slice_get_read, slice_get_past, slice_get-get_or}
use Rattle.std.proofs.lemmas.Map.Keys.{IsDistinct-head, IsDistinct-tail}
use Rattle.jlr_machine.specs.declared.machine.Job.{Job}
use Rattle.jlr_types.specs.declared.Work.TheVariants.{Note}
use Rattle.jlr_machine.specs.Lookups.{with_job, without_job}
use Rattle.jlr_machine.specs.Objects.{some_and}
use Rattle.jlr_cleaner.specs.Jobs.{job_in, is_job_of}

pub when_ok : {T E A : Type 0} (r : Result T E) (x y : A) → IsOk r → cond (is_ok r) x y ≡ x
when_ok (Ok t) x y well = refl
when_ok (Err e) x y well = absurd (cc well)

one_more : (n : ℕ) → suc n ≡ 1 + n
one_more n = omega arith

abbrev pub is_above : ℕ → Job → Bool
is_above action job = nat_lt action job.action

pub inserted : (jobs : List Job) (new : Job) → insert jobs (position_or_len (is_above new.action) jobs) new ≡ with_job jobs new
inserted [] new = refl
inserted (job ∷ jobs) new =
    elim (nat_lt new.action job.action) as (λ b. insert (job ∷ jobs) (cond (not b) (1 + position_or_len (is_above new.action) jobs) 0) new
    ≡ cond b (new ∷ job ∷ jobs) (job ∷ with_job jobs new)) [
      | true ↦ refl
      | false ↦ subst (λ (n : ℕ). insert (job ∷ jobs) n new ≡ job ∷ with_job jobs new)
          (one_more (position_or_len (is_above new.action) jobs)) (ap (λ l. job ∷ l) (inserted jobs new))
    ]

-- ---- The job with an action

abbrev pub has_action : ℕ → Job → Bool
has_action action job = job.action == action

without_absent : (jobs : List Job) (action : ℕ) → AllByRecursion (λ y. eqb action y ≡ false) (map (λ job. job.action) jobs)
    → without_job jobs action ≡ jobs
without_absent [] action none = refl
without_absent (job ∷ jobs) action none =
    let apart : eqb job.action action ≡ false = ne_eqb job.action action (λ e. cc (none.0, eq-eqb action job.action (sym e))) in
    rw apart (ap (λ l. job ∷ l) (without_absent jobs action none.1))

removed : (jobs : List Job) (action : ℕ) → IsDistinct eqb (map (λ job. job.action) jobs)
    → position_or_len (has_action action) jobs < length jobs
    → remove jobs (position_or_len (has_action action) jobs) ≡ without_job jobs action
removed [] action distinct within = absurd (omega (arith, within))
removed (job ∷ jobs) action distinct within =
    elim (job.action == action) as (λ b. job.action == action ≡ b
    → cond (not b) (1 + position_or_len (has_action action) jobs) 0 < length (job ∷ jobs)
    → remove (job ∷ jobs) (cond (not b) (1 + position_or_len (has_action action) jobs) 0)
    ≡ cond (not b) (job ∷ without_job jobs action) (without_job jobs action)) [
      | true ↦ λ same _. sym (without_absent jobs action
          (rw (eqb-true job.action action same) at (IsDistinct-head eqb job.action (map (λ j. j.action) jobs) distinct)))
      | false ↦ λ _ there. subst (λ (n : ℕ). remove (job ∷ jobs) n ≡ job ∷ without_job jobs action)
          (one_more (position_or_len (has_action action) jobs))
          (ap (λ l. job ∷ l) (removed jobs action (IsDistinct-tail eqb job.action (map (λ j. j.action) jobs) distinct)
          (omega (arith, there))))
    ] refl within

-- ---- What a search found

at_first : (p : Job → Bool) (jobs : List Job) (i : ℕ) → position p jobs ≡ Some i → (i ≡ position_or_len p jobs) × (i < length jobs)
at_first p jobs i =
    cond_both (nat_lt (position_or_len p jobs) (length jobs)) (Some (position_or_len p jobs)) None
    (λ o. o ≡ Some i → (i ≡ position_or_len p jobs) × (i < length jobs))
    (λ within e. (let same : i ≡ position_or_len p jobs = cc in
    (same, omega (arith, same, ltb-true (position_or_len p jobs) (length jobs) within))))
    (λ _ e. absurd (cc e))

-- past all jobs, where none was found
pub place_found : (p : Job → Bool) (jobs : List Job) → (unwrap_or (position p jobs) (length jobs) ≡ position_or_len p jobs)
    × (position_or_len p jobs ≤ length jobs)
place_found p jobs =
    let within : position_or_len p jobs ≤ length jobs = prefix_len-le-length (λ job. not (p job)) jobs in (
      cond_both (nat_lt (position_or_len p jobs) (length jobs)) (Some (position_or_len p jobs)) None
          (λ o. unwrap_or o (length jobs) ≡ position_or_len p jobs)
          (λ _. refl)
          (λ past. omega (arith, within, ltb-false (position_or_len p jobs) (length jobs) past)),
      within,
    )

-- a job to read where there is none
abbrev any_job : Job
any_job = record { action = 0; work = Note 0; by = 0 }

pub position_tells : (jobs : List Job) (action : ℕ) → is_some (position (has_action action) jobs) ≡ is_some (job_in jobs action)
position_tells jobs action =
    rw (find_at (has_action action) jobs)
    (cond_both (nat_lt (position_or_len (has_action action) jobs) (length jobs)) (Some (position_or_len (has_action action) jobs)) None
    (λ o. is_some o ≡ is_some (slice_get jobs (position_or_len (has_action action) jobs)))
    (λ within. rw (slice_get-get_or jobs (position_or_len (has_action action) jobs) any_job (ltb-true _ _ within)) refl)
    (λ past. rw (slice_get_past jobs (position_or_len (has_action action) jobs) (ltb-false _ _ past)) refl))

pub none_found : (jobs : List Job) (action by : ℕ) → position (has_action action) jobs ≡ None → is_job_of jobs by action ≡ false
none_found jobs action by none =
    elim (job_in jobs action) as (λ o. false ≡ is_some o → some_and (λ job. job.by == by) o ≡ false) [
      | None ↦ λ _. refl
      | Some job ↦ λ e. absurd (cc e)
    ] (rw none at (position_tells jobs action))

module _ (jobs : List Job) (action i : ℕ) (found : position (has_action action) jobs ≡ Some i) where
  pub job_found : (job : Job) → job ≡ slice_index_or jobs i job → job_in jobs action ≡ Some job
  job_found job here =
      let place = at_first (has_action action) jobs i found in
      find_at (has_action action) jobs ∙ rw (← place.0) (slice_get_read jobs (length jobs) i job refl place.1 here)

  pub job_removed : IsDistinct eqb (map (λ job. job.action) jobs) → remove jobs i ≡ without_job jobs action
  job_removed distinct =
      let place = at_first (has_action action) jobs i found in
      rw place.0 (removed jobs action distinct (omega (arith, place.0, place.1)))

  pub not_its : (job : Job) (by : ℕ) → job ≡ slice_index_or jobs i job → job.by ≢ by → is_job_of jobs by action ≡ false
  not_its job by here other = rw (job_found job here) (ne_eqb job.by by other)
