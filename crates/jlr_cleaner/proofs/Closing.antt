-- The resource of each job that runs stays Closing, whatever happens to other resources.
use Rattle.std.proofs.Common.{◌≡◌, ◌≢◌, ℕ, ◌==◌, true, false, cond, not, List, [], ◌∷◌, refl, sym, ap, ◌∙◌, nat_lt, Some, None, option_map}
use Rattle.std.proofs.Common.{Result, Ok, Err, IfOk, OnErr}
use Rattle.std.specs.List.{AllByRecursion}
use Rattle.std.proofs.lemmas.Bool.{cond_both, eqb-true, eqb-false, ne_eqb}
use Rattle.jlr_types.specs.declared.Work.{Work}
use Rattle.jlr_types.specs.declared.Work.TheVariants.{Note, Resource as WorkOn}
use Rattle.jlr_machine.specs.declared.machine.Job.{Job}
use Rattle.jlr_machine.specs.declared.machine.Resource.{Resource}
use Rattle.jlr_machine.specs.declared.machine.ResourceState.{ResourceState}
use Rattle.jlr_machine.specs.declared.machine.ResourceState.TheVariants.{Closing, Idle, Opening}
use Rattle.jlr_machine.specs.Lookups.{rid_of, with_job, without_job, with_resource}
use Rattle.jlr_resource.specs.declared.place.Kept.{Kept}
use Rattle.jlr_resource.specs.declared.place.Kept.TheVariants as kept
use Rattle.jlr_resource.specs.Resources.{Resources, changed, removed, ended, resource_in_state, resource_in, resources, resource_state_at}
use Rattle.jlr_resource.specs.Resources.{state_of}
use Rattle.jlr_resource.proofs.Listed.{resources_changed, resources_ended}
use Rattle.jlr_cleaner.specs.Jobs.{job_in}
use Rattle.jlr_cleaner.specs.Cleanings.{AreClosing, HasWork, IsInState, table_closed, table_closing}

-- ---- A change of one resource leaves the others

other_stays : (rs : List Resource) (rid : ℕ) (s : ResourceState) (other : ℕ) → other ≢ rid
    → resource_in (resource_in_state rs rid s) other ≡ resource_in rs other
other_stays [] rid s other apart = refl
other_stays (r ∷ rs) rid s other apart =
    elim (r.rid == rid) as (λ b. r.rid == rid ≡ b → resource_in (cond b (record r { state = s }) r ∷ resource_in_state rs rid s) other
    ≡ cond
    (r.rid == other) (Some r) (resource_in rs other)) [
      | true ↦ λ same. rw (ne_eqb r.rid other (λ e. apart (sym e ∙ eqb-true r.rid rid same))) (other_stays rs rid s other apart)
      | false ↦ λ _. rw (other_stays rs rid s other apart) refl
    ] refl

this_goes : (rs : List Resource) (rid : ℕ) (s : ResourceState)
    → resource_in (resource_in_state rs rid s) rid ≡ option_map (λ (r : Resource). record r { state = s }) (resource_in rs rid)
this_goes [] rid s = refl
this_goes (r ∷ rs) rid s =
    elim (r.rid == rid) as (λ b. r.rid == rid ≡ b → resource_in (cond b (record r { state = s }) r ∷ resource_in_state rs rid s) rid
    ≡ option_map
    (λ (x : Resource). record x { state = s }) (cond b (Some r) (resource_in rs rid))) [
      | true ↦ λ same. rw same refl
      | false ↦ λ apart. rw apart (this_goes rs rid s)
    ] refl

other_left : (rs : List Resource) (rid other : ℕ) → other ≢ rid → resource_in (ended rs rid) other ≡ resource_in rs other
other_left [] rid other apart = refl
other_left (r ∷ rs) rid other apart =
    elim (r.rid == rid) as (λ b. r.rid == rid ≡ b → resource_in (cond (not b) (r ∷ ended rs rid) (ended rs rid)) other ≡ cond
    (r.rid == other) (Some r) (resource_in rs other)) [
      | true ↦ λ same. rw (ne_eqb r.rid other (λ e. apart (sym e ∙ eqb-true r.rid rid same))) (other_left rs rid other apart)
      | false ↦ λ _. rw (other_left rs rid other apart) refl
    ] refl

other_before : (rs : List Resource) (new : Resource) (other : ℕ) → other ≢ new.rid
    → resource_in (with_resource rs new) other ≡ resource_in rs other
other_before [] new other apart = rw (ne_eqb new.rid other (λ e. apart (sym e))) refl
other_before (r ∷ rs) new other apart =
    cond_both (nat_lt new.rid r.rid) (new ∷ r ∷ rs) (r ∷ with_resource rs new) (λ l. resource_in l other ≡ resource_in (r ∷ rs) other)
    (λ _. rw (ne_eqb new.rid other (λ e. apart (sym e))) refl)
    (λ _. rw (other_before rs new other apart) refl)

-- ---- Jobs whose work is another resource

abbrev pub IsApartFrom : ℕ → Job → Type 0
IsApartFrom rid job = rid_of job.work ≢ Some rid

module _ {R : Type 0} where
  -- all resources but one are as they were
  abbrev pub SameOthers : Resources R → Resources R → ℕ → Type 0
  SameOthers t t' rid = (other : ℕ) → other ≢ rid → resource_in (resources t') other ≡ resource_in (resources t) other

  work_kept : (t t' : Resources R) (rid : ℕ) → SameOthers t t' rid → (action : ℕ) (s : ResourceState) (work : Work) → rid_of work ≢ Some rid
      → HasWork t action s work → HasWork t' action s work
  work_kept t t' rid same action s (Note n) apart has = tt
  work_kept t t' rid same action s (WorkOn other) apart has = same other (λ e. apart (ap Some e)) ∙ has

  pub closing_kept : (t t' : Resources R) (rid : ℕ) → SameOthers t t' rid → (jobs : List Job) → AllByRecursion (IsApartFrom rid) jobs
      → AreClosing t jobs → AreClosing t' jobs
  closing_kept t t' rid same [] apart closing = tt
  closing_kept t t' rid same (job ∷ jobs) apart closing =
      (work_kept t t' rid same job.action Closing job.work apart.0 closing.0, closing_kept t t' rid same jobs apart.1 closing.1)

  pub in_state_of : (t : Resources R) (action : ℕ) (s : ResourceState) (work : Work) → HasWork t action s work → IsInState t s work
  in_state_of t action s (Note n) has = tt
  in_state_of t action s (WorkOn rid) has = ap (option_map (λ r. r.state)) has

  not_this : (t : Resources R) (action rid : ℕ) (work : Work) → resource_state_at t rid ≢ Some Closing → HasWork t action Closing work
      → rid_of work ≢ Some rid
  not_this t action rid (Note n) other has = λ e. absurd (cc e)
  not_this t action rid (WorkOn r) other has =
      λ e. (let same : r ≡ rid = cc in other (rw same at (in_state_of t action Closing (WorkOn r) has)))

  -- a resource that is not Closing is no running job's
  pub apart_by_state : (t : Resources R) (rid : ℕ) → resource_state_at t rid ≢ Some Closing → (jobs : List Job) → AreClosing t jobs
      → AllByRecursion (IsApartFrom rid) jobs
  apart_by_state t rid other [] closing = tt
  apart_by_state t rid other (job ∷ jobs) closing =
      (not_this t job.action rid job.work other closing.0, apart_by_state t rid other jobs closing.1)

  not_its : (t : Resources R) (action a rid : ℕ) (work : Work) → HasWork t action Closing (WorkOn rid) → a ≢ action
      → HasWork t a Closing work → rid_of work ≢ Some rid
  not_its t action a rid (Note n) has apart its = λ e. absurd (cc e)
  not_its t action a rid (WorkOn r) has apart its =
      λ e. (let same : r ≡ rid =
      cc in apart (let one : Some a ≡ Some action = ap (option_map (λ (x : Resource). x.action)) (sym (rw same at its) ∙ has) in cc))

  -- nor is the resource of one job another's
  pub apart_by_action : (t : Resources R) (action rid : ℕ) → HasWork t action Closing (WorkOn rid) → (jobs : List Job) → AreClosing t jobs
      → AllByRecursion (IsApartFrom rid) (without_job jobs action)
  apart_by_action t action rid has [] closing = tt
  apart_by_action t action rid has (job ∷ jobs) closing =
      elim (job.action == action) as (λ b. job.action == action ≡ b
      → AllByRecursion (IsApartFrom rid) (cond (not b) (job ∷ without_job jobs action) (without_job jobs action))) [
        | true ↦ λ _. apart_by_action t action rid has jobs closing.1
        | false ↦ λ other. (
          not_its t action job.action rid job.work has (eqb-false job.action action other) closing.0,
          apart_by_action t action rid has jobs closing.1,
        )
      ] refl

  -- ---- A job begins

  closing_with : (t : Resources R) (jobs : List Job) (new : Job) → HasWork t new.action Closing new.work → AreClosing t jobs
      → AreClosing t (with_job jobs new)
  closing_with t [] new here closing = (here, tt)
  closing_with t (job ∷ jobs) new here closing =
      cond_both (nat_lt new.action job.action) (new ∷ job ∷ jobs) (job ∷ with_job jobs new) (AreClosing t)
      (λ _. (here, closing))
      (λ _. (closing.0, closing_with t jobs new here closing.1))

  pub work_changed : (t : Resources R) (action rid : ℕ) (s : ResourceState) (k : Kept R) → HasWork t action s (WorkOn rid)
      → HasWork (changed t rid k) action (state_of k) (WorkOn rid)
  work_changed t action rid s k has = rw (resources_changed t.held rid k, this_goes (resources t) rid (state_of k), has) refl

  changed_others : (t : Resources R) (rid : ℕ) → SameOthers t (changed t rid kept.Closing) rid
  changed_others t rid other apart = rw (resources_changed t.held rid kept.Closing) (other_stays (resources t) rid Closing other apart)

  pub closing_begun : (t : Resources R) (jobs : List Job) (action by : ℕ) (work : Work) → HasWork t action Idle work → AreClosing t jobs
      → AreClosing (table_closing t work) (with_job jobs (record { action = action; work = work; by = by }))
  closing_begun t jobs action by (Note n) idle closing = closing_with t jobs (record { action = action; work = Note n; by = by }) tt closing
  closing_begun t jobs action by (WorkOn rid) idle closing =
      let apart = apart_by_state t rid (λ e. cc (ap (option_map (λ r. r.state)) idle, e)) jobs closing in
      let here = work_changed t action rid Idle kept.Closing idle in
      closing_with (changed t rid kept.Closing) jobs (record { action = action; work = WorkOn rid; by = by }) here
      (closing_kept t (changed t rid kept.Closing) rid (changed_others t rid) jobs apart closing)

  -- ---- A job is over

  closing_without : (t : Resources R) (jobs : List Job) (action : ℕ) → AreClosing t jobs → AreClosing t (without_job jobs action)
  closing_without t [] action closing = tt
  closing_without t (job ∷ jobs) action closing =
      cond_both (not (job.action == action)) (job ∷ without_job jobs action) (without_job jobs action) (AreClosing t)
      (λ _. (closing.0, closing_without t jobs action closing.1))
      (λ _. closing_without t jobs action closing.1)

  removed_others : (t : Resources R) (rid : ℕ) → SameOthers t (removed t rid) rid
  removed_others t rid other apart = rw (resources_ended t.held rid) (other_left (resources t) rid other apart)

  pub closing_over : (t : Resources R) (jobs : List Job) (action : ℕ) (work : Work) → HasWork t action Closing work → AreClosing t jobs
      → AreClosing (table_closed t work) (without_job jobs action)
  closing_over t jobs action (Note n) has closing = closing_without t jobs action closing
  closing_over t jobs action (WorkOn rid) has closing =
      closing_kept t (removed t rid) rid (removed_others t rid) (without_job jobs action) (apart_by_action t action rid has jobs closing)
      (closing_without t jobs action closing)

  -- the job that is found has its work
  pub work_of_job : (t : Resources R) (jobs : List Job) (action : ℕ) (job : Job) → job_in jobs action ≡ Some job → AreClosing t jobs
      → HasWork t job.action Closing job.work
  work_of_job t [] action job found closing = absurd (cc found)
  work_of_job t (first ∷ jobs) action job found closing =
      elim (first.action == action) as (λ b. cond b (Some first) (job_in jobs action) ≡ Some job → HasWork t job.action Closing job.work) [
        | true ↦ λ here. (let same : first ≡ job = cc in rw (← same) closing.0)
        | false ↦ λ later. work_of_job t jobs action job later closing.1
      ] found

  -- ---- The other calls of the table, at a resource that is not Closing

  module _ (t t' : Resources R) (rid : ℕ) (jobs : List Job) (other : resource_state_at t rid ≢ Some Closing) (closing : AreClosing t jobs)
    where
      pub closing_in_state : (s : ResourceState) → resources t' ≡ resource_in_state (resources t) rid s → AreClosing t' jobs
      closing_in_state s became = closing_kept t t' rid (λ r apart. rw became (other_stays (resources t) rid s r apart)) jobs
          (apart_by_state t rid other jobs closing) closing

      pub closing_ended : resources t' ≡ ended (resources t) rid → AreClosing t' jobs
      closing_ended became = closing_kept t t' rid (λ r apart. rw became (other_left (resources t) rid r apart)) jobs
          (apart_by_state t rid other jobs closing) closing

      pub closing_new : (action : ℕ) (s : ResourceState)
          → resources t' ≡ with_resource (resources t) (record { rid = rid; action = action; state = s }) → AreClosing t' jobs
      closing_new action s became = closing_kept t t' rid
          (λ r apart. rw became (other_before (resources t) (record { rid = rid; action = action; state = s }) r apart)) jobs
          (apart_by_state t rid other jobs closing) closing

  work_same : (t t' : Resources R) → t'.held ≡ t.held → (action : ℕ) (s : ResourceState) (work : Work) → HasWork t action s work
      → HasWork t' action s work
  work_same t t' same action s (Note n) has = tt
  work_same t t' same action s (WorkOn rid) has = rw same has

  closing_same : (t t' : Resources R) → t'.held ≡ t.held → (jobs : List Job) → AreClosing t jobs → AreClosing t' jobs
  closing_same t t' same [] closing = tt
  closing_same t t' same (job ∷ jobs) closing =
      (work_same t t' same job.action Closing job.work closing.0, closing_same t t' same jobs closing.1)

  pub closing_prepared : {E : Type 0} (t t' : Resources R) (jobs : List Job) (action : ℕ) (r : Result ℕ E)
      → IfOk r (λ rid. resource_in (resources t) rid ≡ None)
      → IfOk r (λ rid. resources t' ≡ with_resource (resources t) (record { rid = rid; action = action; state = Opening }))
      → OnErr r (t'.held ≡ t.held) → AreClosing t jobs → AreClosing t' jobs
  closing_prepared t t' jobs action (Ok rid) free became err closing =
      closing_new t t' rid jobs (λ e. cc (ap (option_map (λ (x : Resource). x.state)) free, e)) closing action Opening became
  closing_prepared t t' jobs action (Err e) free became err closing = closing_same t t' err jobs closing
