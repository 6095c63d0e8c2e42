-- No two jobs have one action or one taker, whatever is added or ended; so there are at most 256.
use Rattle.std.proofs.Common.{◌≡◌, ℕ, ◌<◌, ◌==◌, true, false, cond, not, ◌||◌, eqb, List, [], ◌∷◌, map, length, refl, sym, arith, find}
use Rattle.std.proofs.Common.{nat_lt, Some, is_some}
use Rattle.std.specs.List.{list_any, AllByRecursion, IsDistinct}
use Rattle.std.proofs.lemmas.Bool.{cond_both, eqb-true, eqb-false, ne_eqb}
use Rattle.std.proofs.lemmas.List.{length-map}
use Rattle.std.proofs.lemmas.Map.Keys.{IsDistinct-head, IsDistinct-tail, IsDistinct-cons}
use Rattle.std.proofs.lemmas.Map.Steps.{length-le_from_distinct_below}
use Rattle.jlr_machine.specs.declared.machine.Job.{Job}
use Rattle.jlr_machine.specs.Lookups.{with_job, without_job}
use Rattle.jlr_cleaner.specs.Jobs.{AreApart, is_running, runs_job}

swapped : (a b : ℕ) → eqb a b ≡ false → eqb b a ≡ false
swapped a b apart = ne_eqb b a (λ e. eqb-false a b apart (sym e))

-- ---- What holds of each key, and that they differ

module _ (key : Job → ℕ) (P : ℕ → Type 0) where
  keys-with : (jobs : List Job) (new : Job) → P (key new) → AllByRecursion P (map key jobs) → AllByRecursion P (map key (with_job jobs new))
  keys-with [] new here all = (here, tt)
  keys-with (job ∷ jobs) new here all =
      cond_both (nat_lt new.action job.action) (new ∷ job ∷ jobs) (job ∷ with_job jobs new) (λ l. AllByRecursion P (map key l))
      (λ _. (here, all))
      (λ _. (all.0, keys-with jobs new here all.1))

  keys-without : (jobs : List Job) (action : ℕ) → AllByRecursion P (map key jobs) → AllByRecursion P (map key (without_job jobs action))
  keys-without [] action all = tt
  keys-without (job ∷ jobs) action all =
      cond_both (not (job.action == action)) (job ∷ without_job jobs action) (without_job jobs action) (λ l. AllByRecursion P (map key l))
      (λ _. (all.0, keys-without jobs action all.1))
      (λ _. keys-without jobs action all.1)

-- no job has this key
abbrev pub IsFree : (Job → ℕ) → List Job → ℕ → Type 0
IsFree key jobs k = AllByRecursion (λ y. eqb k y ≡ false) (map key jobs)

module _ (key : Job → ℕ) where
  distinct-with : (jobs : List Job) (new : Job) → IsFree key jobs (key new) → IsDistinct eqb (map key jobs)
      → IsDistinct eqb (map key (with_job jobs new))
  distinct-with [] new free distinct = IsDistinct-cons eqb (key new) [] tt distinct
  distinct-with (job ∷ jobs) new free distinct =
      cond_both (nat_lt new.action job.action) (new ∷ job ∷ jobs) (job ∷ with_job jobs new) (λ l. IsDistinct eqb (map key l))
      (λ _. IsDistinct-cons eqb (key new) (map key (job ∷ jobs)) free distinct)
      (λ _. IsDistinct-cons eqb (key job) (map key (with_job jobs new))
      (keys-with key (λ y. eqb (key job) y ≡ false) jobs new (swapped (key new) (key job) free.0)
      (IsDistinct-head eqb (key job) (map key jobs) distinct))
      (distinct-with jobs new free.1 (IsDistinct-tail eqb (key job) (map key jobs) distinct)))

  distinct-without : (jobs : List Job) (action : ℕ) → IsDistinct eqb (map key jobs) → IsDistinct eqb (map key (without_job jobs action))
  distinct-without [] action distinct = distinct
  distinct-without (job ∷ jobs) action distinct =
      cond_both (not (job.action == action)) (job ∷ without_job jobs action) (without_job jobs action) (λ l. IsDistinct eqb (map key l))
      (λ _. IsDistinct-cons eqb (key job) (map key (without_job jobs action))
      (keys-without key (λ y. eqb (key job) y ≡ false) jobs action (IsDistinct-head eqb (key job) (map key jobs) distinct))
      (distinct-without jobs action (IsDistinct-tail eqb (key job) (map key jobs) distinct)))
      (λ _. distinct-without jobs action (IsDistinct-tail eqb (key job) (map key jobs) distinct))

-- ---- What the tests say

free_action : (jobs : List Job) (action : ℕ) → is_running jobs action ≡ false → IsFree (λ job. job.action) jobs action
free_action [] action none = tt
free_action (job ∷ jobs) action none =
    elim (job.action == action) as (λ b. job.action == action ≡ b
    → is_some (cond b (Some job) (find (λ j. j.action == action) jobs)) ≡ false → IsFree (λ j. j.action) (job ∷ jobs) action) [
      | true ↦ λ _ e. absurd (cc e)
      | false ↦ λ apart e. (swapped job.action action apart, free_action jobs action e)
    ] refl none

free_taker : (jobs : List Job) (by : ℕ) → runs_job jobs by ≡ false → IsFree (λ job. job.by) jobs by
free_taker [] by none = tt
free_taker (job ∷ jobs) by none =
    elim (job.by == by) as (λ b. job.by == by ≡ b → b || runs_job jobs by ≡ false → IsFree (λ j. j.by) (job ∷ jobs) by) [
      | true ↦ λ _ e. absurd (cc e)
      | false ↦ λ apart e. (swapped job.by by apart, free_taker jobs by e)
    ] refl none

-- ---- The jobs

pub apart_with : (jobs : List Job) (new : Job) → new.by < 256 → is_running jobs new.action ≡ false → runs_job jobs new.by ≡ false
    → AreApart jobs → AreApart (with_job jobs new)
apart_with jobs new fits action taker apart = record {
  actions = distinct-with (λ job. job.action) jobs new (free_action jobs new.action action) apart.actions;
  takers = distinct-with (λ job. job.by) jobs new (free_taker jobs new.by taker) apart.takers;
  in_range = keys-with (λ job. job.by) (λ by. by < 256) jobs new fits apart.in_range;
}

pub apart_without : (jobs : List Job) (action : ℕ) → AreApart jobs → AreApart (without_job jobs action)
apart_without jobs action apart = record {
  actions = distinct-without (λ job. job.action) jobs action apart.actions;
  takers = distinct-without (λ job. job.by) jobs action apart.takers;
  in_range = keys-without (λ job. job.by) (λ by. by < 256) jobs action apart.in_range;
}

-- no job is apart
pub apart_none : AreApart []
unfolding IsDistinct
apart_none = record { actions = tt; takers = tt; in_range = tt }

-- ---- How many there are

below : (xs : List ℕ) → AllByRecursion (λ x. x < 256) xs → (q : ℕ) → list_any (eqb q) xs ≡ true → q < 256
below [] all q e = absurd (cc e)
below (x ∷ xs) all q e =
    elim (eqb q x) as (λ b. eqb q x ≡ b → b || list_any (eqb q) xs ≡ true → q < 256) [
      | true ↦ λ same _. omega (arith, eqb-true q x same, all.0)
      | false ↦ λ _ rest. below xs all.1 q rest
    ] refl e

-- a taker that runs no job leaves room for one
pub room_for_taker : (jobs : List Job) (by : ℕ) → by < 256 → runs_job jobs by ≡ false → AreApart jobs → length jobs < 256
room_for_taker jobs by fits taker apart =
    let takers : List ℕ = map (λ (job : Job). job.by) jobs in
    let distinct : IsDistinct eqb (by ∷ takers) = IsDistinct-cons eqb by takers (free_taker jobs by taker) apart.takers in
    let few = length-le_from_distinct_below (by ∷ takers) 256 distinct (below (by ∷ takers) (fits, apart.in_range)) in
    omega (arith, length-map jobs (λ (job : Job). job.by), few)
