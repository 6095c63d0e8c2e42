-- How many jobs and resources a well-formed machine has.
use Rattle.std.proofs.Common.{◌≡◌, ◌<◌, ◌≤◌, ◌+◌, ℕ, length, map, refl, sym, ap, ◌∙◌, subst, ◌⊎◌, inl, inr, arith, nat_eq, Some}
use Rattle.std.specs.List.{AllByRecursion}
use Rattle.std.proofs.lemmas.Bool.{cases_eq, eq-eqb}
use Rattle.std.proofs.lemmas.List.{length-map}
use Rattle.jlr_types.specs.declared.Work.TheVariants.{Resource as WorkOn}
use Rattle.jlr_machine.specs.declared.object.Object.TheVariants.{Cleanable}
use Rattle.jlr_machine.specs.declared.object.Cleanable.{Cleanable as CleanableOf}
use Rattle.jlr_machine.specs.declared.machine.Machine.{Machine}
use Rattle.jlr_machine.specs.declared.machine.Session.{Session}
use Rattle.jlr_machine.specs.declared.machine.Job.{Job as JobOf}
use Rattle.jlr_machine.specs.declared.machine.Resource.{Resource as ResourceOf}
use Rattle.jlr_machine.specs.declared.machine.Call.{Call}
use Rattle.jlr_machine.specs.declared.machine.Call.TheVariants.{Job as CallJob}
use Rattle.jlr_machine.specs.declared.machine.ResourceState.{ResourceState}
use Rattle.jlr_machine.specs.declared.machine.ResourceState.TheVariants.{Opening, Idle, Out, Closing}
use Rattle.jlr_machine.specs.Objects.{◌∈◌}
use Rattle.jlr_machine.specs.Lookups.{job_of, resource_at}
use Rattle.jlr_machine.specs.WellFormed.{IsWellFormed, IsJob, IsUnspent, HasResource, HasWorker, IsCallOf}
use Rattle.jlr_laws.proofs.Keyed.{all_found, key_found}
use Rattle.jlr_laws.proofs.Frames.{place_within, some_same}
use Rattle.jlr_trace_fields.specs.Records.{JobFits}
use Rattle.jlr_trace.proofs.ListLengths.{rising_distinct, found_by, counted_two, at_most}

abbrev action_of : JobOf → ℕ
action_of job = job.action

abbrev rid_in : ResourceOf → ℕ
rid_in r = r.rid

module _ (m : Machine) (w : IsWellFormed m) (fit : AllByRecursion JobFits m.jobs) where
  -- a running job of this action and taker
  record Taken (action by : ℕ) : Type 0 where
    job : JobOf
    running : job_of m action ≡ Some job
    taker : job.by ≡ by

  its_action : (action : ℕ) (job : JobOf) → job_of m action ≡ Some job → job.action ≡ action
  its_action action job e = key_found action_of m.jobs action job e

  is_job : (action : ℕ) (job : JobOf) → job_of m action ≡ Some job → IsJob m job
  is_job action job e = subst (λ a. job_of m a ≡ Some job) (sym (its_action action job e)) e

  same_call : (by : ℕ) (c d : Call) → IsCallOf m by c → IsCallOf m by d → c ≡ d
  same_call by c d p q =
      let same : p.0 ≡ q.0 = some_same p.0 q.0 (sym p.1 ∙ q.1) in
      sym p.2 ∙ ap (λ (s : Session). s.call) same ∙ q.2

  same_job_call : (a b : ℕ) → CallJob a ≡ CallJob b → a ≡ b
  same_job_call a b e = cc

  -- a taker has one job
  one_taken : (j k by : ℕ) → Taken j by → Taken k by → j ≡ k
  one_taken j k by p q =
      elim (cases_eq j k) [
        | inl same ↦ same
        | inr differ ↦ elim (cases_eq by 255) [
          | inl cleaner ↦
              let here = eq-eqb p.job.by 255 (p.taker ∙ cleaner) in
              let there = eq-eqb q.job.by 255 (q.taker ∙ cleaner) in
              let two = counted_two action_of (λ (job : JobOf). nat_eq job.by 255) m.jobs j k p.job q.job differ p.running q.running here
              there in
              absurd (omega (arith, two, w.actions.cleaners))
          | inr other ↦
              let first = w.calls.jobs p.job (is_job j p.job p.running) (λ e. other (sym p.taker ∙ e)) in
              let second = w.calls.jobs q.job (is_job k q.job q.running) (λ e. other (sym q.taker ∙ e)) in
              let a : IsCallOf m by (CallJob p.job.action) = subst (λ n. IsCallOf m n (CallJob p.job.action)) p.taker first in
              let b : IsCallOf m by (CallJob q.job.action) = subst (λ n. IsCallOf m n (CallJob q.job.action)) q.taker second in
              let same : p.job.action ≡ q.job.action =
              same_job_call p.job.action q.job.action (same_call by (CallJob p.job.action) (CallJob q.job.action) a b) in
              sym (its_action j p.job p.running) ∙ same ∙ its_action k q.job q.running
        ]
      ]

  taken_by : (action : ℕ) → action ∈ map action_of m.jobs → (by : ℕ) × (by < 256) × Taken action by
  taken_by action h =
      let found = found_by action_of m.jobs action h in
      let fits = all_found action_of JobFits m.jobs action found.0 fit found.1 in
      (found.0.by, fits.by, record { job = found.0; running = found.1; taker = refl })

  pub few_jobs : length m.jobs ≤ 256
  few_jobs =
      let few = at_most Taken 256 one_taken (map action_of m.jobs) (rising_distinct (map action_of m.jobs) w.actions.jobs) taken_by in
      omega (arith, few, length-map m.jobs action_of)

  -- ---- Resources

  -- an unspent cleanable at a slot whose work it is
  record Cleans (rid s : ℕ) : Type 0 where
    cleanable : CleanableOf
    there : IsUnspent m s cleanable
    work : cleanable.work ≡ WorkOn rid

  -- a running job whose work it is
  record Finishes (rid number : ℕ) : Type 0 where
    job : JobOf
    running : IsJob m job
    work : job.work ≡ WorkOn rid
    number_is : number ≡ 65536 + job.by

  -- one of the two, and the numbers of the second are above the first's
  abbrev Works : ℕ → ℕ → Type 0
  Works rid n = Cleans rid n ⊎ Finishes rid n

  same_rid : (a b : ℕ) → WorkOn a ≡ WorkOn b → a ≡ b
  same_rid a b e = cc

  in_heap : (rid s : ℕ) → Cleans rid s → s < 65536
  in_heap rid s c =
      let lt = place_within m.objects s (Cleanable c.cleanable) c.there.there in
      omega (arith, lt, w.limits.cells)

  one_work : (j k n : ℕ) → Works j n → Works k n → j ≡ k
  one_work j k n (inl p) (inl q) =
      let same : p.cleanable ≡ q.cleanable = cc (p.there.there, q.there.there) in
      same_rid j k (sym p.work ∙ ap (λ (c : CleanableOf). c.work) same ∙ q.work)
  one_work j k n (inl p) (inr q) = let lt = in_heap j n p in absurd (omega (arith, lt, q.number_is))
  one_work j k n (inr p) (inl q) = let lt = in_heap k n q in absurd (omega (arith, lt, p.number_is))
  one_work j k n (inr p) (inr q) =
      let takers : p.job.by ≡ q.job.by = omega (arith, p.number_is, q.number_is) in
      let mine : Taken p.job.action p.job.by = record { job = p.job; running = p.running; taker = refl } in
      let theirs : Taken q.job.action p.job.by = record { job = q.job; running = q.running; taker = sym takers } in
      let actions : p.job.action ≡ q.job.action = one_taken p.job.action q.job.action p.job.by mine theirs in
      let same : p.job ≡ q.job = some_same p.job q.job (sym p.running ∙ ap (job_of m) actions ∙ q.running) in
      same_rid j k (sym p.work ∙ ap (λ (job : JobOf). job.work) same ∙ q.work)

  worker_of : (rid action : ℕ) (state : ResourceState) → HasWorker m rid action state → (n : ℕ) × (n < 65792) × Works rid n
  worker_of rid action Closing h =
      let fits = all_found action_of JobFits m.jobs h.0.action h.0 fit h.1 in
      (65536 + h.0.by, let lt = fits.by in omega (arith, lt), inr (record { job = h.0; running = h.1; work = h.3; number_is = refl }))
  worker_of rid action Opening h = let c : Cleans rid h.0 = record { cleanable = h.1; there = h.2; work = h.4 } in
      (h.0, let lt = in_heap rid h.0 c in omega (arith, lt), inl c)
  worker_of rid action Idle h = let c : Cleans rid h.0 = record { cleanable = h.1; there = h.2; work = h.4 } in
      (h.0, let lt = in_heap rid h.0 c in omega (arith, lt), inl c)
  worker_of rid action Out h = let c : Cleans rid h.0 = record { cleanable = h.1; there = h.2; work = h.4 } in
      (h.0, let lt = in_heap rid h.0 c in omega (arith, lt), inl c)

  worked : (rid : ℕ) → rid ∈ map rid_in m.resources → (n : ℕ) × (n < 65792) × Works rid n
  worked rid h =
      let found = found_by rid_in m.resources rid h in
      let here : resource_at m rid ≡ Some found.0 = found.1 in
      let there : HasResource m rid found.0.action found.0.state =
      subst (λ k. resource_at m rid ≡ Some (record { rid = k; action = found.0.action; state = found.0.state })) found.2 here in
      worker_of rid found.0.action found.0.state (w.resources.worked rid found.0.action found.0.state there)

  pub few_resources : length m.resources ≤ 65792
  few_resources =
      let few = at_most Works 65792 one_work (map rid_in m.resources) (rising_distinct (map rid_in m.resources) w.resources.rising)
      worked in
      omega (arith, few, length-map m.resources rid_in)
