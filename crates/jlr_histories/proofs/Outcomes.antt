-- A job runs until its outcome is recorded, and each take-up has one outcome or runs.
use Rattle.std.proofs.Common.{◌≡◌, ◌≢◌, ℕ, ◌+◌, ◌≤◌, Bool, true, false, not, cond, [], ◌∷◌, refl, sym, ◌∙◌, ap, subst, inl, inr, arith}
use Rattle.std.proofs.Common.{Option, Some, None, is_some, find, ◌==◌}
use Rattle.std.proofs.lemmas.Bool.{cases_Bool, cond_both, cond-false, eqb-false, both_ways, and_left, and_from, cases_eq, eq-eqb, ne_eqb}
use Rattle.std.proofs.lemmas.List.Sums.{sum_by-cons}
use Rattle.jlr_types.specs.declared.Work.{Work}
use Rattle.jlr_machine.specs.declared.machine.Machine.{Machine}
use Rattle.jlr_machine.specs.declared.machine.Job.{Job as JobOf}
use Rattle.jlr_machine.specs.declared.ask.Outcome.{Outcome}
use Rattle.jlr_machine.specs.declared.ask.Outcome.TheVariants.{Ok as OutcomeOk, Failed}
use Rattle.jlr_machine.specs.declared.ask.Ask.TheVariants.{Finish}
use Rattle.jlr_machine.specs.declared.ask.Answer.{Answer}
use Rattle.jlr_machine.specs.declared.ask.Answer.TheVariants.{Job}
use Rattle.jlr_machine.specs.declared.entry.Entry.{Entry}
use Rattle.jlr_types.specs.declared.Refusal.TheVariants.{NoSession, NotOut}
use Rattle.jlr_machine.specs.Chosen.{Chosen}
use Rattle.jlr_machine.specs.Objects.{some_and}
use Rattle.jlr_machine.specs.Refusals.{applies, refusal, is_joined}
use Rattle.jlr_machine.specs.Lookups.{job_of}
use Rattle.jlr_machine.specs.Run.{IsLegal, apply, empty_from}
use Rattle.jlr_machine.specs.Run.IsLegal.{carried_out, refused, heap_full, out_of_memory}
use Rattle.jlr_machine.specs.WellFormed.{IsWellFormed}
use Rattle.jlr_laws.proofs.Empty.{empty_from_is_well_formed}
use Rattle.jlr_laws.proofs.Frames.{no_some}
use Rattle.jlr_laws.proofs.Keyed.{by_key, keyed_without, found_new, found_beside, found_gone, found_left, key_found}
use Rattle.jlr_laws.proofs.Law.{legal_kept}
use Rattle.jlr_laws.proofs.LegalKept.{entry, no_need}
use Rattle.jlr_histories.specs.Lives.{is_job, is_job_for, take_ups, tells, records, outcomes, running, IsRecorded}
use Rattle.jlr_machine.specs.Refusals.{is_refusal}
use Rattle.jlr_histories.specs.Laws.{TakeUpBeginsItsJob, JobRunsUntilItsOutcome, JobRunsOnUntilItsOutcome, FinishRecordsTheOutcome}
use Rattle.jlr_histories.specs.Laws.{TakersFinishIsRecorded, OnlyOutcomesAreRecorded, OutcomesAreRecorded, TakeUpHasOneOutcomeOrRunsInRuns}
use Rattle.jlr_histories.proofs.Takes.{legal_taking}
use Rattle.jlr_histories.proofs.Takes.IsTaking.{none, one}
use Rattle.jlr_histories.proofs.TakenOnce.{a_job, taken_up_at_most_once}
use Rattle.jlr_histories.proofs.Accounts.{Account, account, action_key, begun, ended}
use Rattle.jlr_histories.proofs.Works.{taker, job_for, outcome_said, legal_working}
use Rattle.jlr_histories.proofs.Works.IsWorking.{keeps, takes, ends}

-- ---- What is read off an account

-- the job of an action among these
abbrev job_in : ℕ → Account → Option JobOf
job_in action x = by_key action_key x.jobs action

ended_jobs : (m n : Machine) (job : JobOf) (outcome : Outcome) → account n ≡ ended m job outcome
    → n.jobs ≡ keyed_without action_key m.jobs job.action
ended_jobs m n job OutcomeOk e = ap (λ (x : Account). x.jobs) e
ended_jobs m n job (Failed fault) e = ap (λ (x : Account). x.jobs) e

ended_taken : (m n : Machine) (job : JobOf) (outcome : Outcome) → account n ≡ ended m job outcome → n.taken ≡ m.taken
ended_taken m n job OutcomeOk e = ap (λ (x : Account). x.taken) e
ended_taken m n job (Failed fault) e = ap (λ (x : Account). x.taken) e

ended_recorded : (m n : Machine) (job : JobOf) (outcome : Outcome) → account n ≡ ended m job outcome
    → IsRecorded m n job.action job.work outcome
ended_recorded m n job OutcomeOk e =
    (ap (λ (x : Account). x.ok) e, ap (λ (x : Account). x.failed) e, ap (λ (x : Account). x.notes) e, ap (λ (x : Account). x.faults) e)
ended_recorded m n job (Failed fault) e =
    (ap (λ (x : Account). x.ok) e, ap (λ (x : Account). x.failed) e, ap (λ (x : Account). x.notes) e, ap (λ (x : Account). x.faults) e)

-- ---- One entry

module _ (m : Machine) (e : Entry) (l : IsLegal m e) where
  abbrev left : Machine
  left = apply m e

  -- where no more are taken up, no job is handed out
  no_job : left.taken ≡ m.taken → is_job e.answer ≡ false
  no_job same = elim (legal_taking m e l) [
    | none t ↦ t.no_job
    | one s c u a more there ↦ absurd (omega (arith, same, more))
  ]

  -- of the action that is taken up no job ran
  none_ran : IsWellFormed m → (action : ℕ) (work : Work) → e.answer ≡ Job action work → job_of m action ≡ None
  none_ran w action work a = elim (legal_taking m e l) [
    | none t ↦ absurd (both_ways (is_job e.answer) t.no_job (ap is_job a))
    | one s c u b more there ↦
        let both : Job c.action c.work ≡ Job action work = sym b ∙ a in
        let number : c.action ≡ action = cc both in
        ap (job_of m) (sym number) ∙ w.actions.apart s c u
  ]

  recording : (job : JobOf) (outcome : Outcome) → e.ask ≡ Finish job.by job.action outcome → is_refusal e.answer ≡ false
      → records job.action e ≡ true
  recording job outcome asks said = and_from (tells job.action e.ask) (not (is_refusal e.answer))
      (ap (tells job.action) asks ∙ eq-eqb job.action job.action refl) (ap not said)

  -- the outcome of another is not
  not_recording : (action : ℕ) (job : JobOf) (outcome : Outcome) → e.ask ≡ Finish job.by job.action outcome → job.action ≢ action
      → records action e ≡ false
  not_recording action job outcome asks d =
      and_left (tells action e.ask) (not (is_refusal e.answer)) (ap (tells action) asks ∙ ne_eqb job.action action d)

  -- ---- The job of an action

  begun_here : IsWellFormed m → (action : ℕ) (work : Work) (by : ℕ) → e.answer ≡ Job action work
      → account left ≡ begun m (job_for action work by) → job_of left action ≡ Some (job_for action work by)
  begun_here w action work by a same = ap (job_in action) same
      ∙ found_new action_key m.jobs (job_for action work by) (none_ran w action work a)

  begun_beside : (action other : ℕ) (work : Work) (by : ℕ) → account left ≡ begun m (job_for other work by) → other ≢ action
      → job_of left action ≡ job_of m action
  begun_beside action other work by same d = ap (job_in action) same ∙ found_beside action_key m.jobs (job_for other work by) action d

  ended_here : (job : JobOf) (outcome : Outcome) → account left ≡ ended m job outcome → job_of left job.action ≡ None
  ended_here job outcome same = ap (λ jobs. by_key action_key jobs job.action) (ended_jobs m left job outcome same)
      ∙ found_gone action_key m.jobs job.action

  ended_beside : (action : ℕ) (job : JobOf) (outcome : Outcome) → account left ≡ ended m job outcome → job.action ≢ action
      → job_of left action ≡ job_of m action
  ended_beside action job outcome same d = ap (λ jobs. by_key action_key jobs action) (ended_jobs m left job outcome same)
      ∙ found_left action_key m.jobs job.action action (λ p. d (sym p))

pub take_up_begins_its_job : TakeUpBeginsItsJob
take_up_begins_its_job m e action work w l a = elim (legal_working m e l) [
  | keeps silent same ↦ absurd (both_ways (is_job e.answer) (no_job m e l (ap (λ (x : Account). x.taken) same)) (ap is_job a))
  | takes silent number what b same ↦
      let both : Job number what ≡ Job action work = sym b ∙ a in
      let number_is : number ≡ action = cc both in
      let work_is : what ≡ work = cc both in
      let all : account (apply m e) ≡ begun m (job_for action work (taker e.ask)) = same
      ∙ ap (λ i. begun m (job_for i what (taker e.ask))) number_is ∙ ap (λ i. begun m (job_for action i (taker e.ask))) work_is in
      (none_ran m e l w action work a, begun_here m e l w action work (taker e.ask) a all)
  | ends job outcome asks said is same ↦
      absurd (both_ways (is_job e.answer) (no_job m e l (ended_taken m (apply m e) job outcome same)) (ap is_job a))
]

pub job_runs_until_its_outcome : JobRunsUntilItsOutcome
job_runs_until_its_outcome m e action job w l there quiet = elim (legal_working m e l) [
  | keeps silent same ↦ ap (job_in action) same ∙ there
  | takes silent number what b same ↦
      begun_beside m e l action number what (taker e.ask) same
      (λ p. no_some job (sym (none_ran m e l w number what b) ∙ ap (job_of m) p ∙ there)) ∙ there
  | ends other outcome asks said is same ↦
      ended_beside m e l action other outcome same (λ p. both_ways (records action e) quiet
      (ap (λ z. records z e) (sym p) ∙ recording m e l other outcome asks said)) ∙ there
]

pub finish_records_the_outcome : FinishRecordsTheOutcome
finish_records_the_outcome m e by action outcome w l asks r = elim (legal_working m e l) [
  | keeps silent same ↦ absurd (both_ways (records action e) (silent action) r)
  | takes silent number what b same ↦ absurd (both_ways (records action e) (silent action) r)
  | ends job told found said is same ↦
      let both : Finish job.by job.action told ≡ Finish by action outcome = sym found ∙ asks in
      let taker_is : job.by ≡ by = cc both in
      let number_is : job.action ≡ action = cc both in
      let told_is : told ≡ outcome = cc both in
      let recorded = subst (λ z. IsRecorded m (apply m e) job.action job.work z) told_is (ended_recorded m (apply m e) job told same) in (
        job,
        ap (job_of m) (sym number_is) ∙ is,
        taker_is,
        ap (job_of (apply m e)) (sym number_is) ∙ ended_here m e l job told same,
        subst (λ z. IsRecorded m (apply m e) z job.work outcome) number_is recorded,
      )
]

pub only_outcomes_are_recorded : OnlyOutcomesAreRecorded
only_outcomes_are_recorded m e w l quiet = elim (legal_working m e l) [
  | keeps silent same ↦ (
    ap (λ (x : Account). x.ok) same,
    ap (λ (x : Account). x.failed) same,
    ap (λ (x : Account). x.notes) same,
    ap (λ (x : Account). x.faults) same,
  )
  | takes silent number what b same ↦ (
    ap (λ (x : Account). x.ok) same,
    ap (λ (x : Account). x.failed) same,
    ap (λ (x : Account). x.notes) same,
    ap (λ (x : Account). x.faults) same,
  )
  | ends job told asks said is same ↦ absurd (both_ways (records job.action e) (quiet job.action) (recording m e l job told asks said))
]

-- ---- A finish by the taker of a job

module _ (m : Machine) (w : IsWellFormed m) (action : ℕ) (job : JobOf) (there : job_of m action ≡ Some job) where
  -- a taker but the cleaner has joined
  joined : (by : ℕ) → job.by ≡ by → some_and (λ k. not (is_joined m k)) (cond (by == 255) None (Some by)) ≡ false
  joined by e =
      cond_both (by == 255) None (Some by) (λ o. some_and (λ k. not (is_joined m k)) o ≡ false)
      (λ _. refl)
      (λ q.
      let number : job.action ≡ action = key_found action_key m.jobs action job there in
      let call = w.calls.jobs job (ap (job_of m) number ∙ there) (λ f. eqb-false by 255 q (sym e ∙ f)) in
      ap (λ k. not (is_joined m k)) (sym e) ∙ ap (λ o. not (is_some o)) call.1)

  allowed : (outcome : Outcome) → refusal m (Finish job.by action outcome) ≡ None
  allowed outcome =
      let asked : applies m (Finish job.by action outcome) NotOut ≡ false = ap (λ o. not (some_and (λ (j : JobOf). j.by == job.by) o)) there
      ∙ ap not (eq-eqb job.by job.by refl) in
      cond-false (applies m (Finish job.by action outcome) NoSession) (Some NoSession)
      (find (applies m (Finish job.by action outcome)) (NotOut ∷ [])) (joined job.by refl)
      ∙ cond-false (applies m (Finish job.by action outcome) NotOut) (Some NotOut) None asked

  said : (seat : ℕ) (outcome : Outcome) (answer : Answer) (choice : Chosen)
      → IsLegal m (entry seat (Finish job.by action outcome) answer choice) → is_refusal answer ≡ false
  said seat outcome answer choice (carried_out c) = outcome_said outcome answer c.answers
  said seat outcome answer choice (refused c) = no_some c.by (sym (allowed outcome) ∙ c.first)
  said seat outcome answer choice (heap_full c) = absurd (no_need m c.no_room)
  said seat outcome answer choice (out_of_memory c) = absurd (both_ways false refl c.no_end)

pub takers_finish_is_recorded : TakersFinishIsRecorded
takers_finish_is_recorded m e action job outcome w l there asks =
    let quiet : is_refusal e.answer ≡ false =
    said m w action job there e.seat outcome e.answer e.choice (subst (λ ask. IsLegal m (entry e.seat ask e.answer e.choice)) asks l) in
    and_from (tells action e.ask) (not (is_refusal e.answer)) (ap (tells action) asks ∙ eq-eqb action action refl) (ap not quiet)

-- ---- Counting

runs_if : (m : Machine) (action : ℕ) (o : Option JobOf) → job_of m action ≡ o → running m action ≡ cond (is_some o) 1 0
runs_if m action o e = ap {A = Option JobOf} {B = ℕ} (λ o. cond (is_some o) 1 0) e

one_or_none : (b c : Bool) → b ≡ c → ◌≡◌ {A = ℕ} (cond b 1 0) (cond c 1 0)
one_or_none b c e = ap {A = Bool} {B = ℕ} (λ b. cond b 1 0) e

-- in one entry
abbrev IsCounted : Machine → Entry → ℕ → Type 0
IsCounted m e action = running m action + cond (is_job_for action e.answer) 1 0 ≡ cond (records action e) 1 0 + running (apply m e) action

-- where the action is neither taken up nor over
unmoved : (m : Machine) (e : Entry) (action : ℕ) → is_job_for action e.answer ≡ false → records action e ≡ false
    → job_of (apply m e) action ≡ job_of m action → IsCounted m e action
unmoved m e action a r same =
    let still : running (apply m e) action ≡ running m action = runs_if (apply m e) action (job_of m action) same in
    omega (arith, one_or_none (is_job_for action e.answer) false a, one_or_none (records action e) false r, still)

-- where it is taken up
begins : (m : Machine) (e : Entry) (action : ℕ) (job : JobOf) → is_job_for action e.answer ≡ true → records action e ≡ false
    → job_of m action ≡ None → job_of (apply m e) action ≡ Some job → IsCounted m e action
begins m e action job a r before now =
    let old : running m action ≡ 0 = runs_if m action None before in
    let new : running (apply m e) action ≡ 1 = runs_if (apply m e) action (Some job) now in
    omega (arith, one_or_none (is_job_for action e.answer) true a, one_or_none (records action e) false r, old, new)

-- and where it is over
is_over : (m : Machine) (e : Entry) (action : ℕ) (job : JobOf) → is_job_for action e.answer ≡ false → records action e ≡ true
    → job_of m action ≡ Some job → job_of (apply m e) action ≡ None → IsCounted m e action
is_over m e action job a r before now =
    let old : running m action ≡ 1 = runs_if m action (Some job) before in
    let new : running (apply m e) action ≡ 0 = runs_if (apply m e) action None now in
    omega (arith, one_or_none (is_job_for action e.answer) false a, one_or_none (records action e) true r, old, new)

counted : (m : Machine) (e : Entry) (action : ℕ) → IsWellFormed m → IsLegal m e → IsCounted m e action
counted m e action w l = elim (legal_working m e l) [
  | keeps silent same ↦ unmoved m e action (a_job action e.answer (no_job m e l (ap (λ (x : Account). x.taken) same))) (silent action)
      (ap (job_in action) same)
  | takes silent number work a same ↦ elim (cases_eq number action) [
    | inl p ↦
        let handed : is_job_for action e.answer ≡ true = ap (is_job_for action) a ∙ eq-eqb number action p in
        let now : job_of (apply m e) action ≡ Some (job_for number work (taker e.ask)) = ap (job_of (apply m e)) (sym p)
        ∙ begun_here m e l w number work (taker e.ask) a same in
        begins m e action (job_for number work (taker e.ask)) handed (silent action)
        (ap (job_of m) (sym p) ∙ none_ran m e l w number work a) now
    | inr d ↦ unmoved m e action (ap (is_job_for action) a ∙ ne_eqb number action d) (silent action)
        (begun_beside m e l action number work (taker e.ask) same d)
  ]
  | ends job outcome asks said is same ↦
      let quiet : is_job_for action e.answer ≡ false = a_job action e.answer (no_job m e l (ended_taken m (apply m e) job outcome same)) in
      elim (cases_eq job.action action) [
        | inl p ↦
            let told : records action e ≡ true = ap (λ z. records z e) (sym p) ∙ recording m e l job outcome asks said in
            is_over m e action job quiet told (ap (job_of m) (sym p) ∙ is)
            (ap (job_of (apply m e)) (sym p) ∙ ended_here m e l job outcome same)
        | inr d ↦ unmoved m e action quiet (not_recording m e l action job outcome asks d) (ended_beside m e l action job outcome same d)
      ]
]

-- ---- Runs

pub job_runs_on_until_its_outcome : JobRunsOnUntilItsOutcome
job_runs_on_until_its_outcome m n [] action job w run there silent = ap (λ z. job_of z action) run ∙ there
job_runs_on_until_its_outcome m n (e ∷ entries) action job w run there silent =
    let first = sum_by-cons (λ (x : Entry). cond (records action x) 1 0) e entries in
    let kept = legal_kept m e w run.0 in
    elim (cases_Bool (records action e)) [
      | inl h ↦ absurd (omega (arith, first, silent, one_or_none (records action e) true h))
      | inr h ↦ job_runs_on_until_its_outcome (apply m e) n entries action job kept run.1
          (job_runs_until_its_outcome m e action job w run.0 there h) (omega (arith, first, silent))
    ]

pub outcomes_are_recorded : OutcomesAreRecorded
outcomes_are_recorded m n [] action w run = omega (arith, ap (λ z. running z action) run)
outcomes_are_recorded m n (e ∷ entries) action w run =
    omega (
      arith,
      counted m e action w run.0,
      sum_by-cons (λ (x : Entry). cond (is_job_for action x.answer) 1 0) e entries,
      sum_by-cons (λ (x : Entry). cond (records action x) 1 0) e entries,
      outcomes_are_recorded (apply m e) n entries action (legal_kept m e w run.0) run.1,
    )

pub take_up_has_one_outcome_or_runs : TakeUpHasOneOutcomeOrRunsInRuns
take_up_has_one_outcome_or_runs cells sessions resources next_action n entries action started small few run =
    let m : Machine = empty_from cells sessions resources next_action in
    let w : IsWellFormed m = empty_from_is_well_formed cells sessions resources next_action started small few in
    let nothing : running m action ≡ 0 = refl in
    let all : running m action + take_ups action entries ≡ outcomes action entries + running n action =
    outcomes_are_recorded m n entries action w run in
    let once : take_ups action entries ≤ 1 = taken_up_at_most_once m n entries action w run in
    (omega (arith, nothing, all), omega (arith, nothing, all, once))
