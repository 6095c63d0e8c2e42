-- What the test of calls tells.
use Rattle.std.proofs.Common.{◌≡◌, ◌≢◌, ◌↔◌, ℕ, Bool, true, false, not, Decides, IsTrue, length, refl, sym, ◌∙◌, ap, inl, inr, Option, Some}
use Rattle.std.proofs.Common.{None, option_and_then, nat_eq}
use Rattle.std.proofs.lemmas.Bool.{both_ways, and_parts, and_from, or_cases, or_left, or_right, eqb-true, eq-eqb, cases_eq, not-true}
use Rattle.std.proofs.lemmas.Bool.{not_from_false, false_from_ne_true}
use Rattle.jlr_machine.specs.declared.object.Object.{Object}
use Rattle.jlr_machine.specs.declared.object.Object.TheVariants.{Plain, Reference, Queue, Cleaner, Cleanable, Guard}
use Rattle.jlr_machine.specs.declared.object.Cleanable.{Cleanable as CleanableOf}
use Rattle.jlr_machine.specs.declared.object.CleanState.TheVariants.{Armed}
use Rattle.jlr_machine.specs.declared.object.Guard.{Guard as GuardOf}
use Rattle.jlr_machine.specs.declared.machine.Machine.{Machine}
use Rattle.jlr_machine.specs.declared.machine.Session.{Session}
use Rattle.jlr_machine.specs.declared.machine.Job.{Job as JobOf}
use Rattle.jlr_machine.specs.declared.machine.Resource.{Resource}
use Rattle.jlr_machine.specs.declared.machine.Call.{Call}
use Rattle.jlr_machine.specs.declared.machine.Call.TheVariants.{Free, Opening as CallOpening, Out as CallOut, Job as CallJob}
use Rattle.jlr_machine.specs.declared.machine.ResourceState.{ResourceState}
use Rattle.jlr_machine.specs.declared.machine.ResourceState.TheVariants.{Opening, Idle, Out, Closing}
use Rattle.jlr_machine.specs.Objects.{at, some_and, as_cleanable, is_armed}
use Rattle.jlr_machine.specs.Lookups.{resource_at, job_of, cleanable_at}
use Rattle.jlr_machine.specs.WellFormed.{AreCalls, HasResource, IsFencing, FitsItsCall, IsCallOf, IsSessionAt, IsCleanableAt, IsJob}
use Rattle.jlr_laws.proofs.Frames.{is_cleanable_there, place_within}
use Rattle.jlr_laws.proofs.Keyed.{key_found}
use Rattle.jlr_plain_images.specs.Resources.{has_resource}
use Rattle.jlr_plain_images.specs.Calls.{same_call, is_free_call, is_in_call, is_guard_in_call, is_fencing, fits_call, fits_own_call}
use Rattle.jlr_plain_images.specs.Calls.{all_fit_calls, is_calling, is_called, needs_call, has_its_call, all_have_calls, is_called_job}
use Rattle.jlr_plain_images.specs.Calls.{all_jobs_called, are_in_one_call, call_is_apart, calls_are_apart, calls_fit}
use Rattle.jlr_plain_images.proofs.States.{armed_is}
use Rattle.jlr_plain_images.proofs.WorksDecided.{Decides-resource}
use Rattle.jlr_plain_images.proofs.Everywhere.{Decides-none, Decides-numbers, Decides-others, Decides-slots, Decides-found, there_gives}
use Rattle.jlr_plain_images.proofs.Everywhere.{there_from, some_place_gives, some_place_from, also, turned}

-- ---- Calls

Decides-same : (a b : Call) → Decides (same_call a b) (a ≡ b)
Decides-same Free Free = ((λ h. refl), (λ e. refl))
Decides-same (CallOpening a) (CallOpening b) =
    ((λ h. ap (λ n. CallOpening n) (eqb-true a b h)), (λ e. let same : a ≡ b = cc e in eq-eqb a b same))
Decides-same (CallOut a) (CallOut b) = ((λ h. ap (λ n. CallOut n) (eqb-true a b h)), (λ e. let same : a ≡ b = cc e in eq-eqb a b same))
Decides-same (CallJob a) (CallJob b) = ((λ h. ap (λ n. CallJob n) (eqb-true a b h)), (λ e. let same : a ≡ b = cc e in eq-eqb a b same))
Decides-same Free (CallOpening b) = ((λ h. absurd (both_ways false refl h)), (λ e. absurd (cc e)))
Decides-same Free (CallOut b) = ((λ h. absurd (both_ways false refl h)), (λ e. absurd (cc e)))
Decides-same Free (CallJob b) = ((λ h. absurd (both_ways false refl h)), (λ e. absurd (cc e)))
Decides-same (CallOpening a) Free = ((λ h. absurd (both_ways false refl h)), (λ e. absurd (cc e)))
Decides-same (CallOpening a) (CallOut b) = ((λ h. absurd (both_ways false refl h)), (λ e. absurd (cc e)))
Decides-same (CallOpening a) (CallJob b) = ((λ h. absurd (both_ways false refl h)), (λ e. absurd (cc e)))
Decides-same (CallOut a) Free = ((λ h. absurd (both_ways false refl h)), (λ e. absurd (cc e)))
Decides-same (CallOut a) (CallOpening b) = ((λ h. absurd (both_ways false refl h)), (λ e. absurd (cc e)))
Decides-same (CallOut a) (CallJob b) = ((λ h. absurd (both_ways false refl h)), (λ e. absurd (cc e)))
Decides-same (CallJob a) Free = ((λ h. absurd (both_ways false refl h)), (λ e. absurd (cc e)))
Decides-same (CallJob a) (CallOpening b) = ((λ h. absurd (both_ways false refl h)), (λ e. absurd (cc e)))
Decides-same (CallJob a) (CallOut b) = ((λ h. absurd (both_ways false refl h)), (λ e. absurd (cc e)))

free_is : (a : Call) → is_free_call a ≡ true → a ≡ Free
free_is Free h = refl
free_is (CallOpening a) h = absurd (both_ways false refl h)
free_is (CallOut a) h = absurd (both_ways false refl h)
free_is (CallJob a) h = absurd (both_ways false refl h)

-- ---- Fences

-- an Armed cleanable of this guard, with its resource in this state
abbrev pub IsInCall : Machine → ℕ → ResourceState → ℕ → Type 0
IsInCall m rid state s = (c : CleanableOf) × IsCleanableAt m s c × (c.state ≡ Armed) × HasResource m rid c.action state

pub Decides-in_call : (m : Machine) (rid : ℕ) (state : ResourceState) (s : ℕ)
    → Decides (some_and (is_in_call m rid state) (cleanable_at m s)) (IsInCall m rid state s)
Decides-in_call m rid state s = (
  (λ h.
      let x = there_gives (is_in_call m rid state) (cleanable_at m s) h in
      let p = and_parts (is_armed x.0.state) (has_resource m rid x.0.action state) x.2 in
      (x.0, is_cleanable_there (at m.objects s) x.0 x.1, armed_is x.0.state p.0, (Decides-resource m rid x.0.action state).0 p.1)),
  (λ w. there_from (is_in_call m rid state) (cleanable_at m s) w.0 (ap (option_and_then as_cleanable) w.1)
      (and_from (is_armed w.0.state) (has_resource m rid w.0.action state) (ap is_armed w.2)
      ((Decides-resource m rid w.0.action state).1 w.3))),
)

guard_in_call_gives : (m : Machine) (rid : ℕ) (state : ResourceState) (o : Object) → is_guard_in_call m rid state o ≡ true → (g : GuardOf)
    × (o ≡ Guard g) × (g.rid ≡ rid) × IsInCall m rid state g.cleanable
guard_in_call_gives m rid state (Guard g) h =
    let p = and_parts (nat_eq g.rid rid) (some_and (is_in_call m rid state) (cleanable_at m g.cleanable)) h in
    (g, refl, eqb-true g.rid rid p.0, (Decides-in_call m rid state g.cleanable).0 p.1)
guard_in_call_gives m rid state (Plain x) h = absurd (both_ways false refl h)
guard_in_call_gives m rid state (Reference x) h = absurd (both_ways false refl h)
guard_in_call_gives m rid state (Queue x) h = absurd (both_ways false refl h)
guard_in_call_gives m rid state Cleaner h = absurd (both_ways false refl h)
guard_in_call_gives m rid state (Cleanable x) h = absurd (both_ways false refl h)

Decides-fencing : (m : Machine) (s : Session) (rid : ℕ) (state : ResourceState)
    → Decides (is_fencing m s rid state) (IsFencing m s rid state)
Decides-fencing m s rid state =
    let guards : ℕ → Bool = λ t. some_and (is_guard_in_call m rid state) (at m.objects t) in (
      (λ h.
          let t = there_gives guards s.fence h in
          let o = there_gives (is_guard_in_call m rid state) (at m.objects t.0) t.2 in
          let g = guard_in_call_gives m rid state o.0 o.2 in
          let c = g.3 in
          (t.0, g.0, c.0, t.1, o.1 ∙ ap (λ x. Some x) g.1, g.2, c.1, c.2, c.3)),
      (λ (t, g, c, fence, guard, same, there, armed, resource).
          there_from guards s.fence t fence
          (there_from (is_guard_in_call m rid state) (at m.objects t) (Guard g) guard
          (and_from (nat_eq g.rid rid) (some_and (is_in_call m rid state) (cleanable_at m g.cleanable)) (eq-eqb g.rid rid same)
          ((Decides-in_call m rid state g.cleanable).1 (c, there, armed, resource))))),
    )

abbrev IsJobOf : Machine → ℕ → ℕ → Type 0
IsJobOf m action k = (job : JobOf) × (job_of m action ≡ Some job) × (job.by ≡ k)

Decides-job_of : (m : Machine) (action k : ℕ) → Decides (some_and (λ job. nat_eq job.by k) (job_of m action)) (IsJobOf m action k)
Decides-job_of m action k = (
  (λ h. let x = there_gives (λ job. nat_eq job.by k) (job_of m action) h in (x.0, x.1, eqb-true x.0.by k x.2)),
  (λ w. there_from (λ job. nat_eq job.by k) (job_of m action) w.0 w.1 (eq-eqb w.0.by k w.2)),
)

Decides-fits : (m : Machine) (k : ℕ) (s : Session) (call : Call) → Decides (fits_call m k s call) (FitsItsCall m k s call)
Decides-fits m k s Free = Decides-none s.fence
Decides-fits m k s (CallOpening rid) = Decides-fencing m s rid Opening
Decides-fits m k s (CallOut rid) = Decides-fencing m s rid Out
Decides-fits m k s (CallJob action) = also (Decides-none s.fence) (Decides-job_of m action k)

abbrev AllFit : Machine → Type 0
AllFit m = (k : ℕ) (s : Session) → IsSessionAt m k s → FitsItsCall m k s s.call

Decides-all_fit : (m : Machine) → Decides (all_fit_calls m) (AllFit m)
Decides-all_fit m = Decides-slots (fits_own_call m) (λ k s. FitsItsCall m k s s.call) m.mutators (λ k s. Decides-fits m k s s.call)

-- ---- Each resource in use, and each job, is a call

abbrev IsCalled : Machine → Call → Type 0
IsCalled m call = (k : ℕ) × IsCallOf m k call

Decides-called : (m : Machine) (call : Call) → Decides (is_called m call) (IsCalled m call)
Decides-called m call = (
  (λ h. let x = some_place_gives (is_calling call) m.mutators h in (x.0, (x.1, x.2, (Decides-same x.1.call call).0 x.3))),
  (λ w. some_place_from (is_calling call) m.mutators w.0 w.1.0 w.1.1 ((Decides-same w.1.0.call call).1 w.1.2)),
)

abbrev NeedsCall : Machine → ℕ → ResourceState → Type 0
NeedsCall m rid state = (state ≡ Opening → IsCalled m (CallOpening rid)) × (state ≡ Out → IsCalled m (CallOut rid))

Decides-needs : (m : Machine) (rid : ℕ) (state : ResourceState) → Decides (needs_call m rid state) (NeedsCall m rid state)
Decides-needs m rid Opening = (
  (λ h. ((λ e. (Decides-called m (CallOpening rid)).0 h), (λ e. absurd (cc e)))),
  (λ w. (Decides-called m (CallOpening rid)).1 (w.0 refl)),
)
Decides-needs m rid Out =
    ((λ h. ((λ e. absurd (cc e)), (λ e. (Decides-called m (CallOut rid)).0 h))), (λ w. (Decides-called m (CallOut rid)).1 (w.1 refl)))
Decides-needs m rid Idle = ((λ h. ((λ e. absurd (cc e)), (λ e. absurd (cc e)))), (λ w. refl))
Decides-needs m rid Closing = ((λ h. ((λ e. absurd (cc e)), (λ e. absurd (cc e)))), (λ w. refl))

abbrev AllHaveCalls : Machine → Type 0
AllHaveCalls m = (a : ℕ) (r : Resource) → resource_at m a ≡ Some r → NeedsCall m r.rid r.state

Decides-have_calls : (m : Machine) → Decides (all_have_calls m) (AllHaveCalls m)
Decides-have_calls m =
    Decides-found (λ r. r.rid) (has_its_call m) (λ r. NeedsCall m r.rid r.state) m.resources (λ r. Decides-needs m r.rid r.state)

abbrev UsedAreCalled : Machine → Type 0
UsedAreCalled m = ((rid action : ℕ) → HasResource m rid action Opening → IsCalled m (CallOpening rid))
    × ((rid action : ℕ) → HasResource m rid action Out → IsCalled m (CallOut rid))

rebuilt : (m : Machine) (a : ℕ) (r : Resource) (state : ResourceState) → resource_at m a ≡ Some r → r.state ≡ state
    → HasResource m r.rid r.action state
rebuilt m a r state e f =
    ap (resource_at m) (key_found (λ r. r.rid) m.resources a r e) ∙ e
    ∙ ap {A = ResourceState} {B = Option Resource} (λ s. Some (record { rid = r.rid; action = r.action; state = s })) f

Decides-used : (m : Machine) → Decides (all_have_calls m) (UsedAreCalled m)
Decides-used m =
    turned (Decides-have_calls m)
    (λ w. (
      (λ rid action e. (w rid (record { rid = rid; action = action; state = Opening }) e).0 refl),
      (λ rid action e. (w rid (record { rid = rid; action = action; state = Out }) e).1 refl),
    ))
    (λ w a r e. ((λ f. w.0 r.rid r.action (rebuilt m a r Opening e f)), (λ f. w.1 r.rid r.action (rebuilt m a r Out e f))))

abbrev JobCalled : Machine → JobOf → Type 0
JobCalled m job = job.by ≢ 255 → IsCallOf m job.by (CallJob job.action)

Decides-call_of : (m : Machine) (k : ℕ) (call : Call) → Decides (some_and (is_calling call) (at m.mutators k)) (IsCallOf m k call)
Decides-call_of m k call = (
  (λ h. let x = there_gives (is_calling call) (at m.mutators k) h in (x.0, x.1, (Decides-same x.0.call call).0 x.2)),
  (λ w. there_from (is_calling call) (at m.mutators k) w.0 w.1 ((Decides-same w.0.call call).1 w.2)),
)

Decides-job_called : (m : Machine) (job : JobOf) → Decides (is_called_job m job) (JobCalled m job)
Decides-job_called m job =
    let call = some_and (is_calling (CallJob job.action)) (at m.mutators job.by) in
    let d = Decides-call_of m job.by (CallJob job.action) in (
      (λ h n. elim (or_cases (nat_eq job.by 255) call h) [ inl e ↦ absurd (n (eqb-true job.by 255 e)) | inr c ↦ d.0 c ]),
      (λ w. elim (cases_eq job.by 255) [
        | inl same ↦ or_left (nat_eq job.by 255) call (eq-eqb job.by 255 same)
        | inr other ↦ or_right (nat_eq job.by 255) call (d.1 (w other))
      ]),
    )

abbrev JobsCalled : Machine → Type 0
JobsCalled m = (job : JobOf) → IsJob m job → job.by ≢ 255 → IsCallOf m job.by (CallJob job.action)

Decides-jobs : (m : Machine) → Decides (all_jobs_called m) (JobsCalled m)
Decides-jobs m =
    turned (Decides-found (λ job. job.action) (is_called_job m) (JobCalled m) m.jobs (Decides-job_called m))
    (λ w job e. w job.action job e)
    (λ w a job e. w job (ap (job_of m) (key_found (λ job. job.action) m.jobs a job e) ∙ e))

-- ---- No call is that of two mutators

abbrev AreInOneCall : Machine → ℕ → ℕ → Type 0
AreInOneCall m j k = (call : Call) × IsCallOf m j call × IsCallOf m k call × (call ≢ Free)

in_one_gives : (x y : Option Session) → are_in_one_call x y ≡ true → (s : Session) × (t : Session) × (x ≡ Some s) × (y ≡ Some t)
    × (t.call ≡ s.call) × (s.call ≢ Free)
in_one_gives None y h = absurd (both_ways false refl h)
in_one_gives (Some s) None h = absurd (both_ways false refl h)
in_one_gives (Some s) (Some t) h =
    let p = and_parts (not (is_free_call s.call)) (same_call s.call t.call) h in (
      s,
      t,
      refl,
      refl,
      sym ((Decides-same s.call t.call).0 p.1),
      (λ e. both_ways (is_free_call s.call) (not-true (is_free_call s.call) p.0) (ap is_free_call e)),
    )

Decides-in_one : (m : Machine) (j k : ℕ) → Decides (are_in_one_call (at m.mutators j) (at m.mutators k)) (AreInOneCall m j k)
Decides-in_one m j k = (
  (λ h.
      let x = in_one_gives (at m.mutators j) (at m.mutators k) h in
      (x.0.call, (x.0, x.2, refl), (x.1, x.3, x.4), x.5)),
  (λ (call, (s, at_s, same_s), (t, at_t, same_t), busy).
      ap (λ o. are_in_one_call o (at m.mutators k)) at_s ∙ ap (are_in_one_call (Some s)) at_t
      ∙ and_from (not (is_free_call s.call)) (same_call s.call t.call)
      (not_from_false (is_free_call s.call) (false_from_ne_true (is_free_call s.call) (λ h. busy (sym same_s ∙ free_is s.call h))))
      ((Decides-same s.call t.call).1 (same_s ∙ sym same_t))),
)

abbrev OneCall : Machine → Type 0
OneCall m = (j k : ℕ) (call : Call) → IsCallOf m j call → IsCallOf m k call → call ≢ Free → j ≡ k

Decides-one_call : (m : Machine) → Decides (calls_are_apart m) (OneCall m)
Decides-one_call m =
    let all = Decides-numbers (length m.mutators) (call_is_apart m) in
    let others = λ (j : ℕ). Decides-others (length m.mutators) j (λ k. are_in_one_call (at m.mutators j) (at m.mutators k)) in (
      (λ h j k call a b n. (others j).0 (all.0 h j (place_within m.mutators j a.0 a.1)) k (place_within m.mutators k b.0 b.1)
          ((Decides-in_one m j k).1 (call, a, b, n))),
      (λ w. all.1 (λ j _. (others j).1 (λ k _ h. let x = (Decides-in_one m j k).0 h in w j k x.0 x.1 x.2 x.3))),
    )

-- ---- All

pub calls_decided : (m : Machine) → IsTrue (calls_fit m) ↔ AreCalls m
calls_decided m =
    turned (also (also (also (Decides-all_fit m) (Decides-used m)) (Decides-one_call m)) (Decides-jobs m))
    (λ p. record {
      calls = p.0.0.0;
      opening = p.0.0.1.0;
      out = p.0.0.1.1;
      one_call = p.0.1;
      jobs = p.1;
    })
    (λ w. (((w.calls, (w.opening, w.out)), w.one_call), w.jobs))
