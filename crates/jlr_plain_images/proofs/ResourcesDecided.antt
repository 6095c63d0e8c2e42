-- What the test of resources and guards tells.
use Rattle.std.proofs.Common.{◌≡◌, ◌≢◌, ◌↔◌, ℕ, Bool, true, false, not, ◌&&◌, ◌||◌, Decides, IsTrue, refl, sym, ◌∙◌, ap, subst, ◌⊎◌, inl}
use Rattle.std.proofs.Common.{inr, Option, Some, None, option_and_then, nat_eq}
use Rattle.std.specs.List.{list_any}
use Rattle.std.proofs.lemmas.Bool.{both_ways, and_parts, and_from, or_cases, or_left, or_right, eqb-true, eq-eqb, not-true, not_from_false}
use Rattle.std.proofs.lemmas.Bool.{false_from_ne_true}
use Rattle.jlr_types.specs.declared.Work.{Work}
use Rattle.jlr_types.specs.declared.Work.TheVariants.{Note, Resource as WorkOn}
use Rattle.jlr_machine.specs.declared.object.Object.{Object}
use Rattle.jlr_machine.specs.declared.object.Object.TheVariants.{Plain, Reference, Queue, Cleaner, Cleanable, Guard}
use Rattle.jlr_machine.specs.declared.object.Cleanable.{Cleanable as CleanableOf}
use Rattle.jlr_machine.specs.declared.object.CleanState.TheVariants.{Armed, Spent}
use Rattle.jlr_machine.specs.declared.object.Guard.{Guard as GuardOf}
use Rattle.jlr_machine.specs.declared.machine.Machine.{Machine}
use Rattle.jlr_machine.specs.declared.machine.Job.{Job as JobOf}
use Rattle.jlr_machine.specs.declared.machine.Resource.{Resource}
use Rattle.jlr_machine.specs.declared.machine.ResourceState.{ResourceState}
use Rattle.jlr_machine.specs.declared.machine.ResourceState.TheVariants.{Opening, Idle, Out, Closing}
use Rattle.jlr_machine.specs.Objects.{at, some_and, as_cleanable, is_armed, is_spent}
use Rattle.jlr_machine.specs.Lookups.{resource_at, job_of, cleanable_at}
use Rattle.jlr_machine.specs.WellFormed.{AreResources, HasResource, HasWorker, IsUnspent, IsJob, IsOwnGuard, IsGuardAt, IsCleanableAt}
use Rattle.jlr_laws.proofs.Frames.{no_some, some_same, is_cleanable_there}
use Rattle.jlr_laws.proofs.Keyed.{key_found}
use Rattle.jlr_plain_images.specs.Places.{keys_are_apart, on_guard, on_cleanable}
use Rattle.jlr_plain_images.specs.Resources.{is_on_resource, is_work_on, is_closing, is_idle, is_worker, has_worker, is_worked}
use Rattle.jlr_plain_images.specs.Resources.{all_are_worked, serves, is_served, has_its_resource, closes, closes_its_own, all_jobs_close}
use Rattle.jlr_plain_images.specs.Resources.{guarded_slot, is_own, owns, all_guards_own, is_guard_of, is_guarded, all_are_guarded, rid_in}
use Rattle.jlr_plain_images.specs.Resources.{resources_fit}
use Rattle.jlr_plain_images.proofs.States.{spent_is, armed_is, unless_spent}
use Rattle.jlr_plain_images.proofs.WorksDecided.{same_rid, no_rid, Decides-work, on_gives, closing_is, idle_is, found_resource}
use Rattle.jlr_plain_images.proofs.WorksDecided.{Decides-resource}
use Rattle.jlr_plain_images.proofs.Everywhere.{Decides-any, Decides-cleanables, Decides-rising, Decides-apart, Decides-number}
use Rattle.jlr_plain_images.proofs.Everywhere.{Decides-found}
use Rattle.jlr_plain_images.proofs.Everywhere.{Decides-slots, Decides-on_guard, Decides-on_cleanable, there_gives, there_from}
use Rattle.jlr_plain_images.proofs.Everywhere.{some_place_gives, some_place_from, also, turned}

-- ---- Each resource is the work of a cleanable or a job

worker_gives : (rid action : ℕ) (o : Object) → is_worker rid action o ≡ true → (c : CleanableOf) × (o ≡ Cleanable c) × (c.state ≢ Spent)
    × (c.action ≡ action) × (c.work ≡ WorkOn rid)
worker_gives rid action (Cleanable c) h =
    let p = and_parts (not (is_spent c.state) && nat_eq c.action action) (is_work_on rid c.work) h in
    let q = and_parts (not (is_spent c.state)) (nat_eq c.action action) p.0 in (
      c,
      refl,
      (λ e. both_ways (is_spent c.state) (not-true (is_spent c.state) q.0) (ap is_spent e)),
      eqb-true c.action action q.1,
      (Decides-work rid c.work).0 p.1,
    )
worker_gives rid action (Plain x) h = absurd (both_ways false refl h)
worker_gives rid action (Reference x) h = absurd (both_ways false refl h)
worker_gives rid action (Queue x) h = absurd (both_ways false refl h)
worker_gives rid action Cleaner h = absurd (both_ways false refl h)
worker_gives rid action (Guard x) h = absurd (both_ways false refl h)

worker_from : (rid action : ℕ) (c : CleanableOf) → c.state ≢ Spent → c.action ≡ action → c.work ≡ WorkOn rid
    → is_worker rid action (Cleanable c) ≡ true
worker_from rid action c n e f =
    and_from (not (is_spent c.state) && nat_eq c.action action) (is_work_on rid c.work)
    (and_from (not (is_spent c.state)) (nat_eq c.action action)
    (not_from_false (is_spent c.state) (false_from_ne_true (is_spent c.state) (λ h. n (spent_is c.state h))))
    (eq-eqb c.action action e))
    ((Decides-work rid c.work).1 f)

abbrev HasCleanable : Machine → ℕ → ℕ → Type 0
HasCleanable m rid action = (s : ℕ) × (c : CleanableOf) × IsUnspent m s c × (c.action ≡ action) × (c.work ≡ WorkOn rid)

Decides-worker : (m : Machine) (rid action : ℕ) → Decides (list_any (some_and (is_worker rid action)) m.objects) (HasCleanable m rid action)
Decides-worker m rid action = (
  (λ h.
      let x = some_place_gives (is_worker rid action) m.objects h in
      let w = worker_gives rid action x.1 x.3 in
      (x.0, w.0, record { there = x.2 ∙ ap (λ o. Some o) w.1; unspent = w.2 }, w.3, w.4)),
  (λ w. some_place_from (is_worker rid action) m.objects w.0 (Cleanable w.1) w.2.there (worker_from rid action w.1 w.2.unspent w.3 w.4)),
)

abbrev HasClosingJob : Machine → ℕ → ℕ → Type 0
HasClosingJob m rid action = (job : JobOf) × IsJob m job × (job.action ≡ action) × (job.work ≡ WorkOn rid)

own_job : (m : Machine) (action : ℕ) (job : JobOf) → job_of m action ≡ Some job → IsJob m job
own_job m action job e = ap (job_of m) (key_found (λ job. job.action) m.jobs action job e) ∙ e

Decides-closing_job : (m : Machine) (rid action : ℕ)
    → Decides (some_and (λ job. is_work_on rid job.work) (job_of m action)) (HasClosingJob m rid action)
Decides-closing_job m rid action = (
  (λ h.
      let x = there_gives (λ job. is_work_on rid job.work) (job_of m action) h in
      (x.0, own_job m action x.0 x.1, key_found (λ job. job.action) m.jobs action x.0 x.1, (Decides-work rid x.0.work).0 x.2)),
  (λ w. there_from (λ job. is_work_on rid job.work) (job_of m action) w.0 (ap (job_of m) (sym w.2) ∙ w.1)
      ((Decides-work rid w.0.work).1 w.3)),
)

Decides-has_worker : (m : Machine) (rid action : ℕ) (state : ResourceState)
    → Decides (has_worker m rid action state) (HasWorker m rid action state)
Decides-has_worker m rid action Closing = Decides-closing_job m rid action
Decides-has_worker m rid action Opening = Decides-worker m rid action
Decides-has_worker m rid action Idle = Decides-worker m rid action
Decides-has_worker m rid action Out = Decides-worker m rid action

abbrev AllWorked : Machine → Type 0
AllWorked m = (rid action : ℕ) (state : ResourceState) → HasResource m rid action state → HasWorker m rid action state

Decides-worked : (m : Machine) → Decides (all_are_worked m) (AllWorked m)
Decides-worked m =
    turned (Decides-found (λ r. r.rid) (is_worked m) (λ r. HasWorker m r.rid r.action r.state) m.resources
    (λ r. Decides-has_worker m r.rid r.action r.state))
    (λ w rid action state e. w rid (record { rid = rid; action = action; state = state }) e)
    (λ w a r e. w r.rid r.action r.state (ap (resource_at m) (key_found (λ r. r.rid) m.resources a r e) ∙ e))

-- ---- Each such work has its resource

abbrev Serves : Machine → CleanableOf → ℕ → Type 0
Serves m c rid = ((state : ResourceState) × HasResource m rid c.action state × (state ≢ Closing))
    × (c.state ≢ Armed → HasResource m rid c.action Idle)

serves_gives : (m : Machine) (c : CleanableOf) (rid : ℕ) (r : Resource) → resource_at m rid ≡ Some r → serves c r ≡ true → Serves m c rid
serves_gives m c rid r e h =
    let p = and_parts (nat_eq r.action c.action && not (is_closing r.state)) (is_armed c.state || is_idle r.state) h in
    let q = and_parts (nat_eq r.action c.action) (not (is_closing r.state)) p.0 in
    let same = eqb-true r.action c.action q.0 in (
      (
        r.state,
        found_resource m rid r c.action r.state e same refl,
        (λ f. both_ways (is_closing r.state) (not-true (is_closing r.state) q.1) (ap is_closing f)),
      ),
      (λ n. elim (or_cases (is_armed c.state) (is_idle r.state) p.1) [
        | inl a ↦ absurd (n (armed_is c.state a))
        | inr i ↦ found_resource m rid r c.action Idle e same (idle_is r.state i)
      ]),
    )

idle_or_armed : (m : Machine) (c : CleanableOf) (rid : ℕ) (state : ResourceState) → HasResource m rid c.action state
    → (c.state ≢ Armed → HasResource m rid c.action Idle) → (is_armed c.state || is_idle state) ≡ true
idle_or_armed m c rid state e w =
    elim (is_armed c.state) as (λ b. is_armed c.state ≡ b → (b || is_idle state) ≡ true) [
      | true ↦ λ a. refl
      | false ↦ λ a. ap (λ (r : Resource). is_idle r.state)
          (some_same _ _ (sym e ∙ w (λ f. both_ways (is_armed c.state) a (ap is_armed f))))
    ] refl

serves_from : (m : Machine) (c : CleanableOf) (rid : ℕ) → Serves m c rid → some_and (serves c) (resource_at m rid) ≡ true
serves_from m c rid w =
    let state : ResourceState = w.0.0 in
    ap (some_and (serves c)) w.0.1
    ∙ and_from (nat_eq c.action c.action && not (is_closing state)) (is_armed c.state || is_idle state)
    (and_from (nat_eq c.action c.action) (not (is_closing state)) (eq-eqb c.action c.action refl)
    (not_from_false (is_closing state) (false_from_ne_true (is_closing state) (λ h. w.0.2 (closing_is state h)))))
    (idle_or_armed m c rid state w.0.1 w.1)

Decides-serves : (m : Machine) (c : CleanableOf) (rid : ℕ) → Decides (some_and (serves c) (resource_at m rid)) (Serves m c rid)
Decides-serves m c rid = (
  (λ h. let x = there_gives (serves c) (resource_at m rid) h in serves_gives m c rid x.0 x.1 x.2),
  serves_from m c rid,
)

abbrev IsServed : Machine → CleanableOf → Work → Type 0
IsServed m c w = (rid : ℕ) → w ≡ WorkOn rid → c.state ≢ Spent → Serves m c rid

Decides-served : (m : Machine) (c : CleanableOf) (w : Work) → Decides (is_served m c w) (IsServed m c w)
Decides-served m c (Note n) = ((λ h rid e. no_rid n rid e), (λ w. refl))
Decides-served m c (WorkOn rid) =
    turned (unless_spent c.state (some_and (serves c) (resource_at m rid)) (Decides-serves m c rid))
    (λ h other e n. subst (Serves m c) (same_rid (WorkOn rid) rid other refl e) (h n))
    (λ w n. w rid refl n)

abbrev IsClosed : Machine → JobOf → Work → Type 0
IsClosed m job w = (rid : ℕ) → w ≡ WorkOn rid → HasResource m rid job.action Closing

Decides-closes : (m : Machine) (job : JobOf) (w : Work) → Decides (closes m job w) (IsClosed m job w)
Decides-closes m job (Note n) = ((λ h rid e. no_rid n rid e), (λ w. refl))
Decides-closes m job (WorkOn rid) =
    turned (Decides-resource m rid job.action Closing)
    (λ h other e. subst (λ rid. HasResource m rid job.action Closing) (same_rid (WorkOn rid) rid other refl e) h)
    (λ w. w rid refl)

abbrev AllClose : Machine → Type 0
AllClose m = (job : JobOf) (rid : ℕ) → IsJob m job → job.work ≡ WorkOn rid → HasResource m rid job.action Closing

Decides-close : (m : Machine) → Decides (all_jobs_close m) (AllClose m)
Decides-close m =
    turned (Decides-found (λ job. job.action) (closes_its_own m) (λ job. IsClosed m job job.work) m.jobs
    (λ job. Decides-closes m job job.work))
    (λ w job rid e f. w job.action job e rid f)
    (λ w a job e rid f. w job rid (own_job m a job e) f)

-- ---- Guards

guarded_gives : (o : Option Object) (a : ℕ) → guarded_slot o ≡ Some a → (g : GuardOf) × (o ≡ Some (Guard g)) × (g.cleanable ≡ a)
guarded_gives None a e = no_some a e
guarded_gives (Some (Guard g)) a e = (g, refl, some_same g.cleanable a e)
guarded_gives (Some _) a e = no_some a e

abbrev OneGuard : Machine → Type 0
OneGuard m = (s t : ℕ) (g h : GuardOf) → IsGuardAt m s g → IsGuardAt m t h → g.cleanable ≡ h.cleanable → s ≡ t

Decides-one_guard : (m : Machine) → Decides (keys_are_apart guarded_slot m.objects) (OneGuard m)
Decides-one_guard m = turned (Decides-apart guarded_slot m.objects refl)
    (λ w s t g h e f k. w s t g.cleanable (ap guarded_slot e) (ap guarded_slot f ∙ ap (λ a. Some a) (sym k)))
    (λ w s t a e f.
    let x = guarded_gives (at m.objects s) a e in
    let y = guarded_gives (at m.objects t) a f in
    w s t x.0 y.0 x.1 y.1 (x.2 ∙ sym y.2))

abbrev Owns : Machine → ℕ → GuardOf → CleanableOf → Type 0
Owns m s g c = (c.state ≡ Spent) ⊎ IsOwnGuard m s g c

Decides-own : (m : Machine) (s : ℕ) (g : GuardOf) (c : CleanableOf) → Decides (is_own s g c) (Owns m s g c)
Decides-own m s g c =
    let own : Decides (is_armed c.state && some_and (nat_eq s) c.referent && is_work_on g.rid c.work)
    (((c.state ≡ Armed) × (c.referent ≡ Some s)) × (c.work ≡ WorkOn g.rid)) =
    also (also (armed_is c.state, λ e. ap is_armed e) (Decides-number s c.referent)) (Decides-work g.rid c.work) in (
      (λ h. elim (or_cases (is_spent c.state) (is_armed c.state && some_and (nat_eq s) c.referent && is_work_on g.rid c.work) h) [
        | inl e ↦ inl (spent_is c.state e)
        | inr o ↦ let p = own.0 o in inr (record { armed = p.0.0; referent = p.0.1; work = p.1 })
      ]),
      (λ w. elim w [
        | inl e ↦ or_left (is_spent c.state) (is_armed c.state && some_and (nat_eq s) c.referent && is_work_on g.rid c.work) (ap is_spent e)
        | inr o ↦ or_right (is_spent c.state) (is_armed c.state && some_and (nat_eq s) c.referent && is_work_on g.rid c.work)
            (own.1 ((o.armed, o.referent), o.work))
      ]),
    )

abbrev AllOwn : Machine → Type 0
AllOwn m = (s : ℕ) (g : GuardOf) (c : CleanableOf) → IsGuardAt m s g → IsCleanableAt m g.cleanable c → Owns m s g c

Decides-guards_own : (m : Machine) → Decides (all_guards_own m) (AllOwn m)
Decides-guards_own m =
    let owning = λ (s : ℕ) (g : GuardOf). Decides-any (is_own s g) (Owns m s g) (cleanable_at m g.cleanable) (Decides-own m s g) in
    let all = Decides-slots (λ s. on_guard (owns m s))
    (λ s o. (g : GuardOf) → o ≡ Guard g → (c : CleanableOf) → cleanable_at m g.cleanable ≡ Some c → Owns m s g c) m.objects
    (λ s o. Decides-on_guard (owns m s) (λ g. (c : CleanableOf) → cleanable_at m g.cleanable ≡ Some c → Owns m s g c) o (owning s)) in
    turned all
    (λ w s g c e f. w s (Guard g) e g refl c (ap (option_and_then as_cleanable) f))
    (λ w s o e g k c f. w s g c (e ∙ ap (λ x. Some x) k) (is_cleanable_there (at m.objects g.cleanable) c f))

guard_of_gives : (s : ℕ) (o : Object) → is_guard_of s o ≡ true → (g : GuardOf) × (o ≡ Guard g) × (g.cleanable ≡ s)
guard_of_gives s (Guard g) h = (g, refl, eqb-true g.cleanable s h)
guard_of_gives s (Plain x) h = absurd (both_ways false refl h)
guard_of_gives s (Reference x) h = absurd (both_ways false refl h)
guard_of_gives s (Queue x) h = absurd (both_ways false refl h)
guard_of_gives s Cleaner h = absurd (both_ways false refl h)
guard_of_gives s (Cleanable x) h = absurd (both_ways false refl h)

abbrev HasGuard : Machine → ℕ → Type 0
HasGuard m s = (t : ℕ) × (g : GuardOf) × IsGuardAt m t g × (g.cleanable ≡ s)

Decides-guard_of : (m : Machine) (s : ℕ) → Decides (list_any (some_and (is_guard_of s)) m.objects) (HasGuard m s)
Decides-guard_of m s = (
  (λ h.
      let x = some_place_gives (is_guard_of s) m.objects h in
      let g = guard_of_gives s x.1 x.3 in
      (x.0, g.0, x.2 ∙ ap (λ o. Some o) g.1, g.2)),
  (λ w. some_place_from (is_guard_of s) m.objects w.0 (Guard w.1) w.2 (eq-eqb w.1.cleanable s w.3)),
)

abbrev IsGuarded : Machine → ℕ → CleanableOf → Type 0
IsGuarded m s c = (rid : ℕ) → c.state ≡ Armed → c.work ≡ WorkOn rid → HasGuard m s

Decides-guarded : (m : Machine) (s : ℕ) (c : CleanableOf) → Decides (is_guarded m s c) (IsGuarded m s c)
Decides-guarded m s c =
    let needs : Bool = is_armed c.state && is_on_resource c.work in
    let has : Bool = list_any (some_and (is_guard_of s)) m.objects in (
      (λ h rid a w. elim (or_cases (not needs) has h) [
        | inl n ↦ absurd (both_ways needs (not-true needs n)
            (and_from (is_armed c.state) (is_on_resource c.work) (ap is_armed a) (ap is_on_resource w)))
        | inr g ↦ (Decides-guard_of m s).0 g
      ]),
      (λ w. elim needs as (λ b. needs ≡ b → (not b || has) ≡ true) [
        | true ↦ λ e.
            let p = and_parts (is_armed c.state) (is_on_resource c.work) e in
            let r = on_gives c.work p.1 in
            (Decides-guard_of m s).1 (w r.0 (armed_is c.state p.0) r.1)
        | false ↦ λ e. refl
      ] refl),
    )

abbrev AllGuarded : Machine → Type 0
AllGuarded m = (s rid : ℕ) (c : CleanableOf) → IsCleanableAt m s c → c.state ≡ Armed → c.work ≡ WorkOn rid → HasGuard m s

Decides-all_guarded : (m : Machine) → Decides (all_are_guarded m) (AllGuarded m)
Decides-all_guarded m =
    turned (Decides-slots (λ s. on_cleanable (is_guarded m s)) (λ s o. (c : CleanableOf) → o ≡ Cleanable c → IsGuarded m s c) m.objects
    (λ s o. Decides-on_cleanable (is_guarded m s) (IsGuarded m s) o (Decides-guarded m s)))
    (λ w s rid c e a f. w s (Cleanable c) e c refl rid a f)
    (λ w s o e c k rid a f. w s rid c (e ∙ ap (λ x. Some x) k) a f)

-- ---- All

pub resources_decided : (m : Machine) → IsTrue (resources_fit m) ↔ AreResources m
resources_decided m =
    let served = Decides-cleanables (has_its_resource m) (λ c. IsServed m c c.work) m.objects (λ c. Decides-served m c c.work) in
    let guards = also (also (Decides-one_guard m) (Decides-guards_own m)) (Decides-all_guarded m) in
    turned (also (also (also (also (Decides-rising rid_in m.resources) (Decides-worked m)) served) (Decides-close m)) guards)
    (λ p. record {
      rising = p.0.0.0.0;
      worked = p.0.0.0.1;
      of_cleanables = λ s rid c u e. (p.0.0.1 s c u.there rid e u.unspent).0;
      idle = λ s rid c u e n. (p.0.0.1 s c u.there rid e u.unspent).1 n;
      of_jobs = p.0.1;
      one_guard = p.1.0.0;
      guards = p.1.0.1;
      guarded = p.1.1;
    })
    (λ w. (
      (
        (
          (w.rising, w.worked),
          (λ s c e rid f n. (
            w.of_cleanables s rid c (record { there = e; unspent = n }) f,
            (λ a. w.idle s rid c (record { there = e; unspent = n }) f a),
          )),
        ),
        w.of_jobs,
      ),
      ((w.one_guard, w.guards), w.guarded),
    ))
