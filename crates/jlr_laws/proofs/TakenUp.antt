-- A take-up of a cleanable, by a mutator or by the cleaner.
use Rattle.std.proofs.Common.{◌≡◌, ℕ, ◌+◌, ◌≤◌, cond, List, [], ◌∷◌, length, refl, sym, ◌∙◌, ap, subst, ◌⊎◌, inl, inr, arith, Some, None}
use Rattle.std.proofs.Common.{map, IsTrue, count_by, nat_eq, nat_lt, if◌then◌else◌}
use Rattle.std.specs.List.{AllByRecursion}
use Rattle.std.proofs.lemmas.Bool.{cases_eq}
use Rattle.jlr_types.specs.declared.Work.TheVariants.{Resource as WorkOn}
use Rattle.jlr_machine.specs.declared.object.Object.TheVariants.{Plain, Reference, Cleanable, Guard}
use Rattle.jlr_machine.specs.declared.object.Cleanable.{Cleanable as CleanableOf}
use Rattle.jlr_machine.specs.declared.object.CleanState.{CleanState}
use Rattle.jlr_machine.specs.declared.object.CleanState.TheVariants.{Pending as PendingClean, Lined, Spent}
use Rattle.jlr_machine.specs.declared.machine.Machine.{Machine}
use Rattle.jlr_machine.specs.declared.machine.Session.{Session}
use Rattle.jlr_machine.specs.declared.machine.Job.{Job as JobOf}
use Rattle.jlr_machine.specs.declared.machine.Resource.{Resource}
use Rattle.jlr_machine.specs.declared.machine.Call.{Call}
use Rattle.jlr_machine.specs.declared.machine.Call.TheVariants.{Free, Opening as CallOpening, Out as CallOut, Job as CallJob}
use Rattle.jlr_machine.specs.declared.machine.ResourceState.{ResourceState}
use Rattle.jlr_machine.specs.declared.machine.ResourceState.TheVariants.{Opening, Idle, Out, Closing}
use Rattle.jlr_machine.specs.Objects.{Table, Heap, at, ◌∈◌, is_rising, is_distinct}
use Rattle.jlr_machine.specs.Lookups.{with_job}
use Rattle.jlr_machine.specs.Calls.{spent}
use Rattle.jlr_machine.specs.WellFormed.{IsSessionAt, IsCleanableAt, IsObjectAt, HasResource, IsFencing, FitsItsCall, IsUnspent, HasWorker}
use Rattle.jlr_machine.specs.WellFormed.{IsJob, IsWellFormed, AreSlotsNamed, AreReferences, AreLists, AreSessions, AreActions, AreResources}
use Rattle.jlr_machine.specs.WellFormed.{AreCalls, ArePrivate, IsPrivate, OpeningHasRoom, IsCallOf, IsAction, clean_state_at}
use Rattle.jlr_machine.specs.WellFormed.{is_unspent_place}
use Rattle.jlr_laws.proofs.Frames.{no_some, some_same, IsRoot, root_gives, root_from, limits_stay, seen_stays}
use Rattle.jlr_laws.proofs.Frames.IsRoot.{held, fencing, named, waiting, lining, active}
use Rattle.jlr_laws.proofs.Keyed.{by_key, keyed_with, found_new, found_beside, rising_with, all_with, count_with, length_with}
use Rattle.jlr_laws.proofs.Changes.{cleanable_same, resource_same, HasCleanable, worker_over}
use Rattle.jlr_laws.proofs.Retouched.{IsRetouched, not_armed, back, over, cleanable_cases, alive, edges_back, active_back, state_same}
use Rattle.jlr_laws.proofs.Retouched.{clean_state_here, clean_state_beside, references_kept, queue_over, cleanable_there, private_back}

pub with_job-keyed : (jobs : List JobOf) (new : JobOf) → with_job jobs new ≡ keyed_with {A = JobOf} (λ job. job.action) jobs new
with_job-keyed [] new = refl
with_job-keyed (job ∷ jobs) new = ap (λ l. if nat_lt new.action job.action then new ∷ job ∷ jobs else job ∷ l) (with_job-keyed jobs new)

-- the session of the mutator that takes the job
pub record IsTaker (m : Machine) (by action : ℕ) (s : Session) : Type 0 where
  pub before : Session
  pub there : IsSessionAt m by before
  pub was_free : before.call ≡ Free
  pub handles : s.handles ≡ before.handles
  pub fence : s.fence ≡ None
  pub call : s.call ≡ CallJob action

abbrev pub has : List Resource → ℕ → ℕ → ResourceState → Type 0
has resources rid action state =
    by_key {A = Resource} (λ r. r.rid) resources rid ≡ Some (record { rid = rid; action = action; state = state })

pub record IsTakenUp (m : Machine) (heap : Heap) (mutators : Table Session) (line : List ℕ) (resources : List Resource) (by s : ℕ)
    (c : CleanableOf) : Type 0 where
  pub as_long : length heap ≡ length m.objects
  pub as_many : length mutators ≡ length m.mutators
  pub cleanable : IsCleanableAt m s c
  pub unspent : c.state ≡ Spent → ⊥
  pub here : at heap s ≡ Some (Cleanable (spent c))
  pub beside : (t : ℕ) → (t ≡ s → ⊥) → at heap t ≡ at m.objects t
  pub count : count_by is_unspent_place heap + 1 ≡ count_by is_unspent_place m.objects
  -- mutators
  pub sessions : (j : ℕ) (z : Session) → at mutators j ≡ Some z → ((j ≡ by) × IsTaker m by c.action z) ⊎ IsSessionAt m j z
  pub over : (j : ℕ) (z : Session) → IsSessionAt m j z → (z.call ≡ Free → ⊥) → at mutators j ≡ Some z
  pub called : (by ≡ 255 → ⊥) → (z : Session) × (at mutators by ≡ Some z) × (z.call ≡ CallJob c.action)
  pub cleaners : count_by (λ job. nat_eq job.by 255) m.jobs + cond (nat_eq by 255) 1 0 ≤ 1
  -- the line
  pub line_once : IsTrue (is_distinct line)
  pub line_less : (t : ℕ) → t ∈ line → t ∈ m.line
  pub line_left : (t : ℕ) → clean_state_at m t ≡ Some Lined → (t ≡ s → ⊥) → t ∈ line
  -- resources
  pub was_idle : (rid : ℕ) → c.work ≡ WorkOn rid → HasResource m rid c.action Idle
  pub closing : (rid : ℕ) → c.work ≡ WorkOn rid → has resources rid c.action Closing
  pub resource_cases : (rid action : ℕ) (state : ResourceState) → has resources rid action state → (c.work ≡ WorkOn rid)
      ⊎ HasResource m rid action state
  pub resource_over : (rid action : ℕ) (state : ResourceState) → (c.work ≡ WorkOn rid → ⊥) → HasResource m rid action state
      → has resources rid action state
  pub rising : IsTrue (is_rising (map (λ r. r.rid) resources))
  pub actions : AllByRecursion (λ r. IsAction m r.action) resources

module _ (m : Machine) (heap : Heap) (mutators : Table Session) (line : List ℕ) (resources : List Resource) (by s : ℕ) (c : CleanableOf)
    (w : IsWellFormed m) (x : IsTakenUp m heap mutators line resources by s c) where
  abbrev job : JobOf
  job = record { action = c.action; work = c.work; by = by }

  abbrev job_key : JobOf → ℕ
  job_key j = j.action

  abbrev n : Machine
  n = record m {
    objects =
        heap;
    mutators = mutators;
    line = line;
    jobs = keyed_with job_key m.jobs job;
    resources = resources;
    taken = m.taken + 1;
  }

  touched : IsRetouched m.objects heap s c (spent c)
  touched = record { there = x.cleanable; here = x.here; others = x.beside; action = refl; work = refl; referent = refl; passive = refl }

  was_unspent : IsUnspent m s c
  was_unspent = record { there = x.cleanable; unspent = x.unspent }

  no_job_yet : by_key job_key m.jobs c.action ≡ None
  no_job_yet = w.actions.apart s c was_unspent

  job_here : IsJob n job
  job_here = found_new job_key m.jobs job no_job_yet

  job_beside : (a : ℕ) → (a ≡ c.action → ⊥) → by_key job_key n.jobs a ≡ by_key job_key m.jobs a
  job_beside a d = found_beside job_key m.jobs job a (λ e. d (sym e))

  job_over : (a : ℕ) (j : JobOf) → by_key job_key m.jobs a ≡ Some j → by_key job_key n.jobs a ≡ Some j
  job_over a j e = job_beside a (λ p. no_some j (sym no_job_yet ∙ ap (by_key job_key m.jobs) (sym p) ∙ e)) ∙ e

  job_cases : (j : JobOf) → IsJob n j → (j ≡ job) ⊎ ((j.action ≡ c.action → ⊥) × IsJob m j)
  job_cases j e = elim (cases_eq j.action c.action) [
    | inl p ↦ inl (some_same j job (sym (subst (λ a. by_key job_key n.jobs a ≡ Some j) p e) ∙ job_here))
    | inr p ↦ inr (p, sym (job_beside j.action p) ∙ e)
  ]

  -- an unspent cleanable is another one, and was so
  unspent_back : (t : ℕ) (d : CleanableOf) → IsUnspent n t d → (t ≡ s → ⊥) × IsUnspent m t d
  unspent_back t d u = elim (cleanable_cases m heap s c (spent c) touched t d u.there) [
    | inl y ↦ absurd (u.unspent (ap (λ z. z.state) y.1))
    | inr y ↦ (y.0, record { there = y.1; unspent = u.unspent })
  ]

  unspent_over : (t : ℕ) (d : CleanableOf) → (t ≡ s → ⊥) → IsUnspent m t d → IsUnspent n t d
  unspent_over t d p u = record { there = x.beside t p ∙ u.there; unspent = u.unspent }

  -- this resource has no other cleanable
  other_work : (t rid : ℕ) (d : CleanableOf) → (t ≡ s → ⊥) → IsUnspent m t d → d.work ≡ WorkOn rid → c.work ≡ WorkOn rid → ⊥
  other_work t rid d p u e f =
      let r = w.resources.of_cleanables t rid d u e in
      let both = resource_same m rid d.action c.action r.0 Idle r.1 (x.was_idle rid f) in
      p (w.actions.cleanables t s d c u was_unspent both.0)

  -- a resource in another state than Closing is not this one
  not_this : (rid action : ℕ) (state : ResourceState) → (state ≡ Closing → ⊥) → has resources rid action state → (c.work ≡ WorkOn rid → ⊥)
      × HasResource m rid action state
  not_this rid action state d h =
      let apart : c.work ≡ WorkOn rid → ⊥ = λ e. d (resource_same n rid action c.action state Closing h (x.closing rid e)).1 in
      (apart, elim (x.resource_cases rid action state h) [ inl e ↦ absurd (apart e) | inr y ↦ y ])

  -- one that is Opening or Out was not this one
  was_not_this : (rid action : ℕ) (state : ResourceState) → (state ≡ Idle → ⊥) → HasResource m rid action state → c.work ≡ WorkOn rid → ⊥
  was_not_this rid action state d h e = d (resource_same m rid action c.action state Idle h (x.was_idle rid e)).1

  held_there : (j h t : ℕ) (session : Session) → IsSessionAt n j session → at session.handles h ≡ Some t → IsObjectAt m t
  held_there j h t session e f = elim (x.sessions j session e) [
    | inl y ↦ w.slots.roots t (root_from m t (held by h y.1.before y.1.there (ap (λ z. at z h) (sym y.1.handles) ∙ f)))
    | inr y ↦ w.slots.roots t (root_from m t (held j h session y f))
  ]

  fence_there : (j t : ℕ) (session : Session) → IsSessionAt n j session → session.fence ≡ Some t → IsObjectAt m t
  fence_there j t session e f = elim (x.sessions j session e) [
    | inl y ↦ no_some t (sym y.1.fence ∙ f)
    | inr y ↦ w.slots.roots t (root_from m t (fencing j session y f))
  ]

  root_there : (t : ℕ) → IsRoot n t → IsObjectAt m t
  root_there t (held j h session e f) = held_there j h t session e f
  root_there t (fencing j session e f) = fence_there j t session e f
  root_there t (named h) = w.slots.roots t (root_from m t (named h))
  root_there t (waiting h) = w.slots.roots t (root_from m t (waiting h))
  root_there t (lining h) = w.slots.roots t (root_from m t (lining (x.line_less t h)))
  root_there t (active h) = w.slots.roots t (root_from m t (active (active_back m heap s c (spent c) touched t h)))

  slots : AreSlotsNamed n
  slots =
      record {
        edges = λ t y h. alive m heap s c (spent c) touched y (w.slots.edges t y (edges_back m heap s c (spent c) touched t y h));
        roots = λ t h. alive m heap s c (spent c) touched t (root_there t (root_gives n t h));
        queues = λ t q r e f. queue_over m heap s c (spent c) touched q
            (w.slots.queues t q r (back m heap s c (spent c) touched t (Reference r) refl e) f);
        guarded = λ t g e. cleanable_there m heap s c (spent c) touched g.cleanable
            (w.slots.guarded t g (back m heap s c (spent c) touched t (Guard g) refl e));
      }

  references : AreReferences n
  references = let r = references_kept m heap s c (spent c) touched w.references in
      record { states = r.states; members = r.members; once = r.once; in_one = r.in_one }

  clean_state_back : (t : ℕ) (state : CleanState) → (state ≡ Spent → ⊥) → clean_state_at n t ≡ Some state → (t ≡ s → ⊥)
      × (clean_state_at m t ≡ Some state)
  clean_state_back t state d e = elim (cases_eq t s) [
    | inl p ↦ absurd (d (some_same state Spent (sym e ∙ ap (clean_state_at n) p ∙ clean_state_here m heap s c (spent c) touched)))
    | inr p ↦ (p, sym (clean_state_beside m heap s c (spent c) touched t p) ∙ e)
  ]

  clean_state_over : (t : ℕ) (state : CleanState) → clean_state_at m t ≡ Some state → (clean_state_at n t ≡ Some state)
      ⊎ (clean_state_at n t ≡ Some Spent)
  clean_state_over t state e = elim (cases_eq t s) [
    | inl p ↦ inr (ap (clean_state_at n) p ∙ clean_state_here m heap s c (spent c) touched)
    | inr p ↦ inl (clean_state_beside m heap s c (spent c) touched t p ∙ e)
  ]

  lists : AreLists n
  lists =
      record {
        pending_once = w.lists.pending_once;
        line_once = x.line_once;
        pending_references = λ t e. w.lists.pending_references t (sym (state_same m heap s c (spent c) touched t) ∙ e);
        pending_cleanables = λ t e. w.lists.pending_cleanables t (clean_state_back t PendingClean (λ z. absurd (cc z)) e).1;
        pending_others = λ t h. elim (w.lists.pending_others t h) [
          | inl e ↦ inl (state_same m heap s c (spent c) touched t ∙ e)
          | inr y ↦ inr (elim y [
            | inl e ↦ inl (state_same m heap s c (spent c) touched t ∙ e)
            | inr z ↦ inr (elim z [
              | inl e ↦ inl (state_same m heap s c (spent c) touched t ∙ e)
              | inr v ↦ inr (elim v [
                | inl e ↦ clean_state_over t PendingClean e
                | inr e ↦ elim (clean_state_over t Spent e) [ inl f ↦ inr f | inr f ↦ inr f ]
              ])
            ])
          ])
        ];
        lined = λ t e. let y = clean_state_back t Lined (λ z. absurd (cc z)) e in x.line_left t y.1 y.0;
        line_others = λ t h. elim (w.lists.line_others t (x.line_less t h)) [
          | inl e ↦ clean_state_over t Lined e
          | inr e ↦ elim (clean_state_over t Spent e) [ inl f ↦ inr f | inr f ↦ inr f ]
        ];
      }

  sessions_kept : AreSessions n
  sessions_kept =
      record {
        places = λ j z e. elim (x.sessions j z e) [
          | inl y ↦ subst (λ l. (length l ≡ 251) × (at l 0 ≡ None)) (sym y.1.handles) (w.sessions.places by y.1.before y.1.there)
          | inr y ↦ w.sessions.places j z y
        ];
        opening = λ j z e. elim (x.sessions j z e) [
          | inl y ↦ subst (λ call. OpeningHasRoom z call) (sym y.1.call) tt
          | inr y ↦ w.sessions.opening j z y
        ];
        names = w.sessions.names;
        names_limit = w.sessions.names_limit;
      }

  action_here : IsAction m c.action
  action_here = w.actions.of_cleanables s c x.cleanable

  actions_kept : AreActions n
  actions_kept =
      record {
        cleanables = λ t u d e p q. w.actions.cleanables t u d e (unspent_back t d p).1 (unspent_back u e q).1;
        apart = λ t d p.
            let y = unspent_back t d p in
            job_beside d.action (λ e. y.0 (w.actions.cleanables t s d c y.1 was_unspent e)) ∙ w.actions.apart t d y.1;
        jobs = rising_with job_key m.jobs job no_job_yet w.actions.jobs;
        of_cleanables = λ t d e. elim (cleanable_cases m heap s c (spent c) touched t d e) [
          | inl y ↦ subst (λ a. IsAction m a) (sym (ap (λ z. z.action) y.1)) action_here
          | inr y ↦ w.actions.of_cleanables t d y.1
        ];
        of_jobs = all_with job_key (λ j. IsAction m j.action) m.jobs job action_here w.actions.of_jobs;
        of_resources = x.actions;
        of_faults = w.actions.of_faults;
        referents = λ t d e a. elim (cleanable_cases m heap s c (spent c) touched t d e) [
          | inl y ↦ ap (λ z. z.referent) y.1
          | inr y ↦ w.actions.referents t d y.1 a
        ];
        cleaners = subst (λ z. z ≤ 1) (sym (count_with job_key (λ j. nat_eq j.by 255) m.jobs job)) x.cleaners;
        taken = omega (arith, w.actions.taken, length_with job_key m.jobs job);
        room = omega (arith, w.actions.room, x.count);
      }

  cleanable_over : (rid action : ℕ) → (c.work ≡ WorkOn rid → ⊥) → HasCleanable m rid action → HasCleanable n rid action
  cleanable_over rid action d h =
      let apart : h.0 ≡ s → ⊥ =
      λ e. d (ap (λ z. z.work) (cleanable_same m s c h.1 x.cleanable (subst (λ z. IsCleanableAt m z h.1) e h.2.there)) ∙ h.4) in
      (h.0, h.1, unspent_over h.0 h.1 apart h.2, h.3, h.4)

  worked_over : (rid action : ℕ) (state : ResourceState) → has resources rid action state → HasResource m rid action state
      → HasWorker n rid action state
  worked_over rid action state h y =
      let apart : c.work ≡ WorkOn rid → ⊥ = λ e.
      let idle = resource_same m rid action c.action state Idle y (x.was_idle rid e) in
      let shut = resource_same n rid action c.action state Closing h (x.closing rid e) in
      absurd (cc (idle.1, shut.1)) in
      worker_over m n rid action state (cleanable_over rid action apart) (λ z. (z.0, job_over z.0.action z.0 z.1, z.2, z.3))
      (w.resources.worked rid action state y)

  resources_kept : AreResources n
  resources_kept =
      record {
        rising = x.rising;
        worked = λ rid action state h. elim (x.resource_cases rid action state h) [
          | inl e ↦
              let both = resource_same n rid action c.action state Closing h (x.closing rid e) in
              subst (λ st. HasWorker n rid action st) (sym both.1) (job, job_here, sym both.0, e)
          | inr y ↦ worked_over rid action state h y
        ];
        of_cleanables = λ t rid d u e.
            let y = unspent_back t d u in
            let r = w.resources.of_cleanables t rid d y.1 e in
            (r.0, x.resource_over rid d.action r.0 (other_work t rid d y.0 y.1 e) r.1, r.2);
        idle = λ t rid d u e a.
            let y = unspent_back t d u in
            x.resource_over rid d.action Idle (other_work t rid d y.0 y.1 e) (w.resources.idle t rid d y.1 e a);
        of_jobs = λ j rid e f. elim (job_cases j e) [
          | inl p ↦ subst (λ a. has resources rid a Closing) (sym (ap (λ z. z.action) p)) (x.closing rid (ap (λ z. z.work) (sym p) ∙ f))
          | inr p ↦
              let r = w.resources.of_jobs j rid p.1 f in
              x.resource_over rid j.action Closing (was_not_this rid j.action Closing (λ z. absurd (cc z)) r) r
        ];
        one_guard = λ t u g h e f. w.resources.one_guard t u g h (back m heap s c (spent c) touched t (Guard g) refl e)
            (back m heap s c (spent c) touched u (Guard h) refl f);
        guards = λ t g d e f. elim (cleanable_cases m heap s c (spent c) touched g.cleanable d f) [
          | inl y ↦ inl (ap (λ z. z.state) y.1)
          | inr y ↦ elim (w.resources.guards t g d (back m heap s c (spent c) touched t (Guard g) refl e) y.1) [
            | inl a ↦ inl a
            | inr a ↦
                inr (record { armed = a.armed; referent = a.referent; work = a.work })
          ]
        ];
        guarded = λ t rid d e a f. elim (cleanable_cases m heap s c (spent c) touched t d e) [
          | inl y ↦ absurd (not_armed m heap s c (spent c) touched (ap (λ z. z.state) (sym y.1) ∙ a))
          | inr y ↦ let g = w.resources.guarded t rid d y.1 a f in
              (g.0, g.1, over m heap s c (spent c) touched g.0 (Guard g.1) refl g.2, g.3)
        ];
      }

  -- ---- Calls

  fencing_over : (z : Session) (rid : ℕ) (state : ResourceState) → (state ≡ Idle → ⊥) → IsFencing m z rid state → IsFencing n z rid state
  fencing_over z rid state d f =
      let other : c.work ≡ WorkOn rid → ⊥ = was_not_this rid f.2.action state d f.8 in
      let own : f.2.work ≡ WorkOn f.1.rid =
      elim (w.resources.guards f.0 f.1 f.2 f.4 f.6) [ inl e ↦ absurd (cc (e, f.7)) | inr o ↦ o.work ] in
      let apart : f.1.cleanable ≡ s → ⊥ = λ e. other (ap (λ z. z.work)
      (cleanable_same m s c f.2 x.cleanable (subst (λ z. IsCleanableAt m z f.2) e f.6)) ∙ own ∙ ap WorkOn f.5) in (
        f.0,
        f.1,
        f.2,
        f.3,
        over m heap s c (spent c) touched f.0 (Guard f.1) refl f.4,
        f.5,
        x.beside f.1.cleanable apart ∙ f.6,
        f.7,
        x.resource_over rid f.2.action state other f.8,
      )

  fits_over : (j : ℕ) (z : Session) (call : Call) → FitsItsCall m j z call → FitsItsCall n j z call
  fits_over j z Free f = f
  fits_over j z (CallOpening rid) f = fencing_over z rid Opening (λ e. absurd (cc e)) f
  fits_over j z (CallOut rid) f = fencing_over z rid Out (λ e. absurd (cc e)) f
  fits_over j z (CallJob action) f = (f.0, (f.1.0, job_over action f.1.0 f.1.1, f.1.2))

  call_over : (j : ℕ) (call : Call) → (call ≡ Free → ⊥) → IsCallOf m j call → IsCallOf n j call
  call_over j call d h = (h.0, x.over j h.0 h.1 (λ e. d (sym h.2 ∙ e)), h.2)

  -- no mutator had this job
  no_old_call : (j : ℕ) (z : Session) → IsSessionAt m j z → z.call ≡ CallJob c.action → ⊥
  no_old_call j z e f =
      let fits = subst (λ call. FitsItsCall m j z call) f (w.calls.calls j z e) in
      no_some fits.1.0 (sym no_job_yet ∙ fits.1.1)

  calls_kept : AreCalls n
  calls_kept =
      record {
        calls = λ j z e. elim (x.sessions j z e) [
          | inl y ↦ subst (λ call. FitsItsCall n j z call) (sym y.1.call) (y.1.fence, (job, job_here, sym y.0))
          | inr y ↦ fits_over j z z.call (w.calls.calls j z y)
        ];
        opening = λ rid action h.
            let r = w.calls.opening rid action (not_this rid action Opening (λ e. absurd (cc e)) h).1 in
            (r.0, call_over r.0 (CallOpening rid) (λ e. absurd (cc e)) r.1);
        out = λ rid action h.
            let r = w.calls.out rid action (not_this rid action Out (λ e. absurd (cc e)) h).1 in
            (r.0, call_over r.0 (CallOut rid) (λ e. absurd (cc e)) r.1);
        one_call = λ i j call a b d. elim (x.sessions i a.0 a.1) [
          | inl y ↦ elim (x.sessions j b.0 b.1) [
            | inl z ↦ y.0 ∙ sym z.0
            | inr z ↦ absurd (no_old_call j b.0 z (b.2 ∙ sym a.2 ∙ y.1.call))
          ]
          | inr y ↦ elim (x.sessions j b.0 b.1) [
            | inl z ↦ absurd (no_old_call i a.0 y (a.2 ∙ sym b.2 ∙ z.1.call))
            | inr z ↦ w.calls.one_call i j call (a.0, y, a.2) (b.0, z, b.2) d
          ]
        ];
        jobs = λ j e d. elim (job_cases j e) [
          | inl p ↦
              let by_is : j.by ≡ by = ap (λ z. z.by) p in
              let y = x.called (λ z. d (by_is ∙ z)) in
              (y.0, ap (at mutators) by_is ∙ y.1, y.2 ∙ ap CallJob (sym (ap (λ z. z.action) p)))
          | inr p ↦ call_over j.by (CallJob j.action) (λ z. absurd (cc z)) (w.calls.jobs j p.1 d)
        ];
      }

  private_was : (t : ℕ) → IsPrivate n t → IsPrivate m t
  private_was =
      private_back m heap s c (spent c) touched n (λ _. refl) (λ rid action h. (not_this rid action Opening (λ e. absurd (cc e)) h).1)

  unnamed : ArePrivate n
  unnamed =
      record {
        handles = λ j h t session e f p. elim (x.sessions j session e) [
          | inl y ↦ w.unnamed.handles by h t y.1.before y.1.there (ap (λ z. at z h) (sym y.1.handles) ∙ f) (private_was t p)
          | inr y ↦ w.unnamed.handles j h t session y f (private_was t p)
        ];
        names = λ t h p. w.unnamed.names t h (private_was t p);
        fields = λ u t fields e h p. w.unnamed.fields u t fields (back m heap s c (spent c) touched u (Plain fields) refl e) h
            (private_was t p);
        references =
            λ u t r e f p. w.unnamed.references u t r (back m heap s c (spent c) touched u (Reference r) refl e) f (private_was t p);
      }

  pub taken_up_is_well_formed : IsWellFormed n
  taken_up_is_well_formed =
      record {
        slots = slots;
        references = references;
        lists = lists;
        sessions = sessions_kept;
        actions = actions_kept;
        resources = resources_kept;
        calls = calls_kept;
        unnamed = unnamed;
        limits = limits_stay m n w.limits x.as_long x.as_many;
        faults = w.faults;
        notes = w.notes;
        seen_rising = w.seen_rising;
        seen_within = seen_stays m.seen m.objects heap w.seen_within (x.as_long);
        seen_in_cycle = w.seen_in_cycle;
      }
