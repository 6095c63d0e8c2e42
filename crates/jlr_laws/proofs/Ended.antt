-- A running job is over, and so is its resource; its mutator, if it had one, is free.
use Rattle.std.proofs.Common.{◌≡◌, ℕ, ◌+◌, ◌≤◌, List, length, refl, sym, ◌∙◌, ap, subst, ◌⊎◌, inl, inr, arith, Some, None, map, IsTrue}
use Rattle.std.proofs.Common.{nat_eq}
use Rattle.std.specs.List.{AllByRecursion}
use Rattle.std.proofs.lemmas.Bool.{cases_eq}
use Rattle.jlr_types.specs.declared.Work.TheVariants.{Resource as WorkOn}
use Rattle.jlr_machine.specs.declared.object.Cleanable.{Cleanable as CleanableOf}
use Rattle.jlr_machine.specs.declared.machine.Machine.{Machine}
use Rattle.jlr_machine.specs.declared.machine.Session.{Session}
use Rattle.jlr_machine.specs.declared.machine.Job.{Job as JobOf}
use Rattle.jlr_machine.specs.declared.machine.Resource.{Resource}
use Rattle.jlr_machine.specs.declared.machine.Call.{Call}
use Rattle.jlr_machine.specs.declared.machine.Call.TheVariants.{Free, Opening as CallOpening, Out as CallOut, Job as CallJob}
use Rattle.jlr_machine.specs.declared.machine.ResourceState.{ResourceState}
use Rattle.jlr_machine.specs.declared.machine.ResourceState.TheVariants.{Opening, Idle, Out, Closing}
use Rattle.jlr_machine.specs.Objects.{Table, at, is_rising}
use Rattle.jlr_machine.specs.WellFormed.{IsSessionAt, IsObjectAt, HasResource, IsFencing, FitsItsCall, IsUnspent, HasWorker, IsJob}
use Rattle.jlr_machine.specs.WellFormed.{IsWellFormed, AreSessions, AreActions, AreResources, AreCalls, ArePrivate, IsPrivate}
use Rattle.jlr_machine.specs.WellFormed.{OpeningHasRoom, IsCallOf, IsAction}
use Rattle.jlr_machine.specs.declared.machine.Failure.{Failure}
use Rattle.jlr_laws.proofs.Frames.{no_some, some_same, IsRoot, root_gives, root_from, limits_stay}
use Rattle.jlr_laws.proofs.Frames.IsRoot.{held, fencing, named, waiting, lining, active}
use Rattle.jlr_laws.proofs.Keyed.{by_key, keyed_without, found_gone, found_left, rising_without, all_without, count_without, length_without}
use Rattle.jlr_laws.proofs.Changes.{resource_same, HasCleanable, worker_over}
use Rattle.jlr_laws.proofs.TakenUp.{has}

-- the session of a mutator whose call is over
pub record IsFreed (m : Machine) (j : ℕ) (z : Session) : Type 0 where
  pub before : Session
  pub there : IsSessionAt m j before
  pub handles : z.handles ≡ before.handles
  pub fence : z.fence ≡ None
  pub call : z.call ≡ Free

pub record IsEnded (m : Machine) (mutators : Table Session) (resources : List Resource) (faults : List Failure) (notes : List ℕ)
    (ok failed : ℕ) (job : JobOf) : Type 0 where
  pub as_many : length mutators ≡ length m.mutators
  pub running : IsJob m job
  pub sessions : (j : ℕ) (z : Session) → at mutators j ≡ Some z → IsFreed m j z ⊎ (IsSessionAt m j z × (z.call ≡ CallJob job.action → ⊥))
  pub over : (j : ℕ) (z : Session) → IsSessionAt m j z → (z.call ≡ CallJob job.action → ⊥) → at mutators j ≡ Some z
  pub resource_cases : (rid action : ℕ) (state : ResourceState) → has resources rid action state → HasResource m rid action state
      × (job.work ≡ WorkOn rid → ⊥)
  pub resource_over : (rid action : ℕ) (state : ResourceState) → (job.work ≡ WorkOn rid → ⊥) → HasResource m rid action state
      → has resources rid action state
  pub rising : IsTrue (is_rising (map (λ r. r.rid) resources))
  pub actions : AllByRecursion (λ r. IsAction m r.action) resources
  pub of_faults : AllByRecursion (λ f. IsAction m f.action) faults
  pub faults_limit : length faults ≤ 256
  pub notes_limit : length notes ≤ 256
  pub sum : ok + failed ≡ m.ok + m.failed + 1

module _ (m : Machine) (mutators : Table Session) (resources : List Resource) (faults : List Failure) (notes : List ℕ) (ok failed : ℕ)
    (job : JobOf) (w : IsWellFormed m) (x : IsEnded m mutators resources faults notes ok failed job) where
  abbrev job_key : JobOf → ℕ
  job_key j = j.action

  abbrev n : Machine
  n = record m {
    mutators = mutators;
    jobs = keyed_without job_key m.jobs job.action;
    resources = resources;
    faults = faults;
    notes = notes;
    ok = ok;
    failed = failed;
  }

  job_over : (a : ℕ) (j : JobOf) → (a ≡ job.action → ⊥) → by_key job_key m.jobs a ≡ Some j → by_key job_key n.jobs a ≡ Some j
  job_over a j d e = found_left job_key m.jobs job.action a d ∙ e

  job_cases : (a : ℕ) (j : JobOf) → by_key job_key n.jobs a ≡ Some j → (a ≡ job.action → ⊥) × (by_key job_key m.jobs a ≡ Some j)
  job_cases a j e = elim (cases_eq a job.action) [
    | inl p ↦ no_some j (sym (found_gone job_key m.jobs job.action) ∙ ap (by_key job_key n.jobs) (sym p) ∙ e)
    | inr p ↦ (p, sym (found_left job_key m.jobs job.action a p) ∙ e)
  ]

  unspent_over : (s : ℕ) (c : CleanableOf) → IsUnspent m s c → IsUnspent n s c
  unspent_over s c u = record { there = u.there; unspent = u.unspent }

  unspent_back : (s : ℕ) (c : CleanableOf) → IsUnspent n s c → IsUnspent m s c
  unspent_back s c u = record { there = u.there; unspent = u.unspent }

  -- a resource in another state than Closing is not this one
  not_this : (rid action : ℕ) (state : ResourceState) → (state ≡ Closing → ⊥) → HasResource m rid action state → job.work ≡ WorkOn rid → ⊥
  not_this rid action state d h e = d (resource_same m rid action job.action state Closing h (w.resources.of_jobs job rid x.running e)).1

  -- ---- What mutators hold

  held_there : (j h t : ℕ) (session : Session) → IsSessionAt n j session → at session.handles h ≡ Some t → (k : ℕ) × (z : Session)
      × IsSessionAt m k z × (at z.handles h ≡ Some t)
  held_there j h t session e f = elim (x.sessions j session e) [
    | inl y ↦ (j, y.before, y.there, ap (λ l. at l h) (sym y.handles) ∙ f)
    | inr y ↦ (j, session, y.0, f)
  ]

  fence_there : (j t : ℕ) (session : Session) → IsSessionAt n j session → session.fence ≡ Some t → IsObjectAt m t
  fence_there j t session e f = elim (x.sessions j session e) [
    | inl y ↦ no_some t (sym y.fence ∙ f)
    | inr y ↦ w.slots.roots t (root_from m t (fencing j session y.0 f))
  ]

  root_there : (t : ℕ) → IsRoot n t → IsObjectAt m t
  root_there t (held j h session e f) = let r = held_there j h t session e f in w.slots.roots t (root_from m t (held r.0 h r.1 r.2 r.3))
  root_there t (fencing j session e f) = fence_there j t session e f
  root_there t (named h) = w.slots.roots t (root_from m t (named h))
  root_there t (waiting h) = w.slots.roots t (root_from m t (waiting h))
  root_there t (lining h) = w.slots.roots t (root_from m t (lining h))
  root_there t (active h) = w.slots.roots t (root_from m t (active h))

  sessions_kept : AreSessions n
  sessions_kept =
      record {
        places = λ j z e. elim (x.sessions j z e) [
          | inl y ↦ subst (λ l. (length l ≡ 251) × (at l 0 ≡ None)) (sym y.handles) (w.sessions.places j y.before y.there)
          | inr y ↦ w.sessions.places j z y.0
        ];
        opening = λ j z e. elim (x.sessions j z e) [
          | inl y ↦ subst (λ call. OpeningHasRoom z call) (sym y.call) tt
          | inr y ↦ w.sessions.opening j z y.0
        ];
        names = w.sessions.names;
        names_limit = w.sessions.names_limit;
      }

  no_job : (a : ℕ) → by_key job_key m.jobs a ≡ None → by_key job_key n.jobs a ≡ None
  no_job a e = elim (cases_eq a job.action) [
    | inl p ↦ ap (by_key job_key n.jobs) p ∙ found_gone job_key m.jobs job.action
    | inr p ↦ found_left job_key m.jobs job.action a p ∙ e
  ]

  actions_kept : AreActions n
  actions_kept =
      record {
        cleanables = λ s t c d p q. w.actions.cleanables s t c d (unspent_back s c p) (unspent_back t d q);
        apart = λ s c p. no_job c.action (w.actions.apart s c (unspent_back s c p));
        jobs = rising_without job_key m.jobs job.action w.actions.jobs;
        of_cleanables = w.actions.of_cleanables;
        of_jobs = all_without job_key (λ j. IsAction m j.action) m.jobs job.action w.actions.of_jobs;
        of_resources = x.actions;
        of_faults = x.of_faults;
        referents = w.actions.referents;
        cleaners = omega (arith, count_without job_key (λ j. nat_eq j.by 255) m.jobs job.action, w.actions.cleaners);
        taken = omega (arith, w.actions.taken, x.sum, length_without job_key m.jobs job.action job w.actions.jobs x.running);
        room = w.actions.room;
      }

  cleanable_over : (rid action : ℕ) → HasCleanable m rid action → HasCleanable n rid action
  cleanable_over rid action h = (h.0, h.1, unspent_over h.0 h.1 h.2, h.3, h.4)

  worker_left : (rid action : ℕ) → (job.work ≡ WorkOn rid → ⊥) → HasWorker m rid action Closing → HasWorker n rid action Closing
  worker_left rid action d h =
      let apart : h.0.action ≡ job.action → ⊥ = λ p.
      let same : h.0 ≡ job = some_same h.0 job (sym h.1 ∙ ap (by_key job_key m.jobs) p ∙ x.running) in
      d (ap (λ z. z.work) (sym same) ∙ h.3) in
      (h.0, job_over h.0.action h.0 apart h.1, h.2, h.3)

  resources_kept : AreResources n
  resources_kept =
      record {
        rising = x.rising;
        worked = λ rid action state h.
            let y = x.resource_cases rid action state h in
            worker_over m n rid action state (cleanable_over rid action) (worker_left rid action y.1)
            (w.resources.worked rid action state y.0);
        of_cleanables = λ s rid c u e.
            let r = w.resources.of_cleanables s rid c (unspent_back s c u) e in
            (r.0, x.resource_over rid c.action r.0 (not_this rid c.action r.0 r.2 r.1) r.1, r.2);
        idle = λ s rid c u e a.
            let r = w.resources.idle s rid c (unspent_back s c u) e a in
            x.resource_over rid c.action Idle (not_this rid c.action Idle (λ z. absurd (cc z)) r) r;
        of_jobs = λ j rid e f.
            let y = job_cases j.action j e in
            let r = w.resources.of_jobs j rid y.1 f in
            x.resource_over rid j.action Closing (λ p. y.0
            (resource_same m rid j.action job.action Closing Closing r (w.resources.of_jobs job rid x.running p)).0) r;
        one_guard = w.resources.one_guard;
        guards = λ s g c e f. elim (w.resources.guards s g c e f) [
          | inl y ↦ inl y
          | inr y ↦
              inr (record { armed = y.armed; referent = y.referent; work = y.work })
        ];
        guarded = w.resources.guarded;
      }

  -- ---- Calls

  fencing_over : (z : Session) (rid : ℕ) (state : ResourceState) → (state ≡ Closing → ⊥) → IsFencing m z rid state → IsFencing n z rid state
  fencing_over z rid state d f =
      (f.0, f.1, f.2, f.3, f.4, f.5, f.6, f.7, x.resource_over rid f.2.action state (not_this rid f.2.action state d f.8) f.8)

  fits_over : (j : ℕ) (z : Session) (call : Call) → (call ≡ CallJob job.action → ⊥) → FitsItsCall m j z call → FitsItsCall n j z call
  fits_over j z Free d f = f
  fits_over j z (CallOpening rid) d f = fencing_over z rid Opening (λ e. absurd (cc e)) f
  fits_over j z (CallOut rid) d f = fencing_over z rid Out (λ e. absurd (cc e)) f
  fits_over j z (CallJob action) d f = (f.0, (f.1.0, job_over action f.1.0 (λ p. d (ap CallJob p)) f.1.1, f.1.2))

  call_over : (j : ℕ) (call : Call) → (call ≡ CallJob job.action → ⊥) → IsCallOf m j call → IsCallOf n j call
  call_over j call d h = (h.0, x.over j h.0 h.1 (λ e. d (sym h.2 ∙ e)), h.2)

  calls_kept : AreCalls n
  calls_kept =
      record {
        calls = λ j z e. elim (x.sessions j z e) [
          | inl y ↦ subst (λ call. FitsItsCall n j z call) (sym y.call) y.fence
          | inr y ↦ fits_over j z z.call y.1 (w.calls.calls j z y.0)
        ];
        opening = λ rid action h.
            let r = w.calls.opening rid action (x.resource_cases rid action Opening h).0 in
            (r.0, call_over r.0 (CallOpening rid) (λ e. absurd (cc e)) r.1);
        out = λ rid action h.
            let r = w.calls.out rid action (x.resource_cases rid action Out h).0 in
            (r.0, call_over r.0 (CallOut rid) (λ e. absurd (cc e)) r.1);
        one_call = λ i j call a b d. elim (x.sessions i a.0 a.1) [
          | inl y ↦ absurd (d (sym a.2 ∙ y.call))
          | inr y ↦ elim (x.sessions j b.0 b.1) [
            | inl z ↦ absurd (d (sym b.2 ∙ z.call))
            | inr z ↦ w.calls.one_call i j call (a.0, y.0, a.2) (b.0, z.0, b.2) d
          ]
        ];
        jobs = λ j e d.
            let y = job_cases j.action j e in
            call_over j.by (CallJob j.action) (λ z. let same : j.action ≡ job.action = cc z in y.0 same) (w.calls.jobs j y.1 d);
      }

  private_back : (s : ℕ) → IsPrivate n s → IsPrivate m s
  private_back s (inl p) = inl p
  private_back s (inr p) = inr (p.0, p.1, p.2, p.3, p.4, (x.resource_cases p.0.rid p.1.action Opening p.5).0)

  unnamed : ArePrivate n
  unnamed =
      record {
        handles = λ j h s session e f p. let r = held_there j h s session e f in w.unnamed.handles r.0 h s r.1 r.2 r.3 (private_back s p);
        names = λ s h p. w.unnamed.names s h (private_back s p);
        fields = λ t s fields e h p. w.unnamed.fields t s fields e h (private_back s p);
        references = λ t s r e f p. w.unnamed.references t s r e f (private_back s p);
      }

  pub ended_is_well_formed : IsWellFormed n
  ended_is_well_formed =
      record {
        slots = record {
          edges =
              w.slots.edges;
          roots = λ s h. root_there s (root_gives n s h);
          queues = w.slots.queues;
          guarded = w.slots.guarded;
        };
        references =
            record { states = w.references.states; members = w.references.members; once = w.references.once; in_one = w.references.in_one };
        lists = record {
          pending_once = w.lists.pending_once;
          line_once = w.lists.line_once;
          pending_references =
              w.lists.pending_references;
          pending_cleanables =
              w.lists.pending_cleanables;
          pending_others = w.lists.pending_others;
          lined = w.lists.lined;
          line_others = w.lists.line_others;
        };
        sessions = sessions_kept;
        actions = actions_kept;
        resources = resources_kept;
        calls = calls_kept;
        unnamed = unnamed;
        limits = limits_stay m n w.limits refl x.as_many;
        faults = x.faults_limit;
        notes = x.notes_limit;
        seen_rising = w.seen_rising;
        seen_within = w.seen_within;
        seen_in_cycle = w.seen_in_cycle;
      }
