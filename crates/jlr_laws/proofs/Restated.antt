-- CheckOut, CheckIn and a successful Opened: the resource of an Armed cleanable gets another state, and its mutator another call.
use Rattle.std.proofs.Common.{◌≡◌, ℕ, List, length, refl, sym, ◌∙◌, ap, subst, ◌⊎◌, inl, inr, Some, None, is_some, IsTrue}
use Rattle.std.proofs.lemmas.Bool.{cases_eq}
use Rattle.jlr_types.specs.declared.Work.TheVariants.{Resource as WorkOn}
use Rattle.jlr_machine.specs.declared.object.Object.TheVariants.{Cleanable, Guard}
use Rattle.jlr_machine.specs.declared.object.Cleanable.{Cleanable as CleanableOf}
use Rattle.jlr_machine.specs.declared.object.Guard.{Guard as GuardOf}
use Rattle.jlr_machine.specs.declared.object.CleanState.TheVariants.{Armed}
use Rattle.jlr_machine.specs.declared.machine.Machine.{Machine}
use Rattle.jlr_machine.specs.declared.machine.Session.{Session}
use Rattle.jlr_machine.specs.declared.machine.Resource.{Resource}
use Rattle.jlr_machine.specs.declared.machine.Call.{Call}
use Rattle.jlr_machine.specs.declared.machine.Call.TheVariants.{Free, Opening as CallOpening, Out as CallOut, Job as CallJob}
use Rattle.jlr_machine.specs.declared.machine.ResourceState.{ResourceState}
use Rattle.jlr_machine.specs.declared.machine.ResourceState.TheVariants.{Opening, Idle, Out, Closing}
use Rattle.jlr_machine.specs.Objects.{Table, at, is_rising}
use Rattle.jlr_machine.specs.WellFormed.{IsSessionAt, IsGuardAt, IsCleanableAt, IsObjectAt, HasResource, IsFencing, FitsItsCall, IsUnspent}
use Rattle.jlr_machine.specs.WellFormed.{IsWellFormed, AreSlotsNamed, AreSessions, AreActions, AreResources, AreCalls, ArePrivate}
use Rattle.jlr_machine.specs.WellFormed.{IsPrivate, IsOwnGuard, OpeningHasRoom, IsCallOf, IsAction}
use Rattle.jlr_laws.proofs.Frames.{no_some, some_same, IsRoot, root_gives, root_from, limits_stay}
use Rattle.jlr_laws.proofs.Frames.IsRoot.{held, fencing, named, waiting, lining, active}
use Rattle.jlr_laws.proofs.Keyed.{by_key, changed, keys_changed, found_changed, found_unchanged, all_changed}
use Rattle.jlr_laws.proofs.Changes.{session_same, guard_same, cleanable_same, resource_same, resource_moved, HasCleanable, worker_from}
use Rattle.jlr_laws.proofs.Changes.{worker_over, IsElsewhere}

-- the resources with this one in that state
abbrev pub restated : List Resource → ℕ → ResourceState → List Resource
restated resources rid state = changed {A = Resource} (λ r. r.rid) (λ r. record r { state = state }) resources rid

-- what the ask has to say
pub record IsRestated (m : Machine) (mutators : Table Session) (k : ℕ) (old new : Session) (t : ℕ) (g : GuardOf) (c : CleanableOf)
    (was state : ResourceState) : Type 0 where
  pub as_many : length mutators ≡ length m.mutators
  pub there : IsSessionAt m k old
  pub here : at mutators k ≡ Some new
  pub others : (j : ℕ) → (j ≡ k → ⊥) → at mutators j ≡ at m.mutators j
  pub guard : IsGuardAt m t g
  pub cleanable : IsCleanableAt m g.cleanable c
  pub armed : c.state ≡ Armed
  pub resource : HasResource m g.rid c.action was
  pub was_not_closing : was ≡ Closing → ⊥
  pub not_closing : state ≡ Closing → ⊥
  pub not_opening : state ≡ Opening → ⊥
  pub alone : (j : ℕ) (s : Session) → (j ≡ k → ⊥) → IsSessionAt m j s → IsElsewhere s g.rid
  -- the old call is this resource's, if it is one
  pub old_opening : (rid : ℕ) → old.call ≡ CallOpening rid → rid ≡ g.rid
  pub old_out : (rid : ℕ) → old.call ≡ CallOut rid → rid ≡ g.rid
  pub old_job : (action : ℕ) → old.call ≡ CallJob action → ⊥
  -- the new one too
  pub new_out : state ≡ Out → new.call ≡ CallOut g.rid
  pub new_call : (new.call ≡ Free) ⊎ ((new.call ≡ CallOut g.rid) × (state ≡ Out))
  pub free_fence : new.call ≡ Free → new.fence ≡ None
  pub out_fence : new.call ≡ CallOut g.rid → new.fence ≡ Some t
  pub places : (length new.handles ≡ 251) × (at new.handles 0 ≡ None)
  pub handles : (h s : ℕ) → at new.handles h ≡ Some s → (at old.handles h ≡ Some s) ⊎ (s ≡ t)

module _ (m : Machine) (mutators : Table Session) (k : ℕ) (old new : Session) (t : ℕ) (g : GuardOf) (c : CleanableOf)
    (was state : ResourceState) (w : IsWellFormed m) (x : IsRestated m mutators k old new t g c was state) where
  abbrev n : Machine
  n = record m { mutators = mutators; resources = restated m.resources g.rid state }

  keeps_rid : (r : Resource) → (record r { state = state }).rid ≡ r.rid
  keeps_rid r = refl

  here_now : HasResource n g.rid c.action state
  here_now = found_changed {A = Resource} (λ r. r.rid) (λ r. record r { state = state }) keeps_rid m.resources g.rid
      (record { rid = g.rid; action = c.action; state = was }) x.resource

  elsewhere : (rid : ℕ) → (rid ≡ g.rid → ⊥) → by_key {A = Resource} (λ r. r.rid) n.resources rid ≡ by_key {A = Resource} (λ r. r.rid)
      m.resources rid
  elsewhere rid d = found_unchanged {A = Resource} (λ r. r.rid) (λ r. record r { state = state }) keeps_rid m.resources g.rid rid d

  -- a resource of the new machine is this one, or an old one
  resource_cases : (rid action : ℕ) (s : ResourceState) → HasResource n rid action s → ((rid ≡ g.rid) × (action ≡ c.action) × (s ≡ state))
      ⊎ ((rid ≡ g.rid → ⊥) × HasResource m rid action s)
  resource_cases rid action s h = elim (cases_eq rid g.rid) [
    | inl e ↦
        let both = resource_same n g.rid action c.action s state (subst (λ r. HasResource n r action s) e h) here_now in
        inl (e, both.0, both.1)
    | inr d ↦ inr (d, sym (elsewhere rid d) ∙ h)
  ]

  resource_over : (rid action : ℕ) (s : ResourceState) → (rid ≡ g.rid → ⊥) → HasResource m rid action s → HasResource n rid action s
  resource_over rid action s d h = elsewhere rid d ∙ h

  -- a session is the new one, or an old one
  session_cases : (j : ℕ) (s : Session) → IsSessionAt n j s → ((j ≡ k) × (s ≡ new)) ⊎ ((j ≡ k → ⊥) × IsSessionAt m j s)
  session_cases j s h = elim (cases_eq j k) [
    | inl e ↦ inl (e, some_same s new (sym (subst (λ i. at mutators i ≡ Some s) e h) ∙ x.here))
    | inr d ↦ inr (d, sym (x.others j d) ∙ h)
  ]

  unspent_over : (s : ℕ) (d : CleanableOf) → IsUnspent m s d → IsUnspent n s d
  unspent_over s d u = record { there = u.there; unspent = u.unspent }

  unspent_back : (s : ℕ) (d : CleanableOf) → IsUnspent n s d → IsUnspent m s d
  unspent_back s d u = record { there = u.there; unspent = u.unspent }

  here_unspent : IsUnspent m g.cleanable c
  here_unspent = record { there = x.cleanable; unspent = λ e. absurd (cc (e, x.armed)) }

  own : IsOwnGuard m t g c
  own = elim (w.resources.guards t g c x.guard x.cleanable) [ inl e ↦ absurd (cc (e, x.armed)) | inr o ↦ o ]

  guard_there : IsObjectAt m t
  guard_there = ap is_some x.guard

  held_there : (j h s : ℕ) (session : Session) → IsSessionAt n j session → at session.handles h ≡ Some s → IsObjectAt m s
  held_there j h s session e f = elim (session_cases j session e) [
    | inl y ↦ elim (x.handles h s (ap (λ z. at z.handles h) (sym y.1) ∙ f)) [
      | inl p ↦ w.slots.roots s (root_from m s (held k h old x.there p))
      | inr p ↦ subst (λ z. IsObjectAt m z) (sym p) guard_there
    ]
    | inr y ↦ w.slots.roots s (root_from m s (held j h session y.1 f))
  ]

  fence_is : (s : ℕ) → new.fence ≡ Some s → s ≡ t
  fence_is s f = elim x.new_call [
    | inl e ↦ no_some s (sym (x.free_fence e) ∙ f)
    | inr e ↦ some_same s t (sym f ∙ x.out_fence e.0)
  ]

  fence_there : (j s : ℕ) (session : Session) → IsSessionAt n j session → session.fence ≡ Some s → IsObjectAt m s
  fence_there j s session e f = elim (session_cases j session e) [
    | inl y ↦ subst (λ z. IsObjectAt m z) (sym (fence_is s (ap (λ z. z.fence) (sym y.1) ∙ f))) guard_there
    | inr y ↦ w.slots.roots s (root_from m s (fencing j session y.1 f))
  ]

  root_there : (s : ℕ) → IsRoot n s → IsObjectAt m s
  root_there s (held j h session e f) = held_there j h s session e f
  root_there s (fencing j session e f) = fence_there j s session e f
  root_there s (named h) = w.slots.roots s (root_from m s (named h))
  root_there s (waiting h) = w.slots.roots s (root_from m s (waiting h))
  root_there s (lining h) = w.slots.roots s (root_from m s (lining h))
  root_there s (active h) = w.slots.roots s (root_from m s (active h))

  slots : AreSlotsNamed n
  slots = record {
    edges =
        w.slots.edges;
    roots = λ s h. root_there s (root_gives n s h);
    queues = w.slots.queues;
    guarded = w.slots.guarded;
  }

  has_room : (call : Call) → (call ≡ Free) ⊎ ((call ≡ CallOut g.rid) × (state ≡ Out)) → OpeningHasRoom new call
  has_room call (inl e) = subst (λ z. OpeningHasRoom new z) (sym e) tt
  has_room call (inr e) = subst (λ z. OpeningHasRoom new z) (sym e.0) tt

  sessions_kept : AreSessions n
  sessions_kept =
      record {
        places = λ j s h. elim (session_cases j s h) [
          | inl y ↦
              subst (λ z. (length z.handles ≡ 251) × (at z.handles 0 ≡ None)) (sym y.1) x.places
          | inr y ↦ w.sessions.places j s y.1
        ];
        opening = λ j s h. elim (session_cases j s h) [
          | inl y ↦
              subst (λ z. OpeningHasRoom z z.call) (sym y.1) (has_room new.call x.new_call)
          | inr y ↦ w.sessions.opening j s y.1
        ];
        names = w.sessions.names;
        names_limit = w.sessions.names_limit;
      }

  actions_kept : AreActions n
  actions_kept =
      record {
        cleanables = λ s u d e p q. w.actions.cleanables s u d e (unspent_back s d p) (unspent_back u e q);
        apart = λ s d p. w.actions.apart s d (unspent_back s d p);
        jobs = w.actions.jobs;
        of_cleanables = w.actions.of_cleanables;
        of_jobs = w.actions.of_jobs;
        of_resources = all_changed {A = Resource} (λ r. r.rid) (λ r. record r { state = state }) keeps_rid (λ r. IsAction n r.action)
            (λ r h. h) m.resources g.rid w.actions.of_resources;
        of_faults = w.actions.of_faults;
        referents = w.actions.referents;
        cleaners = w.actions.cleaners;
        taken = w.actions.taken;
        room = w.actions.room;
      }

  cleanable_over : (rid action : ℕ) → HasCleanable m rid action → HasCleanable n rid action
  cleanable_over rid action h = (h.0, h.1, unspent_over h.0 h.1 h.2, h.3, h.4)

  -- the cleanable that works on this resource
  same_worker : (s : ℕ) (d : CleanableOf) → IsUnspent m s d → d.work ≡ WorkOn g.rid → (s ≡ g.cleanable) × (d.action ≡ c.action)
  same_worker s d u e =
      let r = w.resources.of_cleanables s g.rid d u e in
      let both = resource_same m g.rid d.action c.action r.0 was r.1 x.resource in
      (w.actions.cleanables s g.cleanable d c u here_unspent both.0, both.0)

  resources_kept : AreResources n
  resources_kept =
      record {
        rising = subst (λ l. IsTrue (is_rising l)) (sym
            (keys_changed {A = Resource} (λ r. r.rid) (λ r. record r { state = state }) keeps_rid m.resources g.rid)) w.resources.rising;
        worked = λ rid action s h. elim (resource_cases rid action s h) [
          | inl y ↦ worker_from n rid action s (λ e. x.not_closing (sym y.2 ∙ e))
              (g.cleanable, c, unspent_over g.cleanable c here_unspent, sym y.1, own.work ∙ ap WorkOn (sym y.0))
          | inr y ↦ worker_over m n rid action s (cleanable_over rid action) (λ z. z) (w.resources.worked rid action s y.1)
        ];
        of_cleanables = λ s rid d u e. elim (cases_eq rid g.rid) [
          | inl p ↦
              let both = same_worker s d (unspent_back s d u) (e ∙ ap WorkOn p) in (
                state,
                subst (λ r. HasResource n r d.action state) (sym p)
                    (resource_moved n g.rid c.action d.action state state (sym both.1) refl here_now),
                x.not_closing,
              )
          | inr p ↦ let r = w.resources.of_cleanables s rid d (unspent_back s d u) e in (r.0, resource_over rid d.action r.0 p r.1, r.2)
        ];
        idle = λ s rid d u e a. elim (cases_eq rid g.rid) [
          | inl p ↦
              let both = same_worker s d (unspent_back s d u) (e ∙ ap WorkOn p) in
              absurd (a (ap (λ z. z.state) (cleanable_same m s d c u.there (subst (λ z. IsCleanableAt m z c) (sym both.0) x.cleanable))
              ∙ x.armed))
          | inr p ↦ resource_over rid d.action Idle p (w.resources.idle s rid d (unspent_back s d u) e a)
        ];
        of_jobs = λ job rid j e. elim (cases_eq rid g.rid) [
          | inl p ↦
              let both = resource_same m g.rid job.action c.action Closing was
              (subst (λ r. HasResource m r job.action Closing) p (w.resources.of_jobs job rid j e)) x.resource in
              absurd (x.was_not_closing (sym both.1))
          | inr p ↦ resource_over rid job.action Closing p (w.resources.of_jobs job rid j e)
        ];
        one_guard = w.resources.one_guard;
        guards = λ s h d e f. elim (w.resources.guards s h d e f) [
          | inl y ↦ inl y
          | inr y ↦
              inr (record { armed = y.armed; referent = y.referent; work = y.work })
        ];
        guarded = w.resources.guarded;
      }

  -- ---- Calls

  fencing_over : (s : Session) (rid : ℕ) (st : ResourceState) → (rid ≡ g.rid → ⊥) → IsFencing m s rid st → IsFencing n s rid st
  fencing_over s rid st d f = (f.0, f.1, f.2, f.3, f.4, f.5, f.6, f.7, resource_over rid f.2.action st d f.8)

  fits_over : (j : ℕ) (s : Session) (call : Call) → s.call ≡ call → IsElsewhere s g.rid → FitsItsCall m j s call → FitsItsCall n j s call
  fits_over j s Free e a f = f
  fits_over j s (CallOpening rid) e a f = fencing_over s rid Opening (λ p. a.not_opening (e ∙ ap CallOpening p)) f
  fits_over j s (CallOut rid) e a f = fencing_over s rid Out (λ p. a.not_out (e ∙ ap CallOut p)) f
  fits_over j s (CallJob action) e a f = f

  fits_new : FitsItsCall n k new new.call
  fits_new = elim x.new_call [
    | inl e ↦ subst (λ z. FitsItsCall n k new z) (sym e) (x.free_fence e)
    | inr e ↦ subst (λ z. FitsItsCall n k new z) (sym e.0) (
      t,
      g,
      c,
      x.out_fence e.0,
      x.guard,
      refl,
      x.cleanable,
      x.armed,
      resource_moved n g.rid c.action c.action state Out refl e.1 here_now,
    )
  ]

  -- a call of the new machine is the new session's, or an old one
  call_over : (j : ℕ) (call : Call) → (j ≡ k → ⊥) → IsCallOf m j call → IsCallOf n j call
  call_over j call d h = (h.0, x.others j d ∙ h.1, h.2)

  alone_in_call : (j : ℕ) (s : Session) → (j ≡ k → ⊥) → IsSessionAt m j s → s.call ≡ new.call → (new.call ≡ Free → ⊥) → ⊥
  alone_in_call j s d h e f = elim x.new_call [
    | inl y ↦ f y
    | inr y ↦ (x.alone j s d h).not_out (e ∙ y.0)
  ]

  calls_kept : AreCalls n
  calls_kept =
      record {
        calls = λ j s h. elim (session_cases j s h) [
          | inl y ↦ subst (λ i. FitsItsCall n i s s.call) (sym y.0) (subst (λ z. FitsItsCall n k z z.call) (sym y.1) fits_new)
          | inr y ↦ fits_over j s s.call refl (x.alone j s y.0 y.1) (w.calls.calls j s y.1)
        ];
        opening = λ rid action h. elim (resource_cases rid action Opening h) [
          | inl y ↦ absurd (x.not_opening (sym y.2))
          | inr y ↦
              let old_call = w.calls.opening rid action y.1 in (
                old_call.0,
                call_over old_call.0 (CallOpening rid)
                    (λ e. y.0 (x.old_opening rid (ap (λ z. z.call)
                    (session_same m k old old_call.1.0 x.there (subst (λ i. IsSessionAt m i old_call.1.0) e old_call.1.1))
                    ∙ old_call.1.2)))
                    old_call.1,
              )
        ];
        out = λ rid action h. elim (resource_cases rid action Out h) [
          | inl y ↦ (k, (new, x.here, x.new_out (sym y.2) ∙ ap CallOut (sym y.0)))
          | inr y ↦
              let old_call = w.calls.out rid action y.1 in (
                old_call.0,
                call_over old_call.0 (CallOut rid)
                    (λ e. y.0 (x.old_out rid (ap (λ z. z.call)
                    (session_same m k old old_call.1.0 x.there (subst (λ i. IsSessionAt m i old_call.1.0) e old_call.1.1))
                    ∙ old_call.1.2)))
                    old_call.1,
              )
        ];
        one_call = λ i j call a b d. elim (session_cases i a.0 a.1) [
          | inl y ↦ elim (session_cases j b.0 b.1) [
            | inl z ↦ y.0 ∙ sym z.0
            | inr z ↦ absurd (alone_in_call j b.0 z.0 z.1 (b.2 ∙ sym a.2 ∙ ap (λ s. s.call) y.1)
                (λ e. d (sym a.2 ∙ ap (λ s. s.call) y.1 ∙ e)))
          ]
          | inr y ↦ elim (session_cases j b.0 b.1) [
            | inl z ↦ absurd (alone_in_call i a.0 y.0 y.1 (a.2 ∙ sym b.2 ∙ ap (λ s. s.call) z.1)
                (λ e. d (sym b.2 ∙ ap (λ s. s.call) z.1 ∙ e)))
            | inr z ↦ w.calls.one_call i j call (a.0, y.1, a.2) (b.0, z.1, b.2) d
          ]
        ];
        jobs = λ job j d.
            let old_call = w.calls.jobs job j d in
            call_over job.by (CallJob job.action)
            (λ e. x.old_job job.action (ap (λ z. z.call) (session_same m k old old_call.0 x.there
            (subst (λ i. IsSessionAt m i old_call.0) e old_call.1)) ∙ old_call.2))
            old_call;
      }

  -- ---- What nobody names

  private_back : (s : ℕ) → IsPrivate n s → IsPrivate m s
  private_back s (inl p) = inl p
  private_back s (inr p) = elim (resource_cases p.0.rid p.1.action Opening p.5) [
    | inl y ↦ absurd (x.not_opening (sym y.2))
    | inr y ↦ inr (p.0, p.1, p.2, p.3, p.4, y.1)
  ]

  guard_open : ¬ (IsPrivate n t)
  guard_open (inl p) = let both : Some (Guard g) ≡ Some (Cleanable p.0) = sym x.guard ∙ p.2 in absurd (cc both)
  guard_open (inr p) =
      let same = guard_same m t p.0 g p.2 x.guard in
      elim (resource_cases p.0.rid p.1.action Opening p.5) [
        | inl y ↦ absurd (x.not_opening (sym y.2))
        | inr y ↦ absurd (y.0 (ap (λ z. z.rid) same))
      ]

  unnamed : ArePrivate n
  unnamed =
      record {
        handles = λ j h s session e f p. elim (session_cases j session e) [
          | inl y ↦ elim (x.handles h s (ap (λ z. at z.handles h) (sym y.1) ∙ f)) [
            | inl q ↦ w.unnamed.handles k h s old x.there q (private_back s p)
            | inr q ↦ guard_open (subst (λ z. IsPrivate n z) q p)
          ]
          | inr y ↦ w.unnamed.handles j h s session y.1 f (private_back s p)
        ];
        names = λ s h p. w.unnamed.names s h (private_back s p);
        fields = λ u s fields e h p. w.unnamed.fields u s fields e h (private_back s p);
        references = λ u s r e f p. w.unnamed.references u s r e f (private_back s p);
      }

  pub restated_is_well_formed : IsWellFormed n
  restated_is_well_formed =
      record {
        slots = slots;
        references =
            record { states = w.references.states; members = w.references.members; once = w.references.once; in_one = w.references.in_one };
        lists = record {
          pending_once = w.lists.pending_once;
          line_once = w.lists.line_once;
          pending_references =
              w.lists.pending_references;
          pending_cleanables =
              w.lists.pending_cleanables;
          pending_others = w.lists.pending_others;
          lined = w.lists.lined;
          line_others = w.lists.line_others;
        };
        sessions = sessions_kept;
        actions = actions_kept;
        resources = resources_kept;
        calls = calls_kept;
        unnamed = unnamed;
        limits = limits_stay m n w.limits refl x.as_many;
        faults = w.faults;
        notes = w.notes;
        seen_rising = w.seen_rising;
        seen_within = w.seen_within;
        seen_in_cycle = w.seen_in_cycle;
      }
