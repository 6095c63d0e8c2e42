-- A failed Opened leads from a well-formed machine to a well-formed one.
use Rattle.std.proofs.Common.{◌≡◌, ℕ, List, length, refl, sym, ◌∙◌, ap, subst, ◌⊎◌, inl, inr, arith, Some, None}
use Rattle.std.proofs.lemmas.Bool.{cases_eq}
use Rattle.jlr_types.specs.declared.Work.TheVariants.{Resource as WorkOn}
use Rattle.jlr_types.specs.declared.Refusal.TheVariants.{NotOut}
use Rattle.jlr_machine.specs.declared.object.Object.TheVariants.{Plain, Reference, Cleanable, Guard}
use Rattle.jlr_machine.specs.declared.object.Cleanable.{Cleanable as CleanableOf}
use Rattle.jlr_machine.specs.declared.object.Guard.{Guard as GuardOf}
use Rattle.jlr_machine.specs.declared.object.CleanState.{CleanState}
use Rattle.jlr_machine.specs.declared.object.CleanState.TheVariants.{Pending as PendingClean, Lined, Spent}
use Rattle.jlr_machine.specs.declared.machine.Machine.{Machine}
use Rattle.jlr_machine.specs.declared.machine.Session.{Session}
use Rattle.jlr_machine.specs.declared.machine.Resource.{Resource}
use Rattle.jlr_machine.specs.declared.machine.Call.{Call}
use Rattle.jlr_machine.specs.declared.machine.Call.TheVariants.{Free, Opening as CallOpening, Out as CallOut, Job as CallJob}
use Rattle.jlr_machine.specs.declared.machine.ResourceState.{ResourceState}
use Rattle.jlr_machine.specs.declared.machine.ResourceState.TheVariants.{Opening, Idle, Out, Closing}
use Rattle.jlr_machine.specs.Objects.{Heap, at, change_at, with_cleanable}
use Rattle.jlr_machine.specs.Lookups.{on}
use Rattle.jlr_machine.specs.Refusals.{refusal}
use Rattle.jlr_machine.specs.Calls.{after, opened, spent}
use Rattle.jlr_machine.specs.WellFormed.{IsSessionAt, IsCleanableAt, IsObjectAt, HasResource, IsFencing, FitsItsCall, IsUnspent}
use Rattle.jlr_machine.specs.WellFormed.{IsWellFormed, AreSlotsNamed, AreReferences, AreLists, AreSessions, AreActions, AreResources}
use Rattle.jlr_machine.specs.WellFormed.{AreCalls, ArePrivate, IsPrivate, IsOwnGuard, OpeningHasRoom, IsCallOf, IsAction, clean_state_at}
use Rattle.jlr_types.specs.declared.Fault.{Fault}
use Rattle.jlr_machine.specs.declared.ask.Ask.TheVariants.{Opened}
use Rattle.jlr_machine.specs.declared.ask.Answer.{Answer}
use Rattle.jlr_machine.specs.declared.ask.Outcome.TheVariants.{Failed}
use Rattle.jlr_laws.proofs.Frames.{no_some, some_same, IsRoot, root_gives, root_from, limits_stay, seen_stays, change_as_long}
use Rattle.jlr_laws.proofs.Frames.IsRoot.{held, fencing, named, waiting, lining, active}
use Rattle.jlr_laws.proofs.Keyed.{by_key, keyed_without, found_gone, found_left, rising_without, all_without}
use Rattle.jlr_laws.proofs.Changes.{change_here, change_beside, session_same, cleanable_same, resource_same, HasCleanable, worker_over}
use Rattle.jlr_laws.proofs.Changes.{IsElsewhere}
use Rattle.jlr_laws.proofs.Allowed.{allowed, opening_session}
use Rattle.jlr_laws.proofs.keeps.Calls.{calling, no_one_else, IsEnding, opening_ends, guard_on}
use Rattle.jlr_laws.proofs.keeps.TakeUps.{one_less}
use Rattle.jlr_laws.proofs.Ended.{IsFreed}
use Rattle.jlr_laws.proofs.Retouched.{IsRetouched, not_armed, back, over, cleanable_cases, alive, edges_back, active_back, state_same}
use Rattle.jlr_laws.proofs.Retouched.{clean_state_here, clean_state_beside, references_kept, queue_over, cleanable_there, private_back}

module _ (m : Machine) (k : ℕ) (session : Session) (t : ℕ) (g : GuardOf) (c : CleanableOf) (w : IsWellFormed m)
    (x : IsEnding m k session t g c Opening) where
  abbrev rid_key : Resource → ℕ
  rid_key r = r.rid

  abbrev s : ℕ
  s = g.cleanable

  abbrev heap : Heap
  heap = change_at m.objects g.cleanable (with_cleanable spent)

  abbrev n : Machine
  n = record m {
    objects =
        heap;
    mutators = change_at m.mutators k (calling None Free);
    resources = keyed_without rid_key m.resources g.rid;
  }

  touched : IsRetouched m.objects heap g.cleanable c (spent c)
  touched =
      record {
        there = x.cleanable;
        here = change_here m.objects g.cleanable (with_cleanable spent) (Cleanable c) x.cleanable;
        others = λ u p. change_beside m.objects g.cleanable u (with_cleanable spent) p;
        action = refl;
        work = refl;
        referent = refl;
        passive = refl;
      }

  own : IsOwnGuard m t g c
  own = elim (w.resources.guards t g c x.guard x.cleanable) [ inl e ↦ absurd (cc (e, x.armed)) | inr o ↦ o ]

  unspent_c : c.state ≡ Spent → ⊥
  unspent_c e = absurd (cc (e, x.armed))

  was_unspent : IsUnspent m g.cleanable c
  was_unspent = record { there = x.cleanable; unspent = unspent_c }

  session_cases : (j : ℕ) (z : Session) → IsSessionAt n j z → IsFreed m j z ⊎ ((j ≡ k → ⊥) × IsSessionAt m j z)
  session_cases j z p = elim (cases_eq j k) [
    | inl q ↦
        let here = change_here m.mutators k (calling None Free) session x.session_there in
        let same : z ≡ calling None Free session = some_same z (calling None Free session) (sym p ∙ ap (at n.mutators) q ∙ here) in
        inl (record {
          before = session;
          there = ap (at m.mutators) q ∙ x.session_there;
          handles =
              ap (λ v. v.handles) same;
          fence = ap (λ v. v.fence) same;
          call = ap (λ v. v.call) same;
        })
    | inr q ↦ inr (q, sym (change_beside m.mutators k j (calling None Free) q) ∙ p)
  ]

  resource_cases : (rid action : ℕ) (state : ResourceState) → HasResource n rid action state → (rid ≡ g.rid → ⊥)
      × HasResource m rid action state
  resource_cases rid action state h = elim (cases_eq rid g.rid) [
    | inl p ↦ no_some (record { rid = rid; action = action; state = state })
        (sym (found_gone rid_key m.resources g.rid) ∙ ap (by_key rid_key n.resources) (sym p) ∙ h)
    | inr d ↦ (d, sym (found_left rid_key m.resources g.rid rid d) ∙ h)
  ]

  resource_over : (rid action : ℕ) (state : ResourceState) → (rid ≡ g.rid → ⊥) → HasResource m rid action state
      → HasResource n rid action state
  resource_over rid action state d h = found_left rid_key m.resources g.rid rid d ∙ h

  unspent_back : (u : ℕ) (d : CleanableOf) → IsUnspent n u d → (u ≡ s → ⊥) × IsUnspent m u d
  unspent_back u d p = elim (cleanable_cases m heap s c (spent c) touched u d p.there) [
    | inl y ↦ absurd (p.unspent (ap (λ z. z.state) y.1))
    | inr y ↦ (y.0, record { there = y.1; unspent = p.unspent })
  ]

  -- this resource has no other cleanable
  other_work : (u rid : ℕ) (d : CleanableOf) → (u ≡ s → ⊥) → IsUnspent m u d → d.work ≡ WorkOn rid → rid ≡ g.rid → ⊥
  other_work u rid d p v e f =
      let r = w.resources.of_cleanables u g.rid d v (e ∙ ap WorkOn f) in
      let both = resource_same m g.rid d.action c.action r.0 Opening r.1 x.resource in
      p (w.actions.cleanables u s d c v was_unspent both.0)

  -- ---- What mutators hold

  held_there : (j h u : ℕ) (z : Session) → IsSessionAt n j z → at z.handles h ≡ Some u → (i : ℕ) × (y : Session) × IsSessionAt m i y
      × (at y.handles h ≡ Some u)
  held_there j h u z e f = elim (session_cases j z e) [
    | inl y ↦ (j, y.before, y.there, ap (λ l. at l h) (sym y.handles) ∙ f)
    | inr y ↦ (j, z, y.1, f)
  ]

  fence_there : (j u : ℕ) (z : Session) → IsSessionAt n j z → z.fence ≡ Some u → IsObjectAt m u
  fence_there j u z e f = elim (session_cases j z e) [
    | inl y ↦ no_some u (sym y.fence ∙ f)
    | inr y ↦ w.slots.roots u (root_from m u (fencing j z y.1 f))
  ]

  root_there : (u : ℕ) → IsRoot n u → IsObjectAt m u
  root_there u (held j h z e f) = let r = held_there j h u z e f in w.slots.roots u (root_from m u (held r.0 h r.1 r.2 r.3))
  root_there u (fencing j z e f) = fence_there j u z e f
  root_there u (named h) = w.slots.roots u (root_from m u (named h))
  root_there u (waiting h) = w.slots.roots u (root_from m u (waiting h))
  root_there u (lining h) = w.slots.roots u (root_from m u (lining h))
  root_there u (active h) = w.slots.roots u (root_from m u (active (active_back m heap s c (spent c) touched u h)))

  slots : AreSlotsNamed n
  slots =
      record {
        edges = λ u y h. alive m heap s c (spent c) touched y (w.slots.edges u y (edges_back m heap s c (spent c) touched u y h));
        roots = λ u h. alive m heap s c (spent c) touched u (root_there u (root_gives n u h));
        queues = λ u q r e f. queue_over m heap s c (spent c) touched q
            (w.slots.queues u q r (back m heap s c (spent c) touched u (Reference r) refl e) f);
        guarded = λ u h e. cleanable_there m heap s c (spent c) touched h.cleanable
            (w.slots.guarded u h (back m heap s c (spent c) touched u (Guard h) refl e));
      }

  references : AreReferences n
  references = let r = references_kept m heap s c (spent c) touched w.references in
      record { states = r.states; members = r.members; once = r.once; in_one = r.in_one }

  clean_state_back : (u : ℕ) (state : CleanState) → (state ≡ Spent → ⊥) → clean_state_at n u ≡ Some state → clean_state_at m u ≡ Some state
  clean_state_back u state d e = elim (cases_eq u s) [
    | inl p ↦ absurd (d (some_same state Spent (sym e ∙ ap (clean_state_at n) p ∙ clean_state_here m heap s c (spent c) touched)))
    | inr p ↦ sym (clean_state_beside m heap s c (spent c) touched u p) ∙ e
  ]

  clean_state_over : (u : ℕ) (state : CleanState) → clean_state_at m u ≡ Some state → (clean_state_at n u ≡ Some state)
      ⊎ (clean_state_at n u ≡ Some Spent)
  clean_state_over u state e = elim (cases_eq u s) [
    | inl p ↦ inr (ap (clean_state_at n) p ∙ clean_state_here m heap s c (spent c) touched)
    | inr p ↦ inl (clean_state_beside m heap s c (spent c) touched u p ∙ e)
  ]

  lists : AreLists n
  lists =
      record {
        pending_once = w.lists.pending_once;
        line_once = w.lists.line_once;
        pending_references = λ u e. w.lists.pending_references u (sym (state_same m heap s c (spent c) touched u) ∙ e);
        pending_cleanables = λ u e. w.lists.pending_cleanables u (clean_state_back u PendingClean (λ z. absurd (cc z)) e);
        pending_others = λ u h. elim (w.lists.pending_others u h) [
          | inl e ↦ inl (state_same m heap s c (spent c) touched u ∙ e)
          | inr y ↦ inr (elim y [
            | inl e ↦ inl (state_same m heap s c (spent c) touched u ∙ e)
            | inr z ↦ inr (elim z [
              | inl e ↦ inl (state_same m heap s c (spent c) touched u ∙ e)
              | inr v ↦ inr (elim v [
                | inl e ↦ clean_state_over u PendingClean e
                | inr e ↦ elim (clean_state_over u Spent e) [ inl f ↦ inr f | inr f ↦ inr f ]
              ])
            ])
          ])
        ];
        lined = λ u e. w.lists.lined u (clean_state_back u Lined (λ z. absurd (cc z)) e);
        line_others = λ u h. elim (w.lists.line_others u h) [
          | inl e ↦ clean_state_over u Lined e
          | inr e ↦ elim (clean_state_over u Spent e) [ inl f ↦ inr f | inr f ↦ inr f ]
        ];
      }

  sessions_kept : AreSessions n
  sessions_kept =
      record {
        places = λ j z e. elim (session_cases j z e) [
          | inl y ↦ subst (λ l. (length l ≡ 251) × (at l 0 ≡ None)) (sym y.handles) (w.sessions.places j y.before y.there)
          | inr y ↦ w.sessions.places j z y.1
        ];
        opening = λ j z e. elim (session_cases j z e) [
          | inl y ↦ subst (λ call. OpeningHasRoom z call) (sym y.call) tt
          | inr y ↦ w.sessions.opening j z y.1
        ];
        names = w.sessions.names;
        names_limit = w.sessions.names_limit;
      }

  actions_kept : AreActions n
  actions_kept =
      record {
        cleanables = λ u v d e p q. w.actions.cleanables u v d e (unspent_back u d p).1 (unspent_back v e q).1;
        apart = λ u d p. w.actions.apart u d (unspent_back u d p).1;
        jobs = w.actions.jobs;
        of_cleanables = λ u d e. elim (cleanable_cases m heap s c (spent c) touched u d e) [
          | inl y ↦ subst (λ a. IsAction m a) (sym (ap (λ z. z.action) y.1)) (w.actions.of_cleanables s c x.cleanable)
          | inr y ↦ w.actions.of_cleanables u d y.1
        ];
        of_jobs = w.actions.of_jobs;
        of_resources = all_without rid_key (λ r. IsAction m r.action) m.resources g.rid w.actions.of_resources;
        of_faults = w.actions.of_faults;
        referents = λ u d e a. elim (cleanable_cases m heap s c (spent c) touched u d e) [
          | inl y ↦ ap (λ z. z.referent) y.1
          | inr y ↦ w.actions.referents u d y.1 a
        ];
        cleaners = w.actions.cleaners;
        taken = w.actions.taken;
        room = omega (arith, w.actions.room, one_less m.objects g.cleanable c x.cleanable unspent_c);
      }

  cleanable_over : (rid action : ℕ) → (rid ≡ g.rid → ⊥) → HasCleanable m rid action → HasCleanable n rid action
  cleanable_over rid action d h =
      let apart : h.0 ≡ s → ⊥ = λ e.
      let works : WorkOn rid ≡ WorkOn g.rid = sym h.4
      ∙ ap (λ z. z.work) (cleanable_same m s h.1 c (subst (λ z. IsCleanableAt m z h.1) e h.2.there) x.cleanable) ∙ own.work in
      let same : rid ≡ g.rid = cc works in
      d same in
      (h.0, h.1, record { there = touched.others h.0 apart ∙ h.2.there; unspent = h.2.unspent }, h.3, h.4)

  resources_kept : AreResources n
  resources_kept =
      record {
        rising = rising_without rid_key m.resources g.rid w.resources.rising;
        worked = λ rid action state h.
            let y = resource_cases rid action state h in
            worker_over m n rid action state (cleanable_over rid action y.0) (λ z. z) (w.resources.worked rid action state y.1);
        of_cleanables = λ u rid d p e.
            let y = unspent_back u d p in
            let r = w.resources.of_cleanables u rid d y.1 e in
            (r.0, resource_over rid d.action r.0 (other_work u rid d y.0 y.1 e) r.1, r.2);
        idle = λ u rid d p e a.
            let y = unspent_back u d p in
            resource_over rid d.action Idle (other_work u rid d y.0 y.1 e) (w.resources.idle u rid d y.1 e a);
        of_jobs = λ j rid e f.
            let r = w.resources.of_jobs j rid e f in
            resource_over rid j.action Closing (λ p. let both = resource_same m g.rid j.action c.action Closing Opening
            (subst (λ i. HasResource m i j.action Closing) p r) x.resource in absurd (cc both.1)) r;
        one_guard = λ u v p q e f. w.resources.one_guard u v p q (back m heap s c (spent c) touched u (Guard p) refl e)
            (back m heap s c (spent c) touched v (Guard q) refl f);
        guards = λ u p d e f. elim (cleanable_cases m heap s c (spent c) touched p.cleanable d f) [
          | inl y ↦ inl (ap (λ z. z.state) y.1)
          | inr y ↦ elim (w.resources.guards u p d (back m heap s c (spent c) touched u (Guard p) refl e) y.1) [
            | inl a ↦ inl a
            | inr a ↦
                inr (record { armed = a.armed; referent = a.referent; work = a.work })
          ]
        ];
        guarded = λ u rid d e a f. elim (cleanable_cases m heap s c (spent c) touched u d e) [
          | inl y ↦ absurd (not_armed m heap s c (spent c) touched (ap (λ z. z.state) (sym y.1) ∙ a))
          | inr y ↦ let p = w.resources.guarded u rid d y.1 a f in
              (p.0, p.1, over m heap s c (spent c) touched p.0 (Guard p.1) refl p.2, p.3)
        ];
      }

  -- ---- Calls

  elsewhere : (j : ℕ) (z : Session) → (j ≡ k → ⊥) → IsSessionAt m j z → IsElsewhere z g.rid
  elsewhere = no_one_else m k g.rid c.action Opening w x.resource x.caller

  fencing_over : (z : Session) (rid : ℕ) (state : ResourceState) → (rid ≡ g.rid → ⊥) → IsFencing m z rid state → IsFencing n z rid state
  fencing_over z rid state d f =
      let works : f.2.work ≡ WorkOn f.1.rid =
      elim (w.resources.guards f.0 f.1 f.2 f.4 f.6) [ inl e ↦ absurd (cc (e, f.7)) | inr o ↦ o.work ] in
      let apart : f.1.cleanable ≡ s → ⊥ = λ e.
      let both : WorkOn f.1.rid ≡ WorkOn g.rid = sym works
      ∙ ap (λ z. z.work) (cleanable_same m s f.2 c (subst (λ z. IsCleanableAt m z f.2) e f.6) x.cleanable) ∙ own.work in
      let same : f.1.rid ≡ g.rid = cc both in
      d (sym f.5 ∙ same) in (
        f.0,
        f.1,
        f.2,
        f.3,
        over m heap s c (spent c) touched f.0 (Guard f.1) refl f.4,
        f.5,
        touched.others f.1.cleanable apart ∙ f.6,
        f.7,
        resource_over rid f.2.action state d f.8,
      )

  fits_over : (j : ℕ) (z : Session) (call : Call) → z.call ≡ call → IsElsewhere z g.rid → FitsItsCall m j z call → FitsItsCall n j z call
  fits_over j z Free e a f = f
  fits_over j z (CallOpening rid) e a f = fencing_over z rid Opening (λ p. a.not_opening (e ∙ ap CallOpening p)) f
  fits_over j z (CallOut rid) e a f = fencing_over z rid Out (λ p. a.not_out (e ∙ ap CallOut p)) f
  fits_over j z (CallJob action) e a f = f

  call_over : (j : ℕ) (call : Call) → (session.call ≡ call → ⊥) → IsCallOf m j call → IsCallOf n j call
  call_over j call d h =
      let apart : j ≡ k → ⊥ =
      λ e. d (ap (λ z. z.call) (session_same m k session h.0 x.session_there (subst (λ i. IsSessionAt m i h.0) e h.1)) ∙ h.2) in
      (h.0, change_beside m.mutators k j (calling None Free) apart ∙ h.1, h.2)

  calls_kept : AreCalls n
  calls_kept =
      record {
        calls = λ j z e. elim (session_cases j z e) [
          | inl y ↦ subst (λ call. FitsItsCall n j z call) (sym y.call) y.fence
          | inr y ↦ fits_over j z z.call refl (elsewhere j z y.0 y.1) (w.calls.calls j z y.1)
        ];
        opening = λ rid action h.
            let y = resource_cases rid action Opening h in
            let r = w.calls.opening rid action y.1 in
            (r.0, call_over r.0 (CallOpening rid) (λ e. y.0 (x.opening_only rid e)) r.1);
        out = λ rid action h.
            let y = resource_cases rid action Out h in
            let r = w.calls.out rid action y.1 in
            (r.0, call_over r.0 (CallOut rid) (λ e. y.0 (x.out_only rid e)) r.1);
        one_call = λ i j call a b d. elim (session_cases i a.0 a.1) [
          | inl y ↦ absurd (d (sym a.2 ∙ y.call))
          | inr y ↦ elim (session_cases j b.0 b.1) [
            | inl z ↦ absurd (d (sym b.2 ∙ z.call))
            | inr z ↦ w.calls.one_call i j call (a.0, y.1, a.2) (b.0, z.1, b.2) d
          ]
        ];
        jobs = λ j e d. call_over j.by (CallJob j.action) (λ z. x.no_job j.action z) (w.calls.jobs j e d);
      }

  private_was : (u : ℕ) → IsPrivate n u → IsPrivate m u
  private_was = private_back m heap s c (spent c) touched n (λ _. refl) (λ rid action h. (resource_cases rid action Opening h).1)

  unnamed : ArePrivate n
  unnamed =
      record {
        handles = λ j h u z e f p. let r = held_there j h u z e f in w.unnamed.handles r.0 h u r.1 r.2 r.3 (private_was u p);
        names = λ u h p. w.unnamed.names u h (private_was u p);
        fields = λ v u fields e h p. w.unnamed.fields v u fields (back m heap s c (spent c) touched v (Plain fields) refl e) h
            (private_was u p);
        references =
            λ v u r e f p. w.unnamed.references v u r (back m heap s c (spent c) touched v (Reference r) refl e) f (private_was u p);
      }

  pub open_failed_is_well_formed : IsWellFormed n
  open_failed_is_well_formed =
      record {
        slots = slots;
        references = references;
        lists = lists;
        sessions = sessions_kept;
        actions = actions_kept;
        resources = resources_kept;
        calls = calls_kept;
        unnamed = unnamed;
        limits = limits_stay m n w.limits (change_as_long m.objects g.cleanable (with_cleanable spent))
            (change_as_long m.mutators k (calling None Free));
        faults = w.faults;
        notes = w.notes;
        seen_rising = w.seen_rising;
        seen_within = seen_stays m.seen m.objects heap w.seen_within (change_as_long m.objects g.cleanable (with_cleanable spent));
        seen_in_cycle = w.seen_in_cycle;
      }

pub keeps_open_failed : (m : Machine) (k : ℕ) (fault : Fault) (a : Answer) (fresh : List ℕ) → IsWellFormed m
    → refusal m (Opened k (Failed fault)) ≡ None → IsWellFormed (after m (Opened k (Failed fault)) a fresh)
keeps_open_failed m k fault a fresh w r =
    let ok = allowed m (Opened k (Failed fault)) r in
    let z = opening_session m k (ok NotOut refl) in
    let x = opening_ends m k z.0 z.2 w z.1 z.3 in
    let done = open_failed_is_well_formed m k z.0 x.0 x.1 x.2 w x.3 in
    subst (λ z. IsWellFormed (on z (λ g. opened m k g (Failed fault)) m)) (sym (guard_on m k z.0 x.0 x.1 z.1 x.3.fence x.3.guard)) done
