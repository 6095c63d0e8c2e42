-- Register leads from a well-formed machine to a well-formed one.
use Rattle.std.proofs.Common.{◌≡◌, ℕ, ◌+◌, ◌<◌, Bool, true, false, ◌||◌, List, [], ◌++◌, length, refl, sym, ◌∙◌, ap, subst, ◌⊎◌, inl, inr}
use Rattle.std.proofs.Common.{arith, Option, Some, None, is_some, IsTrue, option_and_then, option_to_list, count_by}
use Rattle.std.specs.List.{flat_map}
use Rattle.std.proofs.lemmas.Bool.{cases_eq, or_parts}
use Rattle.jlr_types.specs.declared.Work.TheVariants.{Note, Resource as WorkOn}
use Rattle.jlr_types.specs.declared.Refusal.TheVariants.{Busy, NoHandle, Null, WrongKind}
use Rattle.jlr_machine.specs.declared.object.Contents.{Contents}
use Rattle.jlr_machine.specs.declared.object.Object.{Object}
use Rattle.jlr_machine.specs.declared.object.Object.TheVariants.{Plain, Reference, Queue, Cleanable, Guard}
use Rattle.jlr_machine.specs.declared.object.Reference.{Reference as ReferenceOf}
use Rattle.jlr_machine.specs.declared.object.Cleanable.{Cleanable as CleanableOf}
use Rattle.jlr_machine.specs.declared.object.Guard.{Guard as GuardOf}
use Rattle.jlr_machine.specs.declared.object.CleanState.{CleanState}
use Rattle.jlr_machine.specs.declared.object.CleanState.TheVariants.{Armed, Pending as PendingClean, Lined, Spent}
use Rattle.jlr_machine.specs.declared.object.RefState.{RefState}
use Rattle.jlr_machine.specs.declared.machine.Machine.{Machine}
use Rattle.jlr_machine.specs.declared.machine.Session.{Session}
use Rattle.jlr_machine.specs.declared.machine.Job.{Job as JobOf}
use Rattle.jlr_machine.specs.declared.machine.Call.{Call}
use Rattle.jlr_machine.specs.declared.machine.Call.TheVariants.{Free, Opening as CallOpening, Out as CallOut, Job as CallJob}
use Rattle.jlr_machine.specs.declared.machine.ResourceState.{ResourceState}
use Rattle.jlr_machine.specs.declared.machine.ResourceState.TheVariants.{Opening, Out}
use Rattle.jlr_machine.specs.Objects.{Heap, at, set_at, ◌∈◌, as_reference, as_cleanable, is_cleaner}
use Rattle.jlr_machine.specs.Edges.{edges, edges_from, is_own_root}
use Rattle.jlr_machine.specs.Lookups.{job_of, slot_named, on, with_handle, with_new}
use Rattle.jlr_machine.specs.Refusals.{refusal, is_any, object, names_no_object, is_wrongly_null, is_of_wrong_kind}
use Rattle.jlr_machine.specs.Calls.{after, registered}
use Rattle.jlr_machine.specs.Run.{IsFresh}
use Rattle.jlr_machine.specs.WellFormed.{IsGuardAt, IsCleanableAt, IsObjectAt, IsFencing, FitsItsCall, IsUnspent, IsWellFormed}
use Rattle.jlr_machine.specs.WellFormed.{AreSlotsNamed, AreReferences, AreLists, AreActions, AreResources, IsPrivate, IsAction, state_at}
use Rattle.jlr_machine.specs.WellFormed.{clean_state_at, is_unspent_place}
use Rattle.jlr_machine.specs.Edges.Chain.{UpToPhantom}
use Rattle.std.proofs.lemmas.List.{length-set}
use Rattle.jlr_machine.specs.declared.ask.Ask.TheVariants.{Register}
use Rattle.jlr_machine.specs.declared.ask.Answer.{Answer}
use Rattle.jlr_laws.proofs.Sets.{nothing, in_cons}
use Rattle.jlr_laws.proofs.Frames.{no_some, some_same, set_same, set_other, IsRoot, root_gives, root_from, limits_stay, seen_stays}
use Rattle.jlr_laws.proofs.Frames.IsRoot.{held, fencing, named, waiting, lining, active}
use Rattle.jlr_laws.proofs.Keyed.{none_found, all_weaker}
use Rattle.jlr_laws.proofs.Changes.{HasCleanable, worker_over}
use Rattle.jlr_laws.proofs.Allowed.{allowed, free_session, only_operand}
use Rattle.jlr_laws.proofs.keeps.TakeUps.{count_set}
use Rattle.jlr_laws.proofs.SessionsKept.{keeps_handle}
use Rattle.jlr_laws.proofs.Fits.{fresh_one}

pub record IsRegistered (m : Machine) (s note : ℕ) (referent : Option ℕ) : Type 0 where
  pub inside : s < length m.objects
  pub free : at m.objects s ≡ None
  pub referent_there : (u : ℕ) → referent ≡ Some u → IsObjectAt m u

module _ (m : Machine) (s note : ℕ) (referent_of : Option ℕ) (w : IsWellFormed m) (x : IsRegistered m s note referent_of) where
  abbrev cleanable : CleanableOf
  cleanable = record { referent = referent_of; action = m.next_action; work = Note note; state = Armed }

  abbrev heap : Heap
  heap = set_at m.objects s (Cleanable cleanable)

  abbrev n : Machine
  n = record m { objects = heap; next_action = m.next_action + 1 }

  here : at heap s ≡ Some (Cleanable cleanable)
  here = set_same m.objects s (Some (Cleanable cleanable)) x.inside

  beside : (t : ℕ) → (t ≡ s → ⊥) → at heap t ≡ at m.objects t
  beside t d = set_other m.objects s t (Some (Cleanable cleanable)) d

  not_s : (t : ℕ) (o : Object) → at m.objects t ≡ Some o → t ≡ s → ⊥
  not_s t o e p = no_some o (sym x.free ∙ ap (at m.objects) (sym p) ∙ e)

  stays : (t : ℕ) (o : Object) → at m.objects t ≡ Some o → at heap t ≡ Some o
  stays t o e = beside t (not_s t o e) ∙ e

  alive : (t : ℕ) → IsObjectAt m t → IsTrue (is_some (at heap t))
  alive t e =
      elim (at m.objects t) as (λ o. at m.objects t ≡ o → IsTrue (is_some o) → IsTrue (is_some (at heap t))) [
        | None ↦ λ _ f. absurd (cc f)
        | Some o ↦ λ p f. ap is_some (stays t o p)
      ] refl e

  object_cases : (t : ℕ) (o : Object) → at heap t ≡ Some o → ((t ≡ s) × (o ≡ Cleanable cleanable)) ⊎ (at m.objects t ≡ Some o)
  object_cases t o e = elim (cases_eq t s) [
    | inl p ↦ inl (p, some_same o (Cleanable cleanable) (sym e ∙ ap (at heap) p ∙ here))
    | inr d ↦ inr (sym (beside t d) ∙ e)
  ]

  old_plain : (t : ℕ) (fields : Contents) → at heap t ≡ Some (Plain fields) → at m.objects t ≡ Some (Plain fields)
  old_plain t fields e = elim (object_cases t (Plain fields) e) [ inl y ↦ absurd (cc y.1) | inr y ↦ y ]

  old_reference : (t : ℕ) (r : ReferenceOf) → at heap t ≡ Some (Reference r) → at m.objects t ≡ Some (Reference r)
  old_reference t r e = elim (object_cases t (Reference r) e) [ inl y ↦ absurd (cc y.1) | inr y ↦ y ]

  old_queue : (t : ℕ) (members : List ℕ) → at heap t ≡ Some (Queue members) → at m.objects t ≡ Some (Queue members)
  old_queue t members e = elim (object_cases t (Queue members) e) [ inl y ↦ absurd (cc y.1) | inr y ↦ y ]

  old_guard : (t : ℕ) (g : GuardOf) → at heap t ≡ Some (Guard g) → IsGuardAt m t g
  old_guard t g e = elim (object_cases t (Guard g) e) [ inl y ↦ absurd (cc y.1) | inr y ↦ y ]

  cleanable_cases : (t : ℕ) (c : CleanableOf) → at heap t ≡ Some (Cleanable c) → ((t ≡ s) × (c ≡ cleanable)) ⊎ IsCleanableAt m t c
  cleanable_cases t c e = elim (object_cases t (Cleanable c) e) [
    | inl y ↦ let both : Cleanable c ≡ Cleanable cleanable = y.1 in let same : c ≡ cleanable = cc both in inl (y.0, same)
    | inr y ↦ inr y
  ]

  unspent_cases : (t : ℕ) (c : CleanableOf) → IsUnspent n t c → ((t ≡ s) × (c ≡ cleanable)) ⊎ IsUnspent m t c
  unspent_cases t c u = elim (cleanable_cases t c u.there) [ inl y ↦ inl y | inr y ↦ inr (record { there = y; unspent = u.unspent }) ]

  unspent_over : (t : ℕ) (c : CleanableOf) → IsUnspent m t c → IsUnspent n t c
  unspent_over t c u = record { there = stays t (Cleanable c) u.there; unspent = u.unspent }

  behind : (t : ℕ) (g : GuardOf) → IsGuardAt m t g → g.cleanable ≡ s → ⊥
  behind t g e p = let c = w.slots.guarded t g e in not_s g.cleanable (Cleanable c.0) c.1 p

  -- a note is no resource's work
  no_work : (c : CleanableOf) (rid : ℕ) → c ≡ cleanable → c.work ≡ WorkOn rid → ⊥
  no_work c rid e f = let both : Note note ≡ WorkOn rid = ap (λ i. i.work) (sym e) ∙ f in absurd (cc both)

  edges_there : (t y : ℕ) → y ∈ edges_from UpToPhantom heap t → IsTrue (is_some (at heap y))
  edges_there t y h = elim (cases_eq t s) [
    | inl p ↦
        let e : y ∈ (option_to_list referent_of ++ []) =
        subst (λ o. y ∈ flat_map (edges UpToPhantom) (option_to_list o)) (ap (at heap) p ∙ here) h in
        elim referent_of as (λ r. referent_of ≡ r → y ∈ (option_to_list r ++ []) → IsTrue (is_some (at heap y))) [
          | None ↦ λ _ g. nothing y g
          | Some u ↦ λ q g. elim (in_cons y u [] g) [
            | inl same ↦
                subst (λ i. IsTrue (is_some (at heap i))) (sym same) (alive u (x.referent_there u q))
            | inr g ↦ nothing y g
          ]
        ] refl e
    | inr d ↦ alive y (w.slots.edges t y (subst (λ o. y ∈ flat_map (edges UpToPhantom) (option_to_list o)) (beside t d) h))
  ]

  active_there : (u : ℕ) → is_own_root (at heap u) ≡ true → IsTrue (is_some (at heap u))
  active_there u h =
      elim (at heap u) as (λ o. is_own_root o ≡ true → IsTrue (is_some o)) [ None ↦ λ e. absurd (cc e) | Some o ↦ λ _. refl ] h

  root_there : (u : ℕ) → IsRoot n u → IsTrue (is_some (at heap u))
  root_there u (held j h z e f) = alive u (w.slots.roots u (root_from m u (held j h z e f)))
  root_there u (fencing j z e f) = alive u (w.slots.roots u (root_from m u (fencing j z e f)))
  root_there u (named h) = alive u (w.slots.roots u (root_from m u (named h)))
  root_there u (waiting h) = alive u (w.slots.roots u (root_from m u (waiting h)))
  root_there u (lining h) = alive u (w.slots.roots u (root_from m u (lining h)))
  root_there u (active h) = active_there u h

  slots : AreSlotsNamed n
  slots =
      record {
        edges = edges_there;
        roots = λ u h. root_there u (root_gives n u h);
        queues = λ u q r e f. let y = w.slots.queues u q r (old_reference u r e) f in (y.0, stays q (Queue y.0) y.1);
        guarded = λ u g e. let c = w.slots.guarded u g (old_guard u g e) in (c.0, stays g.cleanable (Cleanable c.0) c.1);
      }

  references : AreReferences n
  references =
      record {
        states = λ t r e. w.references.states t r (old_reference t r e);
        members = λ q t members e h. let y = w.references.members q t members (old_queue q members e) h in
            (y.0, stays t (Reference y.0) y.1, y.2);
        once = λ q members e. w.references.once q members (old_queue q members e);
        in_one = λ p q t xs ys e f. w.references.in_one p q t xs ys (old_queue p xs e) (old_queue q ys f);
      }

  abbrev state_of : Option Object → Option RefState
  state_of o = option_and_then (λ r. Some r.state) (option_and_then as_reference o)

  abbrev clean_state_of : Option Object → Option CleanState
  clean_state_of o = option_and_then (λ c. Some c.state) (option_and_then as_cleanable o)

  state_same : (t : ℕ) → state_at n t ≡ state_at m t
  state_same t = elim (cases_eq t s) [
    | inl p ↦ ap state_of (ap (at heap) p ∙ here) ∙ sym (ap state_of (ap (at m.objects) p ∙ x.free))
    | inr d ↦ ap state_of (beside t d)
  ]

  clean_state_over : (t : ℕ) (state : CleanState) → clean_state_at m t ≡ Some state → clean_state_at n t ≡ Some state
  clean_state_over t state e = elim (cases_eq t s) [
    | inl p ↦ no_some state (sym (ap clean_state_of (ap (at m.objects) p ∙ x.free)) ∙ e)
    | inr d ↦ ap clean_state_of (beside t d) ∙ e
  ]

  clean_state_back : (t : ℕ) (state : CleanState) → (state ≡ Armed → ⊥) → clean_state_at n t ≡ Some state → clean_state_at m t ≡ Some state
  clean_state_back t state g e = elim (cases_eq t s) [
    | inl p ↦ absurd (g (some_same state Armed (sym e ∙ ap clean_state_of (ap (at heap) p ∙ here))))
    | inr d ↦ sym (ap clean_state_of (beside t d)) ∙ e
  ]

  lists : AreLists n
  lists =
      record {
        pending_once = w.lists.pending_once;
        line_once = w.lists.line_once;
        pending_references = λ u e. w.lists.pending_references u (sym (state_same u) ∙ e);
        pending_cleanables = λ u e. w.lists.pending_cleanables u (clean_state_back u PendingClean (λ z. absurd (cc z)) e);
        pending_others = λ u h. elim (w.lists.pending_others u h) [
          | inl e ↦ inl (state_same u ∙ e)
          | inr y ↦ inr (elim y [
            | inl e ↦ inl (state_same u ∙ e)
            | inr z ↦ inr (elim z [
              | inl e ↦ inl (state_same u ∙ e)
              | inr v ↦ inr (elim v [ inl e ↦ inl (clean_state_over u PendingClean e) | inr e ↦ inr (clean_state_over u Spent e) ])
            ])
          ])
        ];
        lined = λ u e. w.lists.lined u (clean_state_back u Lined (λ z. absurd (cc z)) e);
        line_others =
            λ u h. elim (w.lists.line_others u h) [ inl e ↦ inl (clean_state_over u Lined e) | inr e ↦ inr (clean_state_over u Spent e) ];
      }

  older : (action : ℕ) → IsAction m action → IsAction n action
  older action h = (h.0, omega (arith, h.1))

  count_one_more : count_by is_unspent_place heap ≡ count_by is_unspent_place m.objects + 1
  count_one_more =
      let one : ◌≡◌ {A = ℕ} (count_by is_unspent_place heap + 0) (count_by is_unspent_place m.objects + 1) =
      count_set m.objects s None (Some (Cleanable cleanable)) x.free x.inside in
      omega (arith, one)

  no_new_job : job_of m m.next_action ≡ None
  no_new_job =
      none_found {A = JobOf} (λ j. j.action) m.jobs m.next_action
      (all_weaker (λ j. IsAction m j.action) (λ j. j.action ≡ m.next_action → ⊥) (λ j h e. absurd (omega (arith, h.1, e))) m.jobs
      w.actions.of_jobs)

  not_next : (t : ℕ) (c : CleanableOf) → IsCleanableAt m t c → c.action ≡ m.next_action → ⊥
  not_next t c e p = let h = w.actions.of_cleanables t c e in absurd (omega (arith, h.1, p))

  actions_kept : AreActions n
  actions_kept =
      record {
        cleanables = λ u v c d p q e. elim (unspent_cases u c p) [
          | inl y ↦ elim (unspent_cases v d q) [
            | inl z ↦ y.0 ∙ sym z.0
            | inr z ↦ absurd (not_next v d z.there (sym e ∙ ap (λ i. i.action) y.1))
          ]
          | inr y ↦ elim (unspent_cases v d q) [
            | inl z ↦ absurd (not_next u c y.there (e ∙ ap (λ i. i.action) z.1))
            | inr z ↦ w.actions.cleanables u v c d y z e
          ]
        ];
        apart = λ u c p. elim (unspent_cases u c p) [
          | inl y ↦ ap (λ i. job_of m i.action) y.1 ∙ no_new_job
          | inr y ↦ w.actions.apart u c y
        ];
        jobs = w.actions.jobs;
        of_cleanables = λ u c e. elim (cleanable_cases u c e) [
          | inl y ↦ let same = ap (λ i. i.action) y.1 in (omega (arith, w.actions.room, same), omega (arith, same))
          | inr y ↦ older c.action (w.actions.of_cleanables u c y)
        ];
        of_jobs = all_weaker (λ j. IsAction m j.action) (λ j. IsAction n j.action) (λ j h. older j.action h) m.jobs w.actions.of_jobs;
        of_resources =
            all_weaker (λ r. IsAction m r.action) (λ r. IsAction n r.action) (λ r h. older r.action h) m.resources w.actions.of_resources;
        of_faults = all_weaker (λ f. IsAction m f.action) (λ f. IsAction n f.action) (λ f h. older f.action h) m.faults w.actions.of_faults;
        referents = λ u c e d. elim (cleanable_cases u c e) [
          | inl y ↦ absurd (d (ap (λ i. i.state) y.1))
          | inr y ↦ w.actions.referents u c y d
        ];
        cleaners = w.actions.cleaners;
        taken = w.actions.taken;
        room = omega (arith, w.actions.room, count_one_more);
      }

  cleanable_over : (r action : ℕ) → HasCleanable m r action → HasCleanable n r action
  cleanable_over r action h = (h.0, h.1, unspent_over h.0 h.1 h.2, h.3, h.4)

  resources_kept : AreResources n
  resources_kept =
      record {
        rising = w.resources.rising;
        worked = λ r action state h. worker_over m n r action state (cleanable_over r action) (λ z. z)
            (w.resources.worked r action state h);
        of_cleanables =
            λ u r c p e. elim (unspent_cases u c p) [ inl y ↦ absurd (no_work c r y.1 e) | inr y ↦ w.resources.of_cleanables u r c y e ];
        idle = λ u r c p e d. elim (unspent_cases u c p) [ inl y ↦ absurd (no_work c r y.1 e) | inr y ↦ w.resources.idle u r c y e d ];
        of_jobs = w.resources.of_jobs;
        one_guard = λ u v g h e f p. w.resources.one_guard u v g h (old_guard u g e) (old_guard v h f) p;
        guards = λ u g c e f. elim (cleanable_cases g.cleanable c f) [
          | inl z ↦ absurd (behind u g (old_guard u g e) z.0)
          | inr z ↦ elim (w.resources.guards u g c (old_guard u g e) z) [
            | inl v ↦ inl v
            | inr v ↦
                inr (record { armed = v.armed; referent = v.referent; work = v.work })
          ]
        ];
        guarded = λ u r c e p f. elim (cleanable_cases u c e) [
          | inl y ↦ absurd (no_work c r y.1 f)
          | inr y ↦ let g = w.resources.guarded u r c y p f in (g.0, g.1, stays g.0 (Guard g.1) g.2, g.3)
        ];
      }

  fencing_over : (z : Session) (r : ℕ) (state : ResourceState) → IsFencing m z r state → IsFencing n z r state
  fencing_over z r state f = (f.0, f.1, f.2, f.3, stays f.0 (Guard f.1) f.4, f.5, stays f.1.cleanable (Cleanable f.2) f.6, f.7, f.8)

  fits_over : (j : ℕ) (z : Session) (call : Call) → FitsItsCall m j z call → FitsItsCall n j z call
  fits_over j z Free f = f
  fits_over j z (CallOpening r) f = fencing_over z r Opening f
  fits_over j z (CallOut r) f = fencing_over z r Out f
  fits_over j z (CallJob action) f = f

  private_back : (t : ℕ) → IsPrivate n t → IsPrivate m t
  private_back t (inl p) = elim (cleanable_cases t p.0 p.2) [
    | inl y ↦ absurd (no_work p.0 p.1 y.1 p.3)
    | inr y ↦ inl (p.0, p.1, y, p.3)
  ]
  private_back t (inr p) =
      let g = old_guard t p.0 p.2 in
      elim (cleanable_cases p.0.cleanable p.1 p.3) [
        | inl z ↦ absurd (behind t p.0 g z.0)
        | inr z ↦ inr (p.0, p.1, g, z, p.4, p.5)
      ]

  pub registered_is_well_formed : IsWellFormed n
  registered_is_well_formed =
      record {
        slots = slots;
        references = references;
        lists = lists;
        sessions = record {
          places =
              w.sessions.places;
          opening = w.sessions.opening;
          names = w.sessions.names;
          names_limit = w.sessions.names_limit;
        };
        actions = actions_kept;
        resources = resources_kept;
        calls = record {
          calls = λ j z e. fits_over j z z.call (w.calls.calls j z e);
          opening = w.calls.opening;
          out = w.calls.out;
          one_call = w.calls.one_call;
          jobs = w.calls.jobs;
        };
        unnamed = record {
          handles = λ j h u z e f p. w.unnamed.handles j h u z e f (private_back u p);
          names = λ u h p. w.unnamed.names u h (private_back u p);
          fields = λ t u fields e h p. w.unnamed.fields t u fields (old_plain t fields e) h (private_back u p);
          references = λ t u r e f p. w.unnamed.references t u r (old_reference t r e) f (private_back u p);
        };
        limits = limits_stay m n w.limits (length-set m.objects s (Some (Cleanable cleanable))) refl;
        faults = w.faults;
        notes = w.notes;
        seen_rising = w.seen_rising;
        seen_within = seen_stays m.seen m.objects heap w.seen_within (length-set m.objects s (Some (Cleanable cleanable)));
        seen_in_cycle = w.seen_in_cycle;
      }

  pub registered_there : IsObjectAt n s
  registered_there = ap is_some here

  pub registered_shown : ¬ (IsPrivate n s)
  registered_shown (inl p) = elim (cleanable_cases s p.0 p.2) [
    | inl y ↦ no_work p.0 p.1 y.1 p.3
    | inr y ↦ not_s s (Cleanable p.0) y refl
  ]
  registered_shown (inr p) = not_s s (Guard p.0) (old_guard s p.0 p.2) refl

-- ---- The ask

second_false : (a b : Bool) → (a || (b || false)) ≡ false → (b || false) ≡ false
second_false a b e = (or_parts a (b || false) e).1

pub keeps_register : (m : Machine) (k c h note : ℕ) (a : Answer) (fresh : List ℕ) → IsWellFormed m → refusal m (Register k c h note) ≡ None
    → IsFresh m.objects 1 fresh → IsWellFormed (after m (Register k c h note) a fresh)
keeps_register m k c h note a fresh w r f =
    let ok = allowed m (Register k c h note) r in
    let o = only_operand m k h is_any w
    (second_false (names_no_object m k (object c is_cleaner)) (names_no_object m k (object h is_any)) (ok NoHandle refl))
    (second_false (is_wrongly_null (object c is_cleaner)) (is_wrongly_null (object h is_any)) (ok Null refl))
    (second_false (is_of_wrong_kind m k (object c is_cleaner)) (is_of_wrong_kind m k (object h is_any)) (ok WrongKind refl)) in
    let one = fresh_one m.objects fresh f in
    let s = one.0 in
    let x : IsRegistered m s note (slot_named m k h) =
    record {
      inside = one.2;
      free = one.3;
      referent_there = λ u e. let same : o.0 ≡ u = some_same o.0 u (sym o.3.slot ∙ e) in
          subst (λ i. IsObjectAt m i) same (ap is_some o.3.there);
    } in
    let n : Machine = record m {
      objects = set_at m.objects s
          (Cleanable (record { referent = slot_named m k h; action = m.next_action; work = Note note; state = Armed }));
      next_action =
          m.next_action + 1;
    } in
    subst (λ o. IsWellFormed (record (on o (λ s. with_handle (with_new m s (registered m k h note)) k s)
    m) { next_action = m.next_action + 1 })) (sym one.1)
    (keeps_handle n (registered_is_well_formed m s note (slot_named m k h) w x) k s
    (registered_there m s note (slot_named m k h) w x)
    (registered_shown m s note (slot_named m k h) w x)
    (λ session e. free_session m k session e (ok Busy refl)))
