-- Prepare leads from a well-formed machine to a well-formed one.
use Rattle.std.proofs.Common.{◌≡◌, ℕ, ◌+◌, ◌<◌, ◌≤◌, true, false, not, List, [], ◌∷◌, length, refl, sym, ◌∙◌, ap, subst, ◌⊎◌, inl, inr}
use Rattle.std.proofs.Common.{arith, Option, Some, None, is_some, IsTrue, option_and_then, option_to_list, count_by, nat_lt, if◌then◌else◌}
use Rattle.std.specs.List.{flat_map}
use Rattle.std.proofs.lemmas.Bool.{cases_eq, both_ways}
use Rattle.jlr_types.specs.declared.Work.TheVariants.{Resource as WorkOn}
use Rattle.jlr_types.specs.declared.Refusal.TheVariants.{Busy, HandlesFull, NoSession}
use Rattle.jlr_machine.specs.declared.object.Contents.{Contents}
use Rattle.jlr_machine.specs.declared.object.Object.{Object}
use Rattle.jlr_machine.specs.declared.object.Object.TheVariants.{Plain, Reference, Queue, Cleanable, Guard}
use Rattle.jlr_machine.specs.declared.object.Reference.{Reference as ReferenceOf}
use Rattle.jlr_machine.specs.declared.object.Cleanable.{Cleanable as CleanableOf}
use Rattle.jlr_machine.specs.declared.object.Guard.{Guard as GuardOf}
use Rattle.jlr_machine.specs.declared.object.CleanState.{CleanState}
use Rattle.jlr_machine.specs.declared.object.CleanState.TheVariants.{Armed, Pending as PendingClean, Lined, Spent}
use Rattle.jlr_machine.specs.declared.object.RefState.{RefState}
use Rattle.jlr_machine.specs.declared.machine.Machine.{Machine}
use Rattle.jlr_machine.specs.declared.machine.Session.{Session}
use Rattle.jlr_machine.specs.declared.machine.Job.{Job as JobOf}
use Rattle.jlr_machine.specs.declared.machine.Resource.{Resource}
use Rattle.jlr_machine.specs.declared.machine.Call.{Call}
use Rattle.jlr_machine.specs.declared.machine.Call.TheVariants.{Free, Opening as CallOpening, Out as CallOut, Job as CallJob}
use Rattle.jlr_machine.specs.declared.machine.ResourceState.{ResourceState}
use Rattle.jlr_machine.specs.declared.machine.ResourceState.TheVariants.{Opening, Idle, Out, Closing}
use Rattle.jlr_machine.specs.Objects.{Table, Heap, at, set_at, change_at, ◌∈◌, ◌∋◌, is_distinct, as_reference, as_cleanable, occupied}
use Rattle.jlr_machine.specs.Objects.{some_and}
use Rattle.jlr_machine.specs.Edges.{edges, edges_from, is_own_root}
use Rattle.jlr_machine.specs.Lookups.{with_call, with_resource, resource_at, has_free_handle, job_of}
use Rattle.jlr_machine.specs.Refusals.{refusal}
use Rattle.jlr_machine.specs.Calls.{after, prepared}
use Rattle.jlr_machine.specs.Run.{IsFresh, is_free}
use Rattle.jlr_machine.specs.WellFormed.{IsSessionAt, IsGuardAt, IsCleanableAt, IsObjectAt, HasResource, IsFencing, FitsItsCall, IsUnspent}
use Rattle.jlr_machine.specs.WellFormed.{IsWellFormed, AreSlotsNamed, AreReferences, AreLists, AreSessions, AreActions, AreResources}
use Rattle.jlr_machine.specs.WellFormed.{AreCalls, ArePrivate, IsPrivate, OpeningHasRoom, IsCallOf, IsAction, state_at, clean_state_at}
use Rattle.jlr_machine.specs.WellFormed.{is_unspent_place}
use Rattle.jlr_machine.specs.Edges.Chain.{UpToPhantom}
use Rattle.std.proofs.Common.{is_none}
use Rattle.std.specs.List.{list_all}
use Rattle.std.proofs.lemmas.Bool.{and_parts, not-true, not-false, ltb-true}
use Rattle.std.proofs.lemmas.List.{length-set}
use Rattle.jlr_machine.specs.declared.ask.Ask.TheVariants.{Prepare}
use Rattle.jlr_machine.specs.declared.ask.Answer.TheVariants.{Prepared}
use Rattle.jlr_laws.proofs.Sets.{nothing, in_front, in_cons}
use Rattle.jlr_laws.proofs.Frames.{no_some, some_same, set_same, set_other, IsRoot, root_gives, root_from, limits_stay, seen_stays}
use Rattle.jlr_laws.proofs.Frames.{change_as_long}
use Rattle.jlr_laws.proofs.Frames.IsRoot.{held, fencing, named, waiting, lining, active}
use Rattle.jlr_laws.proofs.Keyed.{keyed_with, found_new, found_beside, rising_with, all_with, none_found, all_weaker}
use Rattle.jlr_laws.proofs.Changes.{change_here, change_beside, session_same, cleanable_same, resource_same, HasCleanable, worker_from}
use Rattle.jlr_laws.proofs.Changes.{worker_over}
use Rattle.jlr_laws.proofs.Allowed.{allowed, joined_session, free_session}
use Rattle.jlr_laws.proofs.keeps.Calls.{calling}
use Rattle.jlr_laws.proofs.keeps.TakeUps.{count_set}
use Rattle.jlr_laws.proofs.Fits.{strong_object, referent_object, free_is}

pub with_resource-keyed : (resources : List Resource) (new : Resource)
    → with_resource resources new ≡ keyed_with {A = Resource} (λ r. r.rid) resources new
with_resource-keyed [] new = refl
with_resource-keyed (r ∷ resources) new =
    ap (λ l. if nat_lt new.rid r.rid then new ∷ r ∷ resources else r ∷ l) (with_resource-keyed resources new)

pub record IsPrepared (m : Machine) (k : ℕ) (session : Session) (a b rid : ℕ) : Type 0 where
  pub there : IsSessionAt m k session
  pub free : session.call ≡ Free
  pub room : occupied session.handles ≤ 249
  pub a_inside : a < length m.objects
  pub b_inside : b < length m.objects
  pub a_free : at m.objects a ≡ None
  pub b_free : at m.objects b ≡ None
  pub apart : b ≡ a → ⊥
  pub new_rid : resource_at m rid ≡ None

module _ (m : Machine) (k : ℕ) (session : Session) (a b rid : ℕ) (w : IsWellFormed m) (x : IsPrepared m k session a b rid) where
  abbrev rid_key : Resource → ℕ
  rid_key r = r.rid

  abbrev guard : GuardOf
  guard = record { rid = rid; cleanable = b }

  abbrev cleanable : CleanableOf
  cleanable = record { referent = Some a; action = m.next_action; work = WorkOn rid; state = Armed }

  abbrev resource : Resource
  resource = record { rid = rid; action = m.next_action; state = Opening }

  abbrev first : Heap
  first = set_at m.objects a (Guard guard)

  abbrev heap : Heap
  heap = set_at (set_at m.objects a (Guard guard)) b (Cleanable cleanable)

  abbrev mutators : Table Session
  mutators = change_at m.mutators k (calling (Some a) (CallOpening rid))

  abbrev n : Machine
  n = record m { objects = heap; mutators = mutators; resources = keyed_with rid_key m.resources resource; next_action = m.next_action + 1 }

  a_here : at heap a ≡ Some (Guard guard)
  a_here = set_other first b a (Some (Cleanable cleanable)) (λ e. x.apart (sym e)) ∙ set_same m.objects a (Some (Guard guard)) x.a_inside

  b_inside : b < length first
  b_inside = subst (λ l. b < l) (sym (length-set m.objects a (Some (Guard guard)))) x.b_inside

  b_here : at heap b ≡ Some (Cleanable cleanable)
  b_here = set_same first b (Some (Cleanable cleanable)) b_inside

  beside : (t : ℕ) → (t ≡ a → ⊥) → (t ≡ b → ⊥) → at heap t ≡ at m.objects t
  beside t d e = set_other first b t (Some (Cleanable cleanable)) e ∙ set_other m.objects a t (Some (Guard guard)) d

  -- what was there, is
  not_a : (t : ℕ) (o : Object) → at m.objects t ≡ Some o → t ≡ a → ⊥
  not_a t o e p = no_some o (sym x.a_free ∙ ap (at m.objects) (sym p) ∙ e)

  not_b : (t : ℕ) (o : Object) → at m.objects t ≡ Some o → t ≡ b → ⊥
  not_b t o e p = no_some o (sym x.b_free ∙ ap (at m.objects) (sym p) ∙ e)

  stays : (t : ℕ) (o : Object) → at m.objects t ≡ Some o → at heap t ≡ Some o
  stays t o e = beside t (not_a t o e) (not_b t o e) ∙ e

  alive : (t : ℕ) → IsObjectAt m t → IsTrue (is_some (at heap t))
  alive t e =
      elim (at m.objects t) as (λ o. at m.objects t ≡ o → IsTrue (is_some o) → IsTrue (is_some (at heap t))) [
        | None ↦ λ _ f. absurd (cc f)
        | Some o ↦ λ p f. ap is_some (stays t o p)
      ] refl e

  -- what is no guard and no cleanable, was there
  data_cases : (t : ℕ) (o : Object) → at heap t ≡ Some o → ((t ≡ a) × (o ≡ Guard guard)) ⊎ ((t ≡ b) × (o ≡ Cleanable cleanable))
      ⊎ (at m.objects t ≡ Some o)
  data_cases t o e = elim (cases_eq t a) [
    | inl p ↦ inl (p, some_same o (Guard guard) (sym e ∙ ap (at heap) p ∙ a_here))
    | inr d ↦ elim (cases_eq t b) [
      | inl p ↦ inr (inl (p, some_same o (Cleanable cleanable) (sym e ∙ ap (at heap) p ∙ b_here)))
      | inr f ↦ inr (inr (sym (beside t d f) ∙ e))
    ]
  ]

  old_plain : (t : ℕ) (fields : Contents) → at heap t ≡ Some (Plain fields) → at m.objects t ≡ Some (Plain fields)
  old_plain t fields e =
      elim (data_cases t (Plain fields) e) [ inl y ↦ absurd (cc y.1) | inr z ↦ elim z [ inl y ↦ absurd (cc y.1) | inr y ↦ y ] ]

  old_reference : (t : ℕ) (r : ReferenceOf) → at heap t ≡ Some (Reference r) → at m.objects t ≡ Some (Reference r)
  old_reference t r e =
      elim (data_cases t (Reference r) e) [ inl y ↦ absurd (cc y.1) | inr z ↦ elim z [ inl y ↦ absurd (cc y.1) | inr y ↦ y ] ]

  old_queue : (t : ℕ) (members : List ℕ) → at heap t ≡ Some (Queue members) → at m.objects t ≡ Some (Queue members)
  old_queue t members e =
      elim (data_cases t (Queue members) e) [ inl y ↦ absurd (cc y.1) | inr z ↦ elim z [ inl y ↦ absurd (cc y.1) | inr y ↦ y ] ]

  guard_cases : (t : ℕ) (g : GuardOf) → at heap t ≡ Some (Guard g) → ((t ≡ a) × (g ≡ guard)) ⊎ IsGuardAt m t g
  guard_cases t g e = elim (data_cases t (Guard g) e) [
    | inl y ↦ let both : Guard g ≡ Guard guard = y.1 in let same : g ≡ guard = cc both in inl (y.0, same)
    | inr z ↦ elim z [ inl y ↦ absurd (cc y.1) | inr y ↦ inr y ]
  ]

  cleanable_cases : (t : ℕ) (c : CleanableOf) → at heap t ≡ Some (Cleanable c) → ((t ≡ b) × (c ≡ cleanable)) ⊎ IsCleanableAt m t c
  cleanable_cases t c e = elim (data_cases t (Cleanable c) e) [
    | inl y ↦ absurd (cc y.1)
    | inr z ↦ elim z [
      | inl y ↦ let both : Cleanable c ≡ Cleanable cleanable = y.1 in let same : c ≡ cleanable = cc both in inl (y.0, same)
      | inr y ↦ inr y
    ]
  ]

  unspent_cases : (t : ℕ) (c : CleanableOf) → IsUnspent n t c → ((t ≡ b) × (c ≡ cleanable)) ⊎ IsUnspent m t c
  unspent_cases t c u = elim (cleanable_cases t c u.there) [ inl y ↦ inl y | inr y ↦ inr (record { there = y; unspent = u.unspent }) ]

  -- a guard's cleanable was there before it
  behind : (t : ℕ) (g : GuardOf) → IsGuardAt m t g → g.cleanable ≡ b → ⊥
  behind t g e p = let c = w.slots.guarded t g e in not_b g.cleanable (Cleanable c.0) c.1 p

  -- ---- Sessions and resources

  abbrev new : Session
  new = record session { fence = Some a; call = CallOpening rid }

  here : IsSessionAt n k new
  here = change_here m.mutators k (calling (Some a) (CallOpening rid)) session x.there

  session_cases : (j : ℕ) (z : Session) → IsSessionAt n j z → ((j ≡ k) × (z ≡ new)) ⊎ ((j ≡ k → ⊥) × IsSessionAt m j z)
  session_cases j z p = elim (cases_eq j k) [
    | inl q ↦ inl (q, some_same z new (sym p ∙ ap (at mutators) q ∙ here))
    | inr q ↦ inr (q, sym (change_beside m.mutators k j (calling (Some a) (CallOpening rid)) q) ∙ p)
  ]

  resource_here : HasResource n rid m.next_action Opening
  resource_here = found_new rid_key m.resources resource x.new_rid

  not_new : (r action : ℕ) (state : ResourceState) → HasResource m r action state → r ≡ rid → ⊥
  not_new r action state h e =
      no_some (record { rid = rid; action = action; state = state }) (sym x.new_rid ∙ subst (λ i. HasResource m i action state) e h)

  resource_over : (r action : ℕ) (state : ResourceState) → HasResource m r action state → HasResource n r action state
  resource_over r action state h = found_beside rid_key m.resources resource r (λ e. not_new r action state h (sym e)) ∙ h

  resource_cases : (r action : ℕ) (state : ResourceState) → HasResource n r action state
      → ((r ≡ rid) × (action ≡ m.next_action) × (state ≡ Opening)) ⊎ HasResource m r action state
  resource_cases r action state h = elim (cases_eq r rid) [
    | inl p ↦ let both = resource_same n rid action m.next_action state Opening (subst (λ i. HasResource n i action state) p h)
        resource_here in inl (p, both.0, both.1)
    | inr d ↦ inr (sym (found_beside rid_key m.resources resource r (λ e. d (sym e))) ∙ h)
  ]

  -- ---- Slots

  edges_there : (t y : ℕ) → y ∈ edges_from UpToPhantom heap t → IsTrue (is_some (at heap y))
  edges_there t y h = elim (cases_eq t a) [
    | inl p ↦
        let e : y ∈ (b ∷ []) = subst (λ o. y ∈ flat_map (edges UpToPhantom) (option_to_list o)) (ap (at heap) p ∙ a_here) h in
        elim (in_cons y b [] e) [ inl q ↦ subst (λ i. IsTrue (is_some (at heap i))) (sym q) (ap is_some b_here) | inr q ↦ nothing y q ]
    | inr d ↦ elim (cases_eq t b) [
      | inl p ↦
          let e : y ∈ (a ∷ []) = subst (λ o. y ∈ flat_map (edges UpToPhantom) (option_to_list o)) (ap (at heap) p ∙ b_here) h in
          elim (in_cons y a [] e) [ inl q ↦ subst (λ i. IsTrue (is_some (at heap i))) (sym q) (ap is_some a_here) | inr q ↦ nothing y q ]
      | inr f ↦ alive y (w.slots.edges t y (subst (λ o. y ∈ flat_map (edges UpToPhantom) (option_to_list o)) (beside t d f) h))
    ]
  ]

  held_there : (j h u : ℕ) (z : Session) → IsSessionAt n j z → at z.handles h ≡ Some u → (i : ℕ) × (y : Session) × IsSessionAt m i y
      × (at y.handles h ≡ Some u)
  held_there j h u z e f = elim (session_cases j z e) [
    | inl y ↦ (k, session, x.there, ap (λ v. at v.handles h) (sym y.1) ∙ f)
    | inr y ↦ (j, z, y.1, f)
  ]

  held_object : (j h u : ℕ) (z : Session) → IsSessionAt n j z → at z.handles h ≡ Some u → IsObjectAt m u
  held_object j h u z e f = let r = held_there j h u z e f in w.slots.roots u (root_from m u (held r.0 h r.1 r.2 r.3))

  fence_there : (j u : ℕ) (z : Session) → IsSessionAt n j z → z.fence ≡ Some u → IsTrue (is_some (at heap u))
  fence_there j u z e f = elim (session_cases j z e) [
    | inl y ↦ let same : a ≡ u = some_same a u (ap (λ v. v.fence) (sym y.1) ∙ f) in
        subst (λ i. IsTrue (is_some (at heap i))) same (ap is_some a_here)
    | inr y ↦ alive u (w.slots.roots u (root_from m u (fencing j z y.1 f)))
  ]

  active_there : (u : ℕ) → is_own_root (at heap u) ≡ true → IsTrue (is_some (at heap u))
  active_there u h =
      elim (at heap u) as (λ o. is_own_root o ≡ true → IsTrue (is_some o)) [ None ↦ λ e. absurd (cc e) | Some o ↦ λ _. refl ] h

  root_there : (u : ℕ) → IsRoot n u → IsTrue (is_some (at heap u))
  root_there u (held j h z e f) = alive u (held_object j h u z e f)
  root_there u (fencing j z e f) = fence_there j u z e f
  root_there u (named h) = alive u (w.slots.roots u (root_from m u (named h)))
  root_there u (waiting h) = alive u (w.slots.roots u (root_from m u (waiting h)))
  root_there u (lining h) = alive u (w.slots.roots u (root_from m u (lining h)))
  root_there u (active h) = active_there u h

  slots : AreSlotsNamed n
  slots =
      record {
        edges = edges_there;
        roots = λ u h. root_there u (root_gives n u h);
        queues = λ u q r e f. let y = w.slots.queues u q r (old_reference u r e) f in (y.0, stays q (Queue y.0) y.1);
        guarded = λ u g e. elim (guard_cases u g e) [
          | inl y ↦ (cleanable, ap (λ z. at heap z.cleanable) y.1 ∙ b_here)
          | inr y ↦ let c = w.slots.guarded u g y in (c.0, stays g.cleanable (Cleanable c.0) c.1)
        ];
      }

  references : AreReferences n
  references =
      record {
        states = λ t r e. w.references.states t r (old_reference t r e);
        members = λ q t members e h. let y = w.references.members q t members (old_queue q members e) h in
            (y.0, stays t (Reference y.0) y.1, y.2);
        once = λ q members e. w.references.once q members (old_queue q members e);
        in_one = λ p q t xs ys e f. w.references.in_one p q t xs ys (old_queue p xs e) (old_queue q ys f);
      }

  -- ---- Lists

  abbrev state_of : Option Object → Option RefState
  state_of o = option_and_then (λ r. Some r.state) (option_and_then as_reference o)

  abbrev clean_state_of : Option Object → Option CleanState
  clean_state_of o = option_and_then (λ c. Some c.state) (option_and_then as_cleanable o)

  state_same : (t : ℕ) → state_at n t ≡ state_at m t
  state_same t = elim (cases_eq t a) [
    | inl p ↦ ap state_of (ap (at heap) p ∙ a_here) ∙ sym (ap state_of (ap (at m.objects) p ∙ x.a_free))
    | inr d ↦ elim (cases_eq t b) [
      | inl p ↦ ap state_of (ap (at heap) p ∙ b_here) ∙ sym (ap state_of (ap (at m.objects) p ∙ x.b_free))
      | inr f ↦ ap state_of (beside t d f)
    ]
  ]

  clean_state_over : (t : ℕ) (state : CleanState) → clean_state_at m t ≡ Some state → clean_state_at n t ≡ Some state
  clean_state_over t state e = elim (cases_eq t a) [
    | inl p ↦ no_some state (sym (ap clean_state_of (ap (at m.objects) p ∙ x.a_free)) ∙ e)
    | inr d ↦ elim (cases_eq t b) [
      | inl p ↦ no_some state (sym (ap clean_state_of (ap (at m.objects) p ∙ x.b_free)) ∙ e)
      | inr f ↦ ap clean_state_of (beside t d f) ∙ e
    ]
  ]

  clean_state_back : (t : ℕ) (state : CleanState) → (state ≡ Armed → ⊥) → clean_state_at n t ≡ Some state → clean_state_at m t ≡ Some state
  clean_state_back t state g e = elim (cases_eq t a) [
    | inl p ↦ no_some state (sym (ap clean_state_of (ap (at heap) p ∙ a_here)) ∙ e)
    | inr d ↦ elim (cases_eq t b) [
      | inl p ↦ absurd (g (some_same state Armed (sym e ∙ ap clean_state_of (ap (at heap) p ∙ b_here))))
      | inr f ↦ sym (ap clean_state_of (beside t d f)) ∙ e
    ]
  ]

  lists : AreLists n
  lists =
      record {
        pending_once = w.lists.pending_once;
        line_once = w.lists.line_once;
        pending_references = λ u e. w.lists.pending_references u (sym (state_same u) ∙ e);
        pending_cleanables = λ u e. w.lists.pending_cleanables u (clean_state_back u PendingClean (λ z. absurd (cc z)) e);
        pending_others = λ u h. elim (w.lists.pending_others u h) [
          | inl e ↦ inl (state_same u ∙ e)
          | inr y ↦ inr (elim y [
            | inl e ↦ inl (state_same u ∙ e)
            | inr z ↦ inr (elim z [
              | inl e ↦ inl (state_same u ∙ e)
              | inr v ↦ inr (elim v [ inl e ↦ inl (clean_state_over u PendingClean e) | inr e ↦ inr (clean_state_over u Spent e) ])
            ])
          ])
        ];
        lined = λ u e. w.lists.lined u (clean_state_back u Lined (λ z. absurd (cc z)) e);
        line_others =
            λ u h. elim (w.lists.line_others u h) [ inl e ↦ inl (clean_state_over u Lined e) | inr e ↦ inr (clean_state_over u Spent e) ];
      }

  sessions_kept : AreSessions n
  sessions_kept =
      record {
        places = λ j z e. elim (session_cases j z e) [
          | inl y ↦ subst (λ v. (length v.handles ≡ 251) × (at v.handles 0 ≡ None)) (sym y.1) (w.sessions.places k session x.there)
          | inr y ↦ w.sessions.places j z y.1
        ];
        opening = λ j z e. elim (session_cases j z e) [
          | inl y ↦ subst (λ v. OpeningHasRoom v v.call) (sym y.1) x.room
          | inr y ↦ w.sessions.opening j z y.1
        ];
        names = w.sessions.names;
        names_limit = w.sessions.names_limit;
      }

  -- ---- Actions

  older : (action : ℕ) → IsAction m action → IsAction n action
  older action h = (h.0, omega (arith, h.1))

  count_one_more : count_by is_unspent_place heap ≡ count_by is_unspent_place m.objects + 1
  count_one_more =
      let none_there : at first b ≡ None = set_other m.objects a b (Some (Guard guard)) x.apart ∙ x.b_free in
      let one : ◌≡◌ {A = ℕ} (count_by is_unspent_place first + 0) (count_by is_unspent_place m.objects + 0) =
      count_set m.objects a None (Some (Guard guard)) x.a_free x.a_inside in
      let two : ◌≡◌ {A = ℕ} (count_by is_unspent_place heap + 0) (count_by is_unspent_place first + 1) =
      count_set first b None (Some (Cleanable cleanable)) none_there b_inside in
      omega (arith, one, two)

  no_new_job : job_of m m.next_action ≡ None
  no_new_job =
      none_found {A = JobOf} (λ j. j.action) m.jobs m.next_action
      (all_weaker (λ j. IsAction m j.action) (λ j. j.action ≡ m.next_action → ⊥) (λ j h e. absurd (omega (arith, h.1, e))) m.jobs
      w.actions.of_jobs)

  not_next : (t : ℕ) (c : CleanableOf) → IsCleanableAt m t c → c.action ≡ m.next_action → ⊥
  not_next t c e p = let h = w.actions.of_cleanables t c e in absurd (omega (arith, h.1, p))

  actions_kept : AreActions n
  actions_kept =
      record {
        cleanables = λ u v c d p q e. elim (unspent_cases u c p) [
          | inl y ↦ elim (unspent_cases v d q) [
            | inl z ↦ y.0 ∙ sym z.0
            | inr z ↦ absurd (not_next v d z.there (sym e ∙ ap (λ i. i.action) y.1))
          ]
          | inr y ↦ elim (unspent_cases v d q) [
            | inl z ↦ absurd (not_next u c y.there (e ∙ ap (λ i. i.action) z.1))
            | inr z ↦ w.actions.cleanables u v c d y z e
          ]
        ];
        apart = λ u c p. elim (unspent_cases u c p) [
          | inl y ↦ ap (λ i. job_of m i.action) y.1 ∙ no_new_job
          | inr y ↦ w.actions.apart u c y
        ];
        jobs = w.actions.jobs;
        of_cleanables = λ u c e. elim (cleanable_cases u c e) [
          | inl y ↦ let same = ap (λ i. i.action) y.1 in (omega (arith, w.actions.room, same), omega (arith, same))
          | inr y ↦ older c.action (w.actions.of_cleanables u c y)
        ];
        of_jobs = all_weaker (λ j. IsAction m j.action) (λ j. IsAction n j.action) (λ j h. older j.action h) m.jobs w.actions.of_jobs;
        of_resources =
            all_with rid_key (λ r. IsAction n r.action) m.resources resource (omega (arith, w.actions.room), omega arith)
            (all_weaker (λ r. IsAction m r.action) (λ r. IsAction n r.action) (λ r h. older r.action h) m.resources w.actions.of_resources);
        of_faults = all_weaker (λ f. IsAction m f.action) (λ f. IsAction n f.action) (λ f h. older f.action h) m.faults w.actions.of_faults;
        referents = λ u c e d. elim (cleanable_cases u c e) [
          | inl y ↦ absurd (d (ap (λ i. i.state) y.1))
          | inr y ↦ w.actions.referents u c y d
        ];
        cleaners = w.actions.cleaners;
        taken = w.actions.taken;
        room = omega (arith, w.actions.room, count_one_more);
      }

  -- ---- Resources

  b_unspent : IsUnspent n b cleanable
  b_unspent = record { there = b_here; unspent = λ e. absurd (cc e) }

  cleanable_over : (r action : ℕ) → HasCleanable m r action → HasCleanable n r action
  cleanable_over r action h = (h.0, h.1, record { there = stays h.0 (Cleanable h.1) h.2.there; unspent = h.2.unspent }, h.3, h.4)

  works_on : (c : CleanableOf) (r : ℕ) → c ≡ cleanable → c.work ≡ WorkOn r → r ≡ rid
  works_on c r e f = let both : WorkOn r ≡ WorkOn rid = sym f ∙ ap (λ i. i.work) e in cc both

  resources_kept : AreResources n
  resources_kept =
      record {
        rising = rising_with rid_key m.resources resource x.new_rid w.resources.rising;
        worked = λ r action state h. elim (resource_cases r action state h) [
          | inl y ↦ worker_from n r action state (λ e. absurd (cc (e, y.2))) (b, cleanable, b_unspent, sym y.1, ap WorkOn (sym y.0))
          | inr y ↦ worker_over m n r action state (cleanable_over r action) (λ z. z) (w.resources.worked r action state y)
        ];
        of_cleanables = λ u r c p e. elim (unspent_cases u c p) [
          | inl y ↦ (
            Opening,
            subst (λ i. HasResource n i c.action Opening) (sym (works_on c r y.1 e))
                (subst (λ i. HasResource n rid i Opening) (sym (ap (λ i. i.action) y.1)) resource_here),
            λ z. absurd (cc z),
          )
          | inr y ↦ let h = w.resources.of_cleanables u r c y e in (h.0, resource_over r c.action h.0 h.1, h.2)
        ];
        idle = λ u r c p e d. elim (unspent_cases u c p) [
          | inl y ↦ absurd (d (ap (λ i. i.state) y.1))
          | inr y ↦ resource_over r c.action Idle (w.resources.idle u r c y e d)
        ];
        of_jobs = λ j r e f. resource_over r j.action Closing (w.resources.of_jobs j r e f);
        one_guard = λ u v g h e f p. elim (guard_cases u g e) [
          | inl y ↦ elim (guard_cases v h f) [
            | inl z ↦ y.0 ∙ sym z.0
            | inr z ↦ absurd (behind v h z (sym p ∙ ap (λ i. i.cleanable) y.1))
          ]
          | inr y ↦ elim (guard_cases v h f) [
            | inl z ↦ absurd (behind u g y (p ∙ ap (λ i. i.cleanable) z.1))
            | inr z ↦ w.resources.one_guard u v g h y z p
          ]
        ];
        guards = λ u g c e f. elim (guard_cases u g e) [
          | inl y ↦
              let same : c ≡ cleanable = cleanable_same n b c cleanable (ap (λ i. at heap i.cleanable) (sym y.1) ∙ f) b_here in
              inr (record {
                armed = ap (λ i. i.state) same;
                referent =
                    ap (λ i. i.referent) same ∙ ap (λ i. Some i) (sym y.0);
                work = ap (λ i. i.work) same ∙ ap (λ i. WorkOn i.rid) (sym y.1);
              })
          | inr y ↦ elim (cleanable_cases g.cleanable c f) [
            | inl z ↦ absurd (behind u g y z.0)
            | inr z ↦ elim (w.resources.guards u g c y z) [
              | inl v ↦ inl v
              | inr v ↦
                  inr (record { armed = v.armed; referent = v.referent; work = v.work })
            ]
          ]
        ];
        guarded = λ u r c e p f. elim (cleanable_cases u c e) [
          | inl y ↦ (a, guard, a_here, sym y.0)
          | inr y ↦ let g = w.resources.guarded u r c y p f in (g.0, g.1, stays g.0 (Guard g.1) g.2, g.3)
        ];
      }

  -- ---- Calls

  fencing_over : (z : Session) (r : ℕ) (state : ResourceState) → IsFencing m z r state → IsFencing n z r state
  fencing_over z r state f = (
    f.0,
    f.1,
    f.2,
    f.3,
    stays f.0 (Guard f.1) f.4,
    f.5,
    stays f.1.cleanable (Cleanable f.2) f.6,
    f.7,
    resource_over r f.2.action state f.8,
  )

  fits_over : (j : ℕ) (z : Session) (call : Call) → FitsItsCall m j z call → FitsItsCall n j z call
  fits_over j z Free f = f
  fits_over j z (CallOpening r) f = fencing_over z r Opening f
  fits_over j z (CallOut r) f = fencing_over z r Out f
  fits_over j z (CallJob action) f = f

  call_over : (j : ℕ) (call : Call) → (call ≡ Free → ⊥) → IsCallOf m j call → IsCallOf n j call
  call_over j call d h =
      let apart : j ≡ k → ⊥ =
      λ e. d (sym h.2 ∙ ap (λ z. z.call) (session_same m k h.0 session (subst (λ i. IsSessionAt m i h.0) e h.1) x.there) ∙ x.free) in
      (h.0, change_beside m.mutators k j (calling (Some a) (CallOpening rid)) apart ∙ h.1, h.2)

  no_old_call : (j : ℕ) (z : Session) → IsSessionAt m j z → z.call ≡ CallOpening rid → ⊥
  no_old_call j z e f =
      let fence = subst (λ call. FitsItsCall m j z call) f (w.calls.calls j z e) in
      not_new rid fence.2.action Opening fence.8 refl

  calls_kept : AreCalls n
  calls_kept =
      record {
        calls = λ j z e. elim (session_cases j z e) [
          | inl y ↦ subst (λ v. FitsItsCall n j v v.call) (sym y.1) (a, guard, cleanable, refl, a_here, refl, b_here, refl, resource_here)
          | inr y ↦ fits_over j z z.call (w.calls.calls j z y.1)
        ];
        opening = λ r action h. elim (resource_cases r action Opening h) [
          | inl y ↦ (k, (new, here, ap CallOpening (sym y.0)))
          | inr y ↦ let c = w.calls.opening r action y in (c.0, call_over c.0 (CallOpening r) (λ e. absurd (cc e)) c.1)
        ];
        out = λ r action h. elim (resource_cases r action Out h) [
          | inl y ↦ absurd (cc y.2)
          | inr y ↦ let c = w.calls.out r action y in (c.0, call_over c.0 (CallOut r) (λ e. absurd (cc e)) c.1)
        ];
        one_call = λ i j call p q d. elim (session_cases i p.0 p.1) [
          | inl y ↦ elim (session_cases j q.0 q.1) [
            | inl z ↦ y.0 ∙ sym z.0
            | inr z ↦ absurd (no_old_call j q.0 z.1 (q.2 ∙ sym p.2 ∙ ap (λ v. v.call) y.1))
          ]
          | inr y ↦ elim (session_cases j q.0 q.1) [
            | inl z ↦ absurd (no_old_call i p.0 y.1 (p.2 ∙ sym q.2 ∙ ap (λ v. v.call) z.1))
            | inr z ↦ w.calls.one_call i j call (p.0, y.1, p.2) (q.0, z.1, q.2) d
          ]
        ];
        jobs = λ j e d. call_over j.by (CallJob j.action) (λ z. absurd (cc z)) (w.calls.jobs j e d);
      }

  -- ---- What nobody names

  private_back : (t : ℕ) → IsObjectAt m t → IsPrivate n t → IsPrivate m t
  private_back t o (inl p) = elim (cleanable_cases t p.0 p.2) [
    | inl y ↦ let none = ap (λ i. is_some (at m.objects i)) y.0 ∙ ap is_some x.b_free in absurd (cc (o, none))
    | inr y ↦ inl (p.0, p.1, y, p.3)
  ]
  private_back t o (inr p) = elim (guard_cases t p.0 p.2) [
    | inl y ↦ let none = ap (λ i. is_some (at m.objects i)) y.0 ∙ ap is_some x.a_free in absurd (cc (o, none))
    | inr y ↦ elim (cleanable_cases p.0.cleanable p.1 p.3) [
      | inl z ↦ absurd (behind t p.0 y z.0)
      | inr z ↦ elim (resource_cases p.0.rid p.1.action Opening p.5) [
        | inl v ↦ absurd (not_next p.0.cleanable p.1 z v.1)
        | inr v ↦ inr (p.0, p.1, y, z, p.4, v)
      ]
    ]
  ]

  unnamed : ArePrivate n
  unnamed =
      record {
        handles = λ j h u z e f p. let r = held_there j h u z e f in
            w.unnamed.handles r.0 h u r.1 r.2 r.3 (private_back u (held_object j h u z e f) p);
        names = λ u h p. w.unnamed.names u h (private_back u (w.slots.roots u (root_from m u (named h))) p);
        fields = λ t u fields e h p. let o = old_plain t fields e in
            w.unnamed.fields t u fields o h (private_back u (strong_object m w t u (Plain fields) o h) p);
        references = λ t u r e f p. let o = old_reference t r e in
            w.unnamed.references t u r o f (private_back u (referent_object m w t u (Reference r) o f) p);
      }

  pub prepared_is_well_formed : IsWellFormed n
  prepared_is_well_formed =
      record {
        slots = slots;
        references = references;
        lists = lists;
        sessions = sessions_kept;
        actions = actions_kept;
        resources = resources_kept;
        calls = calls_kept;
        unnamed = unnamed;
        limits = limits_stay m n w.limits (length-set first b (Some (Cleanable cleanable)) ∙ length-set m.objects a (Some (Guard guard)))
            (change_as_long m.mutators k (calling (Some a) (CallOpening rid)));
        faults = w.faults;
        notes = w.notes;
        seen_rising = w.seen_rising;
        seen_within = seen_stays m.seen m.objects heap w.seen_within
            (length-set first b (Some (Cleanable cleanable)) ∙ length-set m.objects a (Some (Guard guard)));
        seen_in_cycle = w.seen_in_cycle;
      }

-- two fresh slots
pub record AreTwo (heap : Heap) (a b : ℕ) : Type 0 where
  pub a_inside : a < length heap
  pub b_inside : b < length heap
  pub a_free : at heap a ≡ None
  pub b_free : at heap b ≡ None
  pub apart : b ≡ a → ⊥

pub two_fresh : (heap : Heap) (a b : ℕ) → IsFresh heap 2 (a ∷ b ∷ []) → AreTwo heap a b
two_fresh heap a b f =
    let p = and_parts (is_free heap a) (list_all (is_free heap) (b ∷ [])) f.free in
    let q = and_parts (is_free heap b) (list_all (is_free heap) []) p.1 in
    let r = free_is heap a p.0 in
    let s = free_is heap b q.0 in
    let d = and_parts (not ((b ∷ []) ∋ a)) (is_distinct (b ∷ [])) f.distinct in
    record {
      a_inside = r.0;
      b_inside = s.0;
      a_free = r.1;
      b_free = s.1;
      apart = λ e. absurd (both_ways ((b ∷ []) ∋ a) (not-true ((b ∷ []) ∋ a) d.0) (in_front a b [] (sym e)));
    }

none_if : {A : Type 0} (o : Option A) → is_none o ≡ true → o ≡ None
none_if None e = refl
none_if (Some x) e = absurd (cc e)

room_for_one : (m : Machine) (k : ℕ) (s : Session) → IsSessionAt m k s → not (has_free_handle m k) ≡ false → occupied s.handles ≤ 249
room_for_one m k s e h =
    let l = ltb-true (occupied s.handles) 250 (sym (ap (some_and (λ s. nat_lt (occupied s.handles) 250)) e)
    ∙ not-false (has_free_handle m k) h) in
    omega (arith, l)

prepares_in : (m : Machine) (k rid a b : ℕ) → IsWellFormed m → refusal m (Prepare k) ≡ None → IsTrue (is_none (resource_at m rid))
    → AreTwo m.objects a b → IsWellFormed (prepared m k a b rid)
prepares_in m k rid a b w r new two =
    let ok = allowed m (Prepare k) r in
    let s = joined_session m k (ok NoSession refl) in
    let x : IsPrepared m k s.0 a b rid =
    record {
      there = s.1;
      free = free_session m k s.0 s.1 (ok Busy refl);
      room = room_for_one m k s.0 s.1 (ok HandlesFull refl);
      a_inside = two.a_inside;
      b_inside = two.b_inside;
      a_free = two.a_free;
      b_free = two.b_free;
      apart = two.apart;
      new_rid = none_if (resource_at m rid) new;
    } in
    subst (λ l. IsWellFormed (with_call (record m {
      objects = set_at (set_at m.objects a (Guard (record { rid = rid; cleanable = b }))) b
          (Cleanable (record { referent = Some a; action = m.next_action; work = WorkOn rid; state = Armed }));
      resources = l;
      next_action = m.next_action + 1;
    }) k (Some a) (CallOpening rid))) (sym (with_resource-keyed m.resources
    (record { rid = rid; action = m.next_action; state = Opening })))
    (prepared_is_well_formed m k s.0 a b rid w x)

pub keeps_prepare : (m : Machine) (k rid : ℕ) (fresh : List ℕ) → IsWellFormed m → refusal m (Prepare k) ≡ None
    → IsTrue (is_none (resource_at m rid)) → IsFresh m.objects 2 fresh → IsWellFormed (after m (Prepare k) (Prepared rid) fresh)
keeps_prepare m k rid [] w r new f = absurd (omega (arith, f.count))
keeps_prepare m k rid (a ∷ []) w r new f = absurd (omega (arith, f.count))
keeps_prepare m k rid (a ∷ b ∷ []) w r new f = prepares_in m k rid a b w r new (two_fresh m.objects a b f)
keeps_prepare m k rid (a ∷ b ∷ c ∷ fresh) w r new f = absurd (omega (arith, f.count))
