-- HandOver leads from a well-formed machine to a well-formed one.
use Rattle.std.proofs.Common.{◌≡◌, ℕ, true, not, cond, List, [], ◌∷◌, ◌++◌, refl, sym, ◌∙◌, ap, subst, ◌⊎◌, inl, inr, arith, Option, Some}
use Rattle.std.proofs.Common.{None, is_some, IsTrue, option_map, option_and_then, count_by}
use Rattle.std.proofs.lemmas.Bool.{cases_eq, both_ways}
use Rattle.jlr_machine.specs.declared.object.Object.{Object}
use Rattle.jlr_machine.specs.declared.object.Object.TheVariants.{Plain, Reference, Queue, Cleaner, Cleanable, Guard}
use Rattle.jlr_machine.specs.declared.object.Reference.{Reference as ReferenceOf}
use Rattle.jlr_machine.specs.declared.object.Cleanable.{Cleanable as CleanableOf}
use Rattle.jlr_machine.specs.declared.object.CleanState.{CleanState}
use Rattle.jlr_machine.specs.declared.object.CleanState.TheVariants.{Armed, Pending as PendingClean, Lined, Spent}
use Rattle.jlr_machine.specs.declared.object.RefState.{RefState}
use Rattle.jlr_machine.specs.declared.object.RefState.TheVariants.{Fresh, Pending, Queued, Removed}
use Rattle.jlr_machine.specs.declared.machine.Machine.{Machine}
use Rattle.jlr_machine.specs.declared.machine.Session.{Session}
use Rattle.jlr_machine.specs.declared.machine.Call.{Call}
use Rattle.jlr_machine.specs.declared.machine.Call.TheVariants.{Free, Opening as CallOpening, Out as CallOut, Job as CallJob}
use Rattle.jlr_machine.specs.declared.machine.ResourceState.{ResourceState}
use Rattle.jlr_machine.specs.declared.machine.ResourceState.TheVariants.{Opening, Idle, Out}
use Rattle.jlr_machine.specs.Objects.{Heap, at, change_at, ◌∈◌, ◌∋◌, is_distinct, as_reference, as_cleanable, with_cleanable}
use Rattle.jlr_machine.specs.Objects.{with_reference, with_members, is_spent, queue_ahead, is_unqueued}
use Rattle.jlr_machine.specs.Lookups.{with_object, job_of}
use Rattle.jlr_machine.specs.Refusals.{refusal}
use Rattle.jlr_machine.specs.Calls.{after, handed_over, delivered, handed, handed_reference, handed_cleanable, enqueued, to_queue}
use Rattle.jlr_machine.specs.Calls.{unreferred}
use Rattle.jlr_machine.specs.WellFormed.{IsReferenceAt, IsCleanableAt, IsObjectAt, HasResource, IsFencing, FitsItsCall, FitsItsState}
use Rattle.jlr_machine.specs.WellFormed.{IsUnspent, IsWellFormed, AreSlotsNamed, AreReferences, AreLists, AreActions, AreResources}
use Rattle.jlr_machine.specs.WellFormed.{IsPrivate, IsAction, state_at, clean_state_at, is_unspent_place}
use Rattle.std.proofs.lemmas.Bool.{and_parts, and_from, not-true, not_from_false, false_from_ne_true}
use Rattle.jlr_machine.specs.declared.ask.Ask.TheVariants.{HandOver}
use Rattle.jlr_machine.specs.declared.ask.Answer.{Answer}
use Rattle.jlr_laws.proofs.Sets.{nothing, in_front, in_rest, in_cons}
use Rattle.jlr_laws.proofs.Clearing.{in_append, in_left, in_right}
use Rattle.jlr_laws.proofs.Frames.{no_some, some_same, place_within, IsRoot, root_gives, root_from, limits_stay, seen_stays, change_as_long}
use Rattle.jlr_laws.proofs.Frames.IsRoot.{held, fencing, named, waiting, lining, active}
use Rattle.jlr_laws.proofs.Changes.{change_here, change_beside, cleanable_same, HasCleanable, worker_over}
use Rattle.jlr_laws.proofs.Allowed.{some_there}
use Rattle.jlr_laws.proofs.Listed.{as_listed, listed_is_well_formed}
use Rattle.jlr_laws.proofs.keeps.TakeUps.{count_set}
use Rattle.jlr_laws.proofs.keeps.References.{enqueue_kept}
use Rattle.jlr_laws.proofs.Retouched.{IsRetouched, not_armed, back, over, cleanable_cases, alive, edges_back, active_back, state_same}
use Rattle.jlr_laws.proofs.Retouched.{clean_state_here, clean_state_was, clean_state_beside, references_kept, queue_over, cleanable_there}
use Rattle.jlr_laws.proofs.Retouched.{private_back}

-- ---- An object of the pending list that is not Pending any more

pub pending_dropped : (m : Machine) (s : ℕ) (rest : List ℕ) → IsWellFormed m → m.pending ≡ s ∷ rest → (state_at m s ≡ Some Pending → ⊥)
    → (clean_state_at m s ≡ Some PendingClean → ⊥) → IsWellFormed (record m { pending = rest })
pending_dropped m s rest w e not_reference not_cleanable =
    let o = as_listed m w in
    let once = and_parts (not (rest ∋ s)) (is_distinct rest) (subst (λ l. IsTrue (is_distinct l)) e o.pending_once) in
    listed_is_well_formed m m.names rest m.line m.cycle_open m.seen w
    (record {
      names_there = o.names_there;
      names_distinct = o.names_distinct;
      names_limit = o.names_limit;
      pending_once = once.1;
      pending_less = λ t h. subst (λ l. t ∈ l) (sym e) (in_rest t s rest h);
      pending_references = λ t f. elim (in_cons t s rest (subst (λ l. t ∈ l) e (o.pending_references t f))) [
        | inl p ↦
            absurd (not_reference (ap (state_at m) (sym p) ∙ f))
        | inr h ↦ h
      ];
      pending_cleanables = λ t f. elim (in_cons t s rest (subst (λ l. t ∈ l) e (o.pending_cleanables t f))) [
        | inl p ↦
            absurd (not_cleanable (ap (clean_state_at m) (sym p) ∙ f))
        | inr h ↦ h
      ];
      line_once = o.line_once;
      line_less = o.line_less;
      lined = o.lined;
      seen_rising = o.seen_rising;
      seen_within = o.seen_within;
      seen_in_cycle = o.seen_in_cycle;
    })

abbrev state_of : Option Object → Option RefState
state_of o = option_and_then (λ r. Some r.state) (option_and_then as_reference o)

abbrev clean_state_of : Option Object → Option CleanState
clean_state_of o = option_and_then (λ c. Some c.state) (option_and_then as_cleanable o)

-- ---- A cleanable is lined up

distinct_after : (xs : List ℕ) (s : ℕ) → IsTrue (is_distinct xs) → (s ∈ xs → ⊥) → IsTrue (is_distinct (xs ++ s ∷ []))
distinct_after [] s h d = refl
distinct_after (x ∷ xs) s h d =
    let p = and_parts (not (xs ∋ x)) (is_distinct xs) h in
    let apart : x ∈ (xs ++ s ∷ []) → ⊥ = λ i. elim (in_append x xs (s ∷ []) i) [
      | inl j ↦ both_ways (xs ∋ x) (not-true (xs ∋ x) p.0) j
      | inr j ↦ elim (in_cons x s [] j) [ inl e ↦ d (in_front s x xs (sym e)) | inr k ↦ nothing x k ]
    ] in
    and_from (not ((xs ++ s ∷ []) ∋ x)) (is_distinct (xs ++ s ∷ []))
    (not_from_false ((xs ++ s ∷ []) ∋ x) (false_from_ne_true ((xs ++ s ∷ []) ∋ x) apart))
    (distinct_after xs s p.1 (λ i. d (in_rest s x xs i)))

abbrev lined_up : CleanableOf → CleanableOf
lined_up c = record c { state = Lined }

module _ (m : Machine) (s : ℕ) (rest : List ℕ) (c : CleanableOf) (w : IsWellFormed m) (e : m.pending ≡ s ∷ rest)
    (there : IsCleanableAt m s c) (waits : c.state ≡ PendingClean) where
  abbrev heap : Heap
  heap = change_at m.objects s (with_cleanable lined_up)

  abbrev line : List ℕ
  line = m.line ++ s ∷ []

  abbrev n : Machine
  n = record m { objects = heap; pending = rest; line = line }

  touched : IsRetouched m.objects heap s c (lined_up c)
  touched =
      record {
        there = there;
        here = change_here m.objects s (with_cleanable lined_up) (Cleanable c) there;
        others = λ u p. change_beside m.objects s u (with_cleanable lined_up) p;
        action = refl;
        work = refl;
        referent = w.actions.referents s c there (λ p. absurd (cc (p, waits)));
        passive = refl;
      }

  was : IsUnspent m s c
  was = record { there = there; unspent = λ p. absurd (cc (p, waits)) }

  unspent_back : (t : ℕ) (d : CleanableOf) → IsUnspent n t d → (old : CleanableOf) × IsUnspent m t old × (old.action ≡ d.action)
      × (old.work ≡ d.work) × ((old.state ≡ Armed) → d.state ≡ Armed)
  unspent_back t d u = elim (cleanable_cases m heap s c (lined_up c) touched t d u.there) [
    | inl y ↦ (
      c,
      subst (λ i. IsUnspent m i c) (sym y.0) was,
      ap (λ z. z.action) (sym y.1),
      ap (λ z. z.work) (sym y.1),
      λ p. absurd (cc (p, waits)),
    )
    | inr y ↦ (d, record { there = y.1; unspent = u.unspent }, refl, refl, λ p. p)
  ]

  unspent_over : (t : ℕ) (d : CleanableOf) → IsUnspent m t d → (new : CleanableOf) × IsUnspent n t new × (new.action ≡ d.action)
      × (new.work ≡ d.work)
  unspent_over t d u = elim (cases_eq t s) [
    | inl p ↦
        let same = cleanable_same m s c d there (subst (λ i. IsCleanableAt m i d) p u.there) in (
          lined_up c,
          record { there = ap (at heap) p ∙ touched.here; unspent = λ z. absurd (cc z) },
          ap (λ z. z.action) same,
          ap (λ z. z.work) same,
        )
    | inr p ↦ (d, record { there = touched.others t p ∙ u.there; unspent = u.unspent }, refl, refl)
  ]

  in_pending : (t : ℕ) → t ∈ m.pending → (t ≡ s) ⊎ (t ∈ rest)
  in_pending t h = in_cons t s rest (subst (λ l. t ∈ l) e h)

  from_rest : (t : ℕ) → t ∈ rest → t ∈ m.pending
  from_rest t h = subst (λ l. t ∈ l) (sym e) (in_rest t s rest h)

  once : (not (rest ∋ s) ≡ true) × (is_distinct rest ≡ true)
  once = and_parts (not (rest ∋ s)) (is_distinct rest) (subst (λ l. IsTrue (is_distinct l)) e w.lists.pending_once)

  not_in_rest : (t : ℕ) → t ∈ rest → t ≡ s → ⊥
  not_in_rest t h p = both_ways (rest ∋ s) (not-true (rest ∋ s) once.0) (subst (λ i. i ∈ rest) p h)

  state_was : clean_state_at m s ≡ Some PendingClean
  state_was = clean_state_was m heap s c (lined_up c) touched ∙ ap (λ z. Some z) waits

  not_in_line : s ∈ m.line → ⊥
  not_in_line h = elim (w.lists.line_others s h) [
    | inl f ↦ let both : PendingClean ≡ Lined = some_same PendingClean Lined (sym state_was ∙ f) in absurd (cc both)
    | inr f ↦ let both : PendingClean ≡ Spent = some_same PendingClean Spent (sym state_was ∙ f) in absurd (cc both)
  ]

  in_line : (t : ℕ) → t ∈ line → (t ∈ m.line) ⊎ (t ≡ s)
  in_line t h =
      elim (in_append t m.line (s ∷ []) h) [ inl i ↦ inl i | inr i ↦ inr (elim (in_cons t s [] i) [ inl p ↦ p | inr j ↦ nothing t j ]) ]

  root_there : (t : ℕ) → IsRoot n t → IsObjectAt m t
  root_there t (held j h z p q) = w.slots.roots t (root_from m t (held j h z p q))
  root_there t (fencing j z p q) = w.slots.roots t (root_from m t (fencing j z p q))
  root_there t (named h) = w.slots.roots t (root_from m t (named h))
  root_there t (waiting h) = w.slots.roots t (root_from m t (waiting (from_rest t h)))
  root_there t (lining h) = elim (in_line t h) [
    | inl i ↦ w.slots.roots t (root_from m t (lining i))
    | inr p ↦ subst (λ i. IsObjectAt m i) (sym p) (ap is_some there)
  ]
  root_there t (active h) = w.slots.roots t (root_from m t (active (active_back m heap s c (lined_up c) touched t h)))

  slots : AreSlotsNamed n
  slots =
      record {
        edges = λ t y h. alive m heap s c (lined_up c) touched y (w.slots.edges t y (edges_back m heap s c (lined_up c) touched t y h));
        roots = λ t h. alive m heap s c (lined_up c) touched t (root_there t (root_gives n t h));
        queues = λ t q r p f. queue_over m heap s c (lined_up c) touched q
            (w.slots.queues t q r (back m heap s c (lined_up c) touched t (Reference r) refl p) f);
        guarded = λ t g p. cleanable_there m heap s c (lined_up c) touched g.cleanable
            (w.slots.guarded t g (back m heap s c (lined_up c) touched t (Guard g) refl p));
      }

  references : AreReferences n
  references = let r = references_kept m heap s c (lined_up c) touched w.references in
      record { states = r.states; members = r.members; once = r.once; in_one = r.in_one }

  same_state : (t : ℕ) → state_at n t ≡ state_at m t
  same_state t = state_same m heap s c (lined_up c) touched t

  beside : (t : ℕ) → (t ≡ s → ⊥) → clean_state_at n t ≡ clean_state_at m t
  beside t p = clean_state_beside m heap s c (lined_up c) touched t p

  here : clean_state_at n s ≡ Some Lined
  here = clean_state_here m heap s c (lined_up c) touched

  lists : AreLists n
  lists =
      record {
        pending_once = once.1;
        line_once = distinct_after m.line s w.lists.line_once not_in_line;
        pending_references = λ t f. elim (in_pending t (w.lists.pending_references t (sym (same_state t) ∙ f))) [
          | inl p ↦ no_some Pending (sym (ap state_of (ap (at heap) p ∙ touched.here)) ∙ f)
          | inr h ↦ h
        ];
        pending_cleanables = λ t f. elim (cases_eq t s) [
          | inl p ↦ let both : PendingClean ≡ Lined = some_same PendingClean Lined (sym f ∙ ap (clean_state_at n) p ∙ here) in
              absurd (cc both)
          | inr p ↦ elim (in_pending t (w.lists.pending_cleanables t (sym (beside t p) ∙ f))) [ inl q ↦ absurd (p q) | inr h ↦ h ]
        ];
        pending_others = λ t h.
            let apart = beside t (not_in_rest t h) in
            elim (w.lists.pending_others t (from_rest t h)) [
              | inl f ↦ inl (same_state t ∙ f)
              | inr y ↦ inr (elim y [
                | inl f ↦ inl (same_state t ∙ f)
                | inr z ↦ inr (elim z [
                  | inl f ↦ inl (same_state t ∙ f)
                  | inr v ↦ inr (elim v [ inl f ↦ inl (apart ∙ f) | inr f ↦ inr (apart ∙ f) ])
                ])
              ])
            ];
        lined = λ t f. elim (cases_eq t s) [
          | inl p ↦ in_right t m.line (s ∷ []) (in_front t s [] p)
          | inr p ↦ in_left t m.line (s ∷ []) (w.lists.lined t (sym (beside t p) ∙ f))
        ];
        line_others = λ t h. elim (in_line t h) [
          | inl i ↦
              let apart : clean_state_at n t ≡ clean_state_at m t = beside t (λ p. not_in_line (subst (λ i. i ∈ m.line) p i)) in
              elim (w.lists.line_others t i) [ inl f ↦ inl (apart ∙ f) | inr f ↦ inr (apart ∙ f) ]
          | inr p ↦ inl (ap (clean_state_at n) p ∙ here)
        ];
      }

  same_count : count_by is_unspent_place heap ≡ count_by is_unspent_place m.objects
  same_count =
      let one : ◌≡◌ {A = ℕ} (cond (is_unspent_place (Some (Cleanable c))) 1 0) 1 =
      ap {A = CleanState} {B = ℕ} (λ z. cond (not (is_spent z)) 1 0) waits in
      let two : ◌≡◌ {A = ℕ} (cond (is_unspent_place (option_map (with_cleanable lined_up) (at m.objects s))) 1 0) 1 =
      ap {A = Option Object} {B = ℕ} (λ o. cond (is_unspent_place (option_map (with_cleanable lined_up) o)) 1 0) there in
      omega (
        arith,
        count_set m.objects s (Some (Cleanable c)) (option_map (with_cleanable lined_up) (at m.objects s)) there
            (place_within m.objects s (Cleanable c) there),
        one,
        two,
      )

  actions_kept : AreActions n
  actions_kept =
      record {
        cleanables = λ t u d f p q same.
            let y = unspent_back t d p in
            let z = unspent_back u f q in
            w.actions.cleanables t u y.0 z.0 y.1 z.1 (y.2 ∙ same ∙ sym z.2);
        apart = λ t d p. let y = unspent_back t d p in subst (λ a. job_of m a ≡ None) y.2 (w.actions.apart t y.0 y.1);
        jobs = w.actions.jobs;
        of_cleanables = λ t d p. elim (cleanable_cases m heap s c (lined_up c) touched t d p) [
          | inl y ↦ subst (λ a. IsAction m a) (sym (ap (λ z. z.action) y.1)) (w.actions.of_cleanables s c there)
          | inr y ↦ w.actions.of_cleanables t d y.1
        ];
        of_jobs = w.actions.of_jobs;
        of_resources = w.actions.of_resources;
        of_faults = w.actions.of_faults;
        referents = λ t d p a. elim (cleanable_cases m heap s c (lined_up c) touched t d p) [
          | inl y ↦ ap (λ z. z.referent) y.1 ∙ touched.referent
          | inr y ↦ w.actions.referents t d y.1 a
        ];
        cleaners = w.actions.cleaners;
        taken = w.actions.taken;
        room = omega (arith, w.actions.room, same_count);
      }

  cleanable_over : (rid action : ℕ) → HasCleanable m rid action → HasCleanable n rid action
  cleanable_over rid action h = let y = unspent_over h.0 h.1 h.2 in (h.0, y.0, y.1, y.2 ∙ h.3, y.3 ∙ h.4)

  resources_kept : AreResources n
  resources_kept =
      record {
        rising = w.resources.rising;
        worked = λ rid action state h. worker_over m n rid action state (cleanable_over rid action) (λ z. z)
            (w.resources.worked rid action state h);
        of_cleanables = λ t rid d u f.
            let y = unspent_back t d u in
            let r = w.resources.of_cleanables t rid y.0 y.1 (y.3 ∙ f) in
            (r.0, subst (λ a. HasResource m rid a r.0) y.2 r.1, r.2);
        idle = λ t rid d u f a.
            let y = unspent_back t d u in
            subst (λ i. HasResource m rid i Idle) y.2 (w.resources.idle t rid y.0 y.1 (y.3 ∙ f) (λ p. a (y.4 p)));
        of_jobs = w.resources.of_jobs;
        one_guard = λ t u g h p q. w.resources.one_guard t u g h (back m heap s c (lined_up c) touched t (Guard g) refl p)
            (back m heap s c (lined_up c) touched u (Guard h) refl q);
        guards = λ t g d p f.
            let old = back m heap s c (lined_up c) touched t (Guard g) refl p in
            elim (cleanable_cases m heap s c (lined_up c) touched g.cleanable d f) [
              | inl y ↦ elim (w.resources.guards t g c old (ap (at m.objects) y.0 ∙ there)) [
                | inl z ↦ absurd (cc (z, waits))
                | inr z ↦
                    absurd (cc (z.armed, waits))
              ]
              | inr y ↦ elim (w.resources.guards t g d old y.1) [
                | inl a ↦ inl a
                | inr a ↦
                    inr (record { armed = a.armed; referent = a.referent; work = a.work })
              ]
            ];
        guarded = λ t rid d p a f. elim (cleanable_cases m heap s c (lined_up c) touched t d p) [
          | inl y ↦ absurd (not_armed m heap s c (lined_up c) touched (ap (λ z. z.state) (sym y.1) ∙ a))
          | inr y ↦ let g = w.resources.guarded t rid d y.1 a f in
              (g.0, g.1, over m heap s c (lined_up c) touched g.0 (Guard g.1) refl g.2, g.3)
        ];
      }

  fencing_over : (z : Session) (rid : ℕ) (state : ResourceState) → IsFencing m z rid state → IsFencing n z rid state
  fencing_over z rid state f =
      let apart : f.1.cleanable ≡ s → ⊥ = λ p.
      let same : f.2 ≡ c = cleanable_same m s f.2 c (subst (λ i. IsCleanableAt m i f.2) p f.6) there in
      absurd (cc (ap (λ z. z.state) same, f.7, waits)) in (
        f.0,
        f.1,
        f.2,
        f.3,
        over m heap s c (lined_up c) touched f.0 (Guard f.1) refl f.4,
        f.5,
        touched.others f.1.cleanable apart ∙ f.6,
        f.7,
        f.8,
      )

  fits_over : (j : ℕ) (z : Session) (call : Call) → FitsItsCall m j z call → FitsItsCall n j z call
  fits_over j z Free f = f
  fits_over j z (CallOpening r) f = fencing_over z r Opening f
  fits_over j z (CallOut r) f = fencing_over z r Out f
  fits_over j z (CallJob action) f = f

  private_was : (t : ℕ) → IsPrivate n t → IsPrivate m t
  private_was = private_back m heap s c (lined_up c) touched n (λ _. refl) (λ rid action h. h)

  pub lined_up_is_well_formed : IsWellFormed n
  lined_up_is_well_formed =
      record {
        slots = slots;
        references = references;
        lists = lists;
        sessions = record {
          places =
              w.sessions.places;
          opening = w.sessions.opening;
          names = w.sessions.names;
          names_limit = w.sessions.names_limit;
        };
        actions = actions_kept;
        resources = resources_kept;
        calls = record {
          calls = λ j z p. fits_over j z z.call (w.calls.calls j z p);
          opening = w.calls.opening;
          out = w.calls.out;
          one_call = w.calls.one_call;
          jobs = w.calls.jobs;
        };
        unnamed = record {
          handles = λ j h u z p q r. w.unnamed.handles j h u z p q (private_was u r);
          names = λ u h r. w.unnamed.names u h (private_was u r);
          fields = λ t u fields p h r. w.unnamed.fields t u fields (back m heap s c (lined_up c) touched t (Plain fields) refl p) h
              (private_was u r);
          references =
              λ t u x p q r. w.unnamed.references t u x (back m heap s c (lined_up c) touched t (Reference x) refl p) q (private_was u r);
        };
        limits = limits_stay m n w.limits (change_as_long m.objects s (with_cleanable lined_up)) refl;
        faults = w.faults;
        notes = w.notes;
        seen_rising = w.seen_rising;
        seen_within = seen_stays m.seen m.objects heap w.seen_within (change_as_long m.objects s (with_cleanable lined_up));
        seen_in_cycle = w.seen_in_cycle;
      }

-- ---- A reference is enqueued

module _ (m : Machine) (s : ℕ) (rest : List ℕ) (r : ReferenceOf) (w : IsWellFormed m) (e : m.pending ≡ s ∷ rest)
    (there : IsReferenceAt m s r) (waits : r.state ≡ Pending) where
  has_queue : (q : ℕ) × (r.queue ≡ Some q)
  has_queue = some_there r.queue (subst (λ st. FitsItsState r st) waits (w.references.states s r there)).0

  abbrev marked : ReferenceOf → ReferenceOf
  marked r = record r { state = Queued; queue = None }

  abbrev heap_one : Heap
  heap_one = change_at m.objects s (with_reference unreferred)

  abbrev heap_two : Heap
  heap_two = change_at (change_at m.objects s (with_reference unreferred)) s (with_reference marked)

  one_there : at heap_one s ≡ Some (Reference (unreferred r))
  one_there = change_here m.objects s (with_reference unreferred) (Reference r) there

  two_there : at heap_two s ≡ Some (Reference (marked (unreferred r)))
  two_there = change_here heap_one s (with_reference marked) (Reference (unreferred r)) one_there

  apart : s ≡ has_queue.0 → ⊥
  apart p =
      let q = w.slots.queues s has_queue.0 r there has_queue.1 in
      let both : Some (Reference r) ≡ Some (Queue q.0) = sym there ∙ ap (at m.objects) p ∙ q.1 in
      let same : Reference r ≡ Queue q.0 = some_same (Reference r) (Queue q.0) both in
      absurd (cc same)

  asked : option_and_then queue_ahead (option_and_then as_reference (at m.objects s)) ≡ Some has_queue.0
  asked = ap (λ o. option_and_then queue_ahead (option_and_then as_reference o)) there ∙ ap (λ st. cond (is_unqueued st) r.queue None) waits
      ∙ has_queue.1

  abbrev queued : Machine
  queued = to_queue (with_object m s (with_reference unreferred)) s (Some has_queue.0)

  queued_kept : IsWellFormed queued
  queued_kept = subst (λ o. IsWellFormed (to_queue (with_object m s (with_reference unreferred)) s o)) asked (enqueue_kept m w s r there)

  now_there : at queued.objects s ≡ Some (Reference (marked (unreferred r)))
  now_there = change_beside heap_two has_queue.0 s (with_members (λ members. members ++ s ∷ [])) apart ∙ two_there

  pub enqueued_and_dropped : IsWellFormed (enqueued (record m { pending = rest }) s)
  enqueued_and_dropped =
      subst (λ o. IsWellFormed (to_queue (with_object (record m { pending = rest }) s (with_reference unreferred)) s o)) (sym asked)
      (pending_dropped queued s rest queued_kept e
      (λ f. let both : Pending ≡ Queued = some_same Pending Queued (sym f ∙ ap state_of now_there) in absurd (cc both))
      (λ f. no_some PendingClean (sym (ap clean_state_of now_there) ∙ f)))

-- ---- The ask

skips : (m : Machine) (s : ℕ) (rest : List ℕ) (o : Object) → IsWellFormed m → m.pending ≡ s ∷ rest → at m.objects s ≡ Some o
    → (state_of (Some o) ≡ Some Pending → ⊥) → (clean_state_of (Some o) ≡ Some PendingClean → ⊥)
    → IsWellFormed (record m { pending = rest })
skips m s rest o w e there a b =
    pending_dropped m s rest w e (λ f. a (sym (ap state_of there) ∙ f)) (λ f. b (sym (ap clean_state_of there) ∙ f))

delivers_reference : (m : Machine) (s : ℕ) (rest : List ℕ) (r : ReferenceOf) (st : RefState) → r.state ≡ st → IsWellFormed m
    → m.pending ≡ s ∷ rest → IsReferenceAt m s r → IsWellFormed (delivered (record m { pending = rest }) s (handed_reference st))
delivers_reference m s rest r Fresh q w e there =
    skips m s rest (Reference r) w e there (λ f. let both : r.state ≡ Pending = some_same r.state Pending f in absurd (cc (both, q)))
    (λ f. no_some PendingClean f)
delivers_reference m s rest r Pending q w e there = enqueued_and_dropped m s rest r w e there q
delivers_reference m s rest r Queued q w e there =
    skips m s rest (Reference r) w e there (λ f. let both : r.state ≡ Pending = some_same r.state Pending f in absurd (cc (both, q)))
    (λ f. no_some PendingClean f)
delivers_reference m s rest r Removed q w e there =
    skips m s rest (Reference r) w e there (λ f. let both : r.state ≡ Pending = some_same r.state Pending f in absurd (cc (both, q)))
    (λ f. no_some PendingClean f)

delivers_cleanable : (m : Machine) (s : ℕ) (rest : List ℕ) (c : CleanableOf) (st : CleanState) → c.state ≡ st → IsWellFormed m
    → m.pending ≡ s ∷ rest → IsCleanableAt m s c → IsWellFormed (delivered (record m { pending = rest }) s (handed_cleanable st))
delivers_cleanable m s rest c Armed q w e there =
    skips m s rest (Cleanable c) w e there (λ f. no_some Pending f)
    (λ f. let both : c.state ≡ PendingClean = some_same c.state PendingClean f in absurd (cc (both, q)))
delivers_cleanable m s rest c PendingClean q w e there = lined_up_is_well_formed m s rest c w e there q
delivers_cleanable m s rest c Lined q w e there =
    skips m s rest (Cleanable c) w e there (λ f. no_some Pending f)
    (λ f. let both : c.state ≡ PendingClean = some_same c.state PendingClean f in absurd (cc (both, q)))
delivers_cleanable m s rest c Spent q w e there =
    skips m s rest (Cleanable c) w e there (λ f. no_some Pending f)
    (λ f. let both : c.state ≡ PendingClean = some_same c.state PendingClean f in absurd (cc (both, q)))

delivers : (m : Machine) (s : ℕ) (rest : List ℕ) (o : Object) → IsWellFormed m → m.pending ≡ s ∷ rest → at m.objects s ≡ Some o
    → IsWellFormed (delivered (record m { pending = rest }) s (handed o))
delivers m s rest (Reference r) w e there = delivers_reference m s rest r r.state refl w e there
delivers m s rest (Cleanable c) w e there = delivers_cleanable m s rest c c.state refl w e there
delivers m s rest (Plain fields) w e there = skips m s rest (Plain fields) w e there (λ f. no_some Pending f) (λ f. no_some PendingClean f)
delivers m s rest (Queue members) w e there =
    skips m s rest (Queue members) w e there (λ f. no_some Pending f) (λ f. no_some PendingClean f)
delivers m s rest Cleaner w e there = skips m s rest Cleaner w e there (λ f. no_some Pending f) (λ f. no_some PendingClean f)
delivers m s rest (Guard g) w e there = skips m s rest (Guard g) w e there (λ f. no_some Pending f) (λ f. no_some PendingClean f)

hands_over : (m : Machine) (pending : List ℕ) → IsWellFormed m → m.pending ≡ pending → IsWellFormed (handed_over m pending)
hands_over m [] w e = w
hands_over m (s ∷ rest) w e =
    let o = some_there (at m.objects s) (w.slots.roots s (root_from m s (waiting (subst (λ l. s ∈ l) (sym e) (in_front s s rest refl))))) in
    subst (λ z. IsWellFormed (elim z as (λ _. Machine) [
      | None ↦ record m { pending = rest }
      | Some o ↦
          delivered (record m { pending = rest }) s (handed o)
    ])) (sym o.1)
    (delivers m s rest o.0 w e o.1)

pub keeps_HandOver : (m : Machine) → IsWellFormed m → refusal m HandOver ≡ None → (a : Answer) (fresh : List ℕ)
    → IsWellFormed (after m HandOver a fresh)
keeps_HandOver m w r a fresh = hands_over m m.pending w refl
