-- The strong and soft edges that an ask adds lead to roots.
use Rattle.std.proofs.Common.{◌≡◌, ℕ, ◌+◌, ◌==◌, ◌<◌, length-set, true, false, cond, List, [], ◌∷◌, ◌++◌, ◌⊎◌, inl, inr, length}
use Rattle.std.proofs.Common.{refl, sym, ◌∙◌, ap, subst, Option, Some, None, option_and_then, option_map, option_to_list, drop, map}
use Rattle.std.proofs.Common.{replicate, slice_get, filter_map}
use Rattle.std.specs.List.{flat_map}
use Rattle.jlr_types.specs.declared.FieldValue.{FieldValue}
use Rattle.jlr_types.specs.declared.FieldKind.{FieldKind}
use Rattle.jlr_types.specs.declared.FieldKind.TheVariants.{Int as IntField, Ref as RefField}
use Rattle.jlr_types.specs.declared.FieldValue.TheVariants.{Int as IntValue, Ref as RefValue}
use Rattle.jlr_types.specs.declared.RefKind.{RefKind}
use Rattle.jlr_types.specs.declared.RefKind.TheVariants.{Soft, Weak, Phantom}
use Rattle.jlr_types.specs.declared.Work.TheVariants.{Resource as WorkOn}
use Rattle.jlr_machine.specs.declared.object.Contents.TheVariants.{Typed, Elements}
use Rattle.jlr_machine.specs.declared.object.Object.{Object}
use Rattle.jlr_machine.specs.declared.object.Object.TheVariants.{Plain, Reference, Queue, Cleaner, Cleanable, Guard}
use Rattle.jlr_machine.specs.declared.object.Cleanable.{Cleanable as CleanableOf}
use Rattle.jlr_machine.specs.declared.object.CleanState.TheVariants.{Armed, Lined}
use Rattle.jlr_machine.specs.declared.object.Guard.{Guard as GuardOf}
use Rattle.jlr_machine.specs.declared.object.RefState.TheVariants.{Fresh, Queued, Removed}
use Rattle.jlr_machine.specs.declared.machine.Machine.{Machine}
use Rattle.jlr_machine.specs.declared.machine.Session.{Session}
use Rattle.jlr_machine.specs.declared.machine.Job.{Job as JobOf}
use Rattle.jlr_machine.specs.declared.machine.Call.TheVariants.{Free, Job as CallJob}
use Rattle.jlr_machine.specs.declared.machine.ResourceState.{ResourceState}
use Rattle.jlr_machine.specs.declared.machine.ResourceState.TheVariants.{Idle, Closing}
use Rattle.jlr_machine.specs.declared.ask.Outcome.{Outcome}
use Rattle.jlr_machine.specs.declared.ask.Outcome.TheVariants.{Ok as OutcomeOk, Failed}
use Rattle.jlr_machine.specs.declared.ask.Handed.{Handed}
use Rattle.jlr_machine.specs.declared.ask.Handed.TheVariants.{Queued as HandedQueued, Lined as HandedLined, Skipped, Nothing}
use Rattle.jlr_machine.specs.declared.ask.Ask.{Ask}
use Rattle.jlr_machine.specs.declared.ask.Ask.TheVariants.{New, Put, Get, SetInt, Dup, MakeRef, Deref}
use Rattle.jlr_machine.specs.declared.ask.Ask.TheVariants.{Clear, Enqueue, MakeQueue, Poll, Remove, MakeCleaner, Register, Clean}
use Rattle.jlr_machine.specs.declared.ask.Ask.TheVariants.{Prepare, Opened, CheckOut, CheckIn, Close, Finish, Bind, Find}
use Rattle.jlr_machine.specs.declared.ask.Ask.TheVariants.{HandOver, TakeUp, Array}
use Rattle.jlr_machine.specs.declared.ask.Answer.{Answer}
use Rattle.jlr_machine.specs.declared.ask.Answer.TheVariants.{Prepared}
use Rattle.jlr_machine.specs.Objects.{Heap, at, set_at, ◌∈◌, as_reference, with_field, with_value, with_reference, with_members}
use Rattle.jlr_machine.specs.Objects.{with_cleanable, queue_ahead, is_spent}
use Rattle.jlr_machine.specs.Edges.{edges_from, edges, referent_edges, slot_in, slots_in, roots, is_own_root}
use Rattle.jlr_machine.specs.Edges.Chain.{UpToSoft}
use Rattle.jlr_machine.specs.Lookups.{slot_named, guard_named, with_object, with_new, with_handle, with_call, on, blank, bound, job_of}
use Rattle.jlr_machine.specs.Lookups.{with_job, without_job, with_state, rid_of, cleanable_at, cleanable_of_guard}
use Rattle.jlr_machine.specs.Refusals.{given}
use Rattle.jlr_machine.specs.Calls.{after, from_lined, with_given, made, to_queue, enqueued, unreferred, polled, poll_given}
use Rattle.jlr_machine.specs.Calls.{with_work_state, without_work_resource, taken_up, spent, cleaned, line_taken, delivered, handed}
use Rattle.jlr_machine.specs.Calls.{handed_over, registered, prepared, prepared_in, guard_fenced, fence_of, opened, checked_out, checked_in}
use Rattle.jlr_machine.specs.Calls.{finished, free_again}
use Rattle.jlr_laws.proofs.Fits.{in_set}
use Rattle.jlr_laws.proofs.keeps.Heap.{no_null}
use Rattle.jlr_laws.proofs.Sets.{nothing, in_front, in_rest, in_cons}
use Rattle.jlr_laws.proofs.Clearing.{in_append, in_left, in_right, in_option}
use Rattle.jlr_laws.proofs.Frames.{no_some, some_same, set_cases, set_same, root_from}
use Rattle.jlr_laws.proofs.Frames.IsRoot.{held, waiting, active}

-- ---- Lists

blank_none : (layout : List FieldKind) (y : ℕ) → y ∈ filter_map slot_in (map blank layout) → ⊥
blank_none [] y h = nothing y h
blank_none (IntField ∷ kinds) y h = blank_none kinds y h
blank_none (RefField ∷ kinds) y h = blank_none kinds y h

in_dropped : (members : List ℕ) (y : ℕ) → y ∈ drop 1 members → y ∈ members
in_dropped [] y h = h
in_dropped (x ∷ xs) y h = in_rest y x xs h

-- ---- Edges that lead to R

module _ (R : ℕ → Type 0) where
  abbrev pub Adds : Machine → Machine → Type 0
  Adds m n = (x y : ℕ) → y ∈ edges_from UpToSoft n.objects x → (y ∈ edges_from UpToSoft m.objects x) ⊎ R y

  none : (m : Machine) → Adds m m
  none m = λ x y h. inl h

  both : (a b c : Machine) → Adds a b → Adds b c → Adds a c
  both a b c f g = λ x y h. elim (g x y h) [ inl i ↦ f x y i | inr r ↦ inr r ]

  on_adds : {A : Type 0} (m : Machine) (o : Option A) (f : A → Machine) → ((x : A) → o ≡ Some x → Adds m (f x)) → Adds m (on o f m)
  on_adds m None f h = none m
  on_adds m (Some x) f h = h x refl

  abbrev FewEdges : (Object → Object) → Type 0
  FewEdges f = (o : Object) (y : ℕ) → y ∈ edges UpToSoft (f o) → (y ∈ edges UpToSoft o) ⊎ R y

  found : (heap : Heap) (x y : ℕ) → y ∈ edges_from UpToSoft heap x → (o : Object) × (at heap x ≡ Some o) × (y ∈ edges UpToSoft o)
  found heap x y =
      elim (at heap x) as (λ o. at heap x ≡ o → y ∈ flat_map (edges UpToSoft) (option_to_list o) → (p : Object) × (at heap x ≡ Some p)
      × (y ∈ edges UpToSoft p)) [
        | None ↦ λ e h. nothing y h
        | Some o ↦ λ e h. (o, e, elim (in_append y (edges UpToSoft o) [] h) [ inl i ↦ i | inr n ↦ nothing y n ])
      ] refl

  there : (heap : Heap) (x y : ℕ) (o : Object) → at heap x ≡ Some o → y ∈ edges UpToSoft o → y ∈ edges_from UpToSoft heap x
  there heap x y o e h = subst (λ z. y ∈ flat_map (edges UpToSoft) (option_to_list z)) (sym e) (in_left y (edges UpToSoft o) [] h)

  mapped : (o : Option Object) (f : Object → Object) (p : Object) → option_map f o ≡ Some p → (q : Object) × (o ≡ Some q) × (p ≡ f q)
  mapped None f p e = no_some p e
  mapped (Some q) f p e = (q, refl, sym (some_same (f q) p e))

  object_adds : (m : Machine) (s : ℕ) (f : Object → Object) → FewEdges f → Adds m (with_object m s f)
  object_adds m s f few = λ x y h.
      let o = found (with_object m s f).objects x y h in
      elim (set_cases m.objects s x (option_map f (at m.objects s)) o.0 o.1) [
        | inl same ↦
            let q = mapped (at m.objects s) f o.0 same.1 in
            elim (few q.0 y (subst (λ p. y ∈ edges UpToSoft p) q.2 o.2)) [
              | inl i ↦ inl (there m.objects x y q.0 (ap (at m.objects) same.0 ∙ q.1) i)
              | inr r ↦ inr r
            ]
        | inr other ↦ inl (there m.objects x y o.0 other.1 o.2)
      ]

  new_adds : (m : Machine) (s : ℕ) (o : Object) → ((y : ℕ) → y ∈ edges UpToSoft o → R y) → Adds m (with_new m s o)
  new_adds m s p h = λ x y i.
      let o = found (with_new m s p).objects x y i in
      elim (set_cases m.objects s x (Some p) o.0 o.1) [
        | inl same ↦ inr (h y (subst (λ q. y ∈ edges UpToSoft q) (sym (some_same p o.0 same.1)) o.2))
        | inr other ↦ inl (there m.objects x y o.0 other.1 o.2)
      ]

  -- ---- Objects

  strong_only : (xs : List ℕ) (y : ℕ) → y ∈ xs ++ [] → y ∈ xs
  strong_only xs y h = elim (in_append y xs [] h) [ inl i ↦ i | inr n ↦ nothing y n ]

  field_few : (f : ℕ) (v : FieldValue) → ((y : ℕ) → slot_in v ≡ Some y → R y) → FewEdges (with_field f v)
  field_few f v r (Plain fields) y h = elim (in_set fields f v y (strong_only (slots_in (with_value f v fields)) y h)) [
    | inl o ↦
        inl (in_left y (slots_in fields) [] o)
    | inr e ↦ inr (r y e)
  ]
  field_few f v r (Reference x) y h = inl h
  field_few f v r (Queue members) y h = inl h
  field_few f v r Cleaner y h = inl h
  field_few f v r (Cleanable c) y h = inl h
  field_few f v r (Guard g) y h = inl h

  soft_none : (k : RefKind) (y : ℕ) (rest : List ℕ) → y ∈ rest
      ++ option_to_list (cond {A = Option ℕ} (Rattle.jlr_machine.specs.Edges.is_kind Soft k) None None) → y ∈ rest
  soft_none Soft y rest h = strong_only rest y h
  soft_none Weak y rest h = strong_only rest y h
  soft_none Phantom y rest h = strong_only rest y h

  unreferred_few : FewEdges (with_reference unreferred)
  unreferred_few (Plain fields) y h = inl h
  unreferred_few (Reference r) y h = inl (in_left y (option_to_list (queue_ahead r)) (referent_edges Soft (Reference r))
      (soft_none r.kind y (option_to_list (queue_ahead r)) h))
  unreferred_few (Queue members) y h = inl h
  unreferred_few Cleaner y h = inl h
  unreferred_few (Cleanable c) y h = inl h
  unreferred_few (Guard g) y h = inl h

  queued_few : FewEdges (with_reference (λ r. record r { state = Queued; queue = None }))
  queued_few (Plain fields) y h = inl h
  queued_few (Reference r) y h = inl (in_right y (option_to_list (queue_ahead r)) (referent_edges Soft (Reference r)) h)
  queued_few (Queue members) y h = inl h
  queued_few Cleaner y h = inl h
  queued_few (Cleanable c) y h = inl h
  queued_few (Guard g) y h = inl h

  removed_few : FewEdges (with_reference (λ r. record r { state = Removed }))
  removed_few (Plain fields) y h = inl h
  removed_few (Reference r) y h = inl (in_right y (option_to_list (queue_ahead r)) (referent_edges Soft (Reference r)) h)
  removed_few (Queue members) y h = inl h
  removed_few Cleaner y h = inl h
  removed_few (Cleanable c) y h = inl h
  removed_few (Guard g) y h = inl h

  pushed_few : (s : ℕ) → R s → FewEdges (with_members (λ members. members ++ s ∷ []))
  pushed_few s r (Plain fields) y h = inl h
  pushed_few s r (Reference x) y h = inl h
  pushed_few s r (Queue members) y h = elim (in_append y members (s ∷ []) (strong_only (members ++ s ∷ []) y h)) [
    | inl i ↦ inl (in_left y members [] i)
    | inr i ↦ elim (in_cons y s [] i) [ inl e ↦ inr (subst R (sym e) r) | inr n ↦ nothing y n ]
  ]
  pushed_few s r Cleaner y h = inl h
  pushed_few s r (Cleanable c) y h = inl h
  pushed_few s r (Guard g) y h = inl h

  dropped_few : FewEdges (with_members (drop 1))
  dropped_few (Plain fields) y h = inl h
  dropped_few (Reference x) y h = inl h
  dropped_few (Queue members) y h = inl (in_left y members [] (in_dropped members y (strong_only (drop 1 members) y h)))
  dropped_few Cleaner y h = inl h
  dropped_few (Cleanable c) y h = inl h
  dropped_few (Guard g) y h = inl h

  cleanable_few : (f : CleanableOf → CleanableOf) → FewEdges (with_cleanable f)
  cleanable_few f (Plain fields) y h = inl h
  cleanable_few f (Reference x) y h = inl h
  cleanable_few f (Queue members) y h = inl h
  cleanable_few f Cleaner y h = inl h
  cleanable_few f (Cleanable c) y h = inl h
  cleanable_few f (Guard g) y h = inl h

  reference_new : (kind : RefKind) (a q : Option ℕ) → ((y : ℕ) → a ≡ Some y → R y) → ((y : ℕ) → q ≡ Some y → R y) → (y : ℕ)
      → y ∈ edges UpToSoft (Reference (record { kind = kind; referent = a; queue = q; state = Fresh })) → R y
  reference_new Soft a q ra rq y h =
      elim (in_append y (option_to_list q) (option_to_list a) h) [ inl i ↦ rq y (in_option y q i) | inr i ↦ ra y (in_option y a i) ]
  reference_new Weak a q ra rq y h = rq y (in_option y q (strong_only (option_to_list q) y h))
  reference_new Phantom a q ra rq y h = rq y (in_option y q (strong_only (option_to_list q) y h))

  -- ---- What is left, part by part

  given_adds : (m : Machine) (k : ℕ) (s : Option ℕ) → Adds m (with_given m k s)
  given_adds m k s = on_adds m s (with_handle m k) (λ s e. none m)

  made_adds : (m : Machine) (k : ℕ) (fresh : List ℕ) (o : Object) → ((y : ℕ) → y ∈ edges UpToSoft o → R y) → Adds m (made m k fresh o)
  made_adds m k fresh o h = on_adds m (slice_get fresh 0) (λ s. with_handle (with_new m s o) k s) (λ s e. new_adds m s o h)

  to_queue_adds : (m : Machine) (s : ℕ) (q : Option ℕ) → R s → Adds m (to_queue m s q)
  to_queue_adds m s None r = none m
  to_queue_adds m s (Some q) r =
      let cut : Machine = with_object m s (with_reference (λ r. record r { state = Queued; queue = None })) in
      both m cut (with_object cut q (with_members (λ members. members ++ s ∷ [])))
      (object_adds m s (with_reference (λ r. record r { state = Queued; queue = None })) queued_few)
      (object_adds cut q (with_members (λ members. members ++ s ∷ [])) (pushed_few s r))

  enqueued_adds : (m : Machine) (s : ℕ) → R s → Adds m (enqueued m s)
  enqueued_adds m s r =
      let q = option_and_then queue_ahead (option_and_then as_reference (at m.objects s)) in
      let cut : Machine = with_object m s (with_reference unreferred) in
      both m cut (to_queue cut s q) (object_adds m s (with_reference unreferred) unreferred_few) (to_queue_adds cut s q r)

  polled_adds : (m : Machine) (q : ℕ) (s : Option ℕ) → Adds m (polled m q s)
  polled_adds m q None = none m
  polled_adds m q (Some s) =
      let cut : Machine = with_object m q (with_members (drop 1)) in
      both m cut (with_object cut s (with_reference (λ r. record r { state = Removed })))
      (object_adds m q (with_members (drop 1)) dropped_few)
      (object_adds cut s (with_reference (λ r. record r { state = Removed })) removed_few)

  poll_given_adds : (m : Machine) (k h : ℕ) (s : Option ℕ) → Adds m (poll_given m k h s)
  poll_given_adds m k h s = on_adds m (slot_named m k h) (λ q. with_given (polled m q s) k s)
      (λ q e. both m (polled m q s) (with_given (polled m q s) k s) (polled_adds m q s) (given_adds (polled m q s) k s))

  work_state_adds : (m : Machine) (rid : Option ℕ) (state : ResourceState) → Adds m (with_work_state m rid state)
  work_state_adds m None state = none m
  work_state_adds m (Some rid) state = none m

  work_gone_adds : (m : Machine) (rid : Option ℕ) → Adds m (without_work_resource m rid)
  work_gone_adds m None = none m
  work_gone_adds m (Some rid) = none m

  taken_up_adds : (m : Machine) (by s : ℕ) (c : CleanableOf) → Adds m (taken_up m by s c)
  taken_up_adds m by s c =
      let n : Machine = record (with_object m s (with_cleanable spent)) {
        jobs = with_job m.jobs
            (record { action = c.action; work = c.work; by = by });
        taken = m.taken + 1;
      } in
      both m n (taken_up m by s c) (object_adds m s (with_cleanable spent) (cleanable_few spent))
      (work_state_adds n (rid_of c.work) Closing)

  cleaned_adds : (m : Machine) (k s : ℕ) (o : Option CleanableOf) → Adds m (cleaned m k s o)
  cleaned_adds m k s None = none m
  cleaned_adds m k s (Some c) = elim (is_spent c.state) as (λ d. Adds m
      (cond d m (with_call (taken_up m k s c) k None (CallJob c.action)))) [ true ↦ none m | false ↦ taken_up_adds m k s c ]

  line_taken_adds : (m : Machine) (line : List ℕ) → Adds m (line_taken m line)
  line_taken_adds m [] = none m
  line_taken_adds m (s ∷ rest) =
      elim (cleanable_at m s) as (λ o. Adds m (elim o [
        | None ↦ record m { line = rest }
        | Some c ↦
            taken_up (record m { line = rest }) 255 s c
      ])) [
        | None ↦ none m
        | Some c ↦ taken_up_adds (record m { line = rest }) 255 s c
      ]

  delivered_adds : (m : Machine) (s : ℕ) (h : Handed) → R s → Adds m (delivered m s h)
  delivered_adds m s HandedQueued r = enqueued_adds m s r
  delivered_adds m s HandedLined r =
      object_adds m s (with_cleanable (λ c. record c { state = Lined })) (cleanable_few (λ c. record c { state = Lined }))
  delivered_adds m s Skipped r = none m
  delivered_adds m s Nothing r = none m

  handed_over_adds : (m : Machine) (pending : List ℕ) → ((s : ℕ) → s ∈ pending → R s) → Adds m (handed_over m pending)
  handed_over_adds m [] r = none m
  handed_over_adds m (s ∷ rest) r =
      elim (at m.objects s) as (λ o. Adds m (elim o [
        | None ↦ record m { pending = rest }
        | Some o ↦
            delivered (record m { pending = rest }) s (handed o)
      ])) [
        | None ↦ none m
        | Some o ↦ delivered_adds (record m { pending = rest }) s (handed o) (r s (in_front s s rest refl))
      ]

  opened_adds : (m : Machine) (k : ℕ) (g : GuardOf) (outcome : Outcome) → Adds m (opened m k g outcome)
  opened_adds m k g OutcomeOk = given_adds (with_call (with_state m g.rid Idle) k None Free) k (fence_of m k)
  opened_adds m k g (Failed fault) = object_adds m g.cleanable (with_cleanable spent) (cleanable_few spent)

  finished_adds : (m : Machine) (job : JobOf) (outcome : Outcome) → Adds m (finished m job outcome)
  finished_adds m job OutcomeOk = work_gone_adds (record m { jobs = without_job m.jobs job.action }) (rid_of job.work)
  finished_adds m job (Failed fault) = work_gone_adds (record m { jobs = without_job m.jobs job.action }) (rid_of job.work)

  free_again_adds : (m : Machine) (by : ℕ) → Adds m (free_again m by)
  free_again_adds m by = elim (by == 255) as (λ d. Adds m (cond d m (with_call m by None Free))) [ true ↦ none m | false ↦ none m ]

  -- the cleanable of a new guard
  abbrev pub SecondIn : List ℕ → Type 0
  SecondIn fresh = (g c : ℕ) → fresh ≡ g ∷ c ∷ [] → R c

  prepared_adds : (m : Machine) (k : ℕ) (fresh : List ℕ) (rid : ℕ) → SecondIn fresh → Adds m (prepared_in m k fresh rid)
  prepared_adds m k [] rid r = none m
  prepared_adds m k (g ∷ []) rid r = none m
  prepared_adds m k (g ∷ c ∷ []) rid r =
      let guarded : Machine = with_new m g (Guard (record { rid = rid; cleanable = c })) in
      both m guarded (prepared m k g c rid)
      (new_adds m g (Guard (record { rid = rid; cleanable = c }))
      (λ y h. elim (in_cons y c [] (strong_only (c ∷ []) y h)) [ inl e ↦ subst R (sym e) (r g c refl) | inr n ↦ nothing y n ]))
      (new_adds guarded c (Cleanable (record { referent = Some g; action = m.next_action; work = WorkOn rid; state = Armed }))
      (λ y h. nothing y h))
  prepared_adds m k (g ∷ c ∷ x ∷ fresh) rid r = none m

  -- ---- What is left

  abbrev pub Second : Machine → Ask → Answer → List ℕ → Type 0
  Second m ask a fresh = (k rid g c : ℕ) → ask ≡ Prepare k → a ≡ Prepared rid → fresh ≡ g ∷ c ∷ [] → R c

  module _ (m : Machine) (named : (k h y : ℕ) → slot_named m k h ≡ Some y → R y) (pending : (y : ℕ) → y ∈ m.pending → R y) where
    pub adds : (ask : Ask) (a : Answer) (fresh : List ℕ) → Second m ask a fresh → Adds m (after m ask a fresh)
    adds (New k layout) a fresh r = made_adds m k fresh (Plain (Typed (map blank layout)))
        (λ y h. absurd (blank_none layout y (strong_only (filter_map slot_in (map blank layout)) y h)))
    adds (Put k h f v) a fresh r = on_adds m (slot_named m k h) (λ s. with_object m s (with_field f (RefValue (slot_named m k v))))
        (λ s e. object_adds m s (with_field f (RefValue (slot_named m k v))) (field_few f (RefValue (slot_named m k v)) (named k v)))
    adds (Get k h f) a fresh r = given_adds m k (given m (Get k h f))
    adds (SetInt k h f number) a fresh r = on_adds m (slot_named m k h) (λ s. with_object m s (with_field f (IntValue number)))
        (λ s e. object_adds m s (with_field f (IntValue number)) (field_few f (IntValue number) (λ y i. no_some y i)))
    adds (Dup k h) a fresh r = given_adds m k (given m (Dup k h))
    adds (MakeRef k kind h q) a fresh r = made_adds m k fresh
        (Reference (record { kind = kind; referent = slot_named m k h; queue = slot_named m k q; state = Fresh }))
        (reference_new kind (slot_named m k h) (slot_named m k q) (named k h) (named k q))
    adds (Deref k x) a fresh r = given_adds m k (given m (Deref k x))
    adds (Clear k x) a fresh r = on_adds m (slot_named m k x) (λ s. with_object m s (with_reference unreferred))
        (λ s e. object_adds m s (with_reference unreferred) unreferred_few)
    adds (Enqueue k x) a fresh r = on_adds m (slot_named m k x) (enqueued m) (λ s e. enqueued_adds m s (named k x s e))
    adds (MakeQueue k) a fresh r = made_adds m k fresh (Queue []) (λ y h. nothing y h)
    adds (Poll k q) a fresh r = poll_given_adds m k q (given m (Poll k q))
    adds (Remove k q) a fresh r = poll_given_adds m k q (given m (Remove k q))
    adds (MakeCleaner k) a fresh r = made_adds m k fresh Cleaner (λ y h. nothing y h)
    adds (Register k d h note) a fresh r = made_adds m k fresh (registered m k h note) (λ y i. nothing y i)
    adds (Clean k d) a fresh r =
        on_adds m (slot_named m k d) (λ s. cleaned m k s (cleanable_at m s)) (λ s e. cleaned_adds m k s (cleanable_at m s))
    adds (Prepare k) (Prepared rid) fresh r = prepared_adds m k fresh rid (λ g c e. r k rid g c refl refl e)
    adds (Opened k outcome) a fresh r = on_adds m (guard_fenced m k) (λ g. opened m k g outcome) (λ g e. opened_adds m k g outcome)
    adds (CheckOut k h) a fresh r = on_adds m (guard_named m k h) (checked_out m k (slot_named m k h)) (λ g e. none m)
    adds (CheckIn k outcome) a fresh r = on_adds m (guard_fenced m k) (checked_in m k) (λ g e. none m)
    adds (Close k h) a fresh r =
        on_adds m (cleanable_of_guard m k h) (λ s. cleaned m k s (cleanable_at m s)) (λ s e. cleaned_adds m k s (cleanable_at m s))
    adds (Finish by action outcome) a fresh r = on_adds m (job_of m action) (λ job. free_again (finished m job outcome) by)
        (λ job e. both m (finished m job outcome) (free_again (finished m job outcome) by) (finished_adds m job outcome)
        (free_again_adds (finished m job outcome) by))
    adds (Bind k name h) a fresh r = on_adds m (slot_named m k h) (λ s. record m { names = bound m.names name s }) (λ s e. none m)
    adds (Find k name) a fresh r = given_adds m k (given m (Find k name))
    adds HandOver a fresh r = handed_over_adds m m.pending pending
    adds TakeUp a fresh r = line_taken_adds m (from_lined m m.line)
    adds (Array k n) a fresh r = made_adds m k fresh (Plain (Elements (replicate n None)))
        (λ y h. no_null n y (strong_only (slots_in (Elements (replicate n None))) y h))
    adds asked a fresh r = none m

-- ---- An ask of m

has_session : (o : Option Session) (f : Session → Option ℕ) (y : ℕ) → option_and_then f o ≡ Some y → (s : Session) × (o ≡ Some s)
    × (f s ≡ Some y)
has_session None f y e = no_some y e
has_session (Some s) f y e = (s, refl, e)

named_is_root : (m : Machine) (k h y : ℕ) → slot_named m k h ≡ Some y → y ∈ roots m
named_is_root m k h y e =
    let s = has_session (at m.mutators k) (λ s. at s.handles h) y e in
    root_from m y (held k h s.0 s.1 s.2)

-- the cleanable of a new guard is Armed
armed_is_root : (m : Machine) (k rid g c : ℕ) → c < length m.objects → c ∈ roots (prepared m k g c rid)
armed_is_root m k rid g c l =
    let guarded : Heap = set_at m.objects g (Guard (record { rid = rid; cleanable = c })) in
    let there : at (prepared m k g c rid).objects c ≡ Some
    (Cleanable (record { referent = Some g; action = m.next_action; work = WorkOn rid; state = Armed })) =
    set_same guarded c (Some (Cleanable (record { referent = Some g; action = m.next_action; work = WorkOn rid; state = Armed })))
    (subst (λ n. c < n) (sym (length-set m.objects g (Some (Guard (record { rid = rid; cleanable = c }))))) l) in
    root_from (prepared m k g c rid) c (active (ap is_own_root there))

pub adds_edges : (m : Machine) (ask : Ask) (a : Answer) (fresh : List ℕ) → ((s : ℕ) → s ∈ fresh → s < length m.objects) → (x y : ℕ)
    → y ∈ edges_from UpToSoft (after m ask a fresh).objects x → (y ∈ edges_from UpToSoft m.objects x)
    ⊎ ((y ∈ roots m) ⊎ (y ∈ roots (after m ask a fresh)))
adds_edges m ask a fresh within =
    adds (λ y. (y ∈ roots m) ⊎ (y ∈ roots (after m ask a fresh))) m
    (λ k h y e. inl (named_is_root m k h y e))
    (λ y h. inl (root_from m y (waiting h)))
    ask a fresh
    (λ k rid g c ea er ef. inr (
    subst (λ q. c ∈ roots (after m q a fresh)) (sym ea)
    (subst (λ q. c ∈ roots (after m (Prepare k) q fresh)) (sym er)
    (subst (λ q. c ∈ roots (after m (Prepare k) (Prepared rid) q)) (sym ef)
    (armed_is_root m k rid g c (within c (subst (λ l. c ∈ l) (sym ef) (in_rest c g (c ∷ []) (in_front c c [] refl)))))))))
