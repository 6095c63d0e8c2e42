-- Well-formedness survives one new object in place of none, or of another that is no cleanable and no guard.
use Rattle.std.proofs.Common.{◌≡◌, ℕ, suc, ◌+◌, ◌<◌, Bool, cond, not, List, [], ◌∷◌, length, refl, sym, ◌∙◌, ap, subst, ◌⊎◌, inl, inr}
use Rattle.std.proofs.Common.{arith, IsTrue, Option, Some, None, option_and_then, option_to_list, is_some, count_by}
use Rattle.std.specs.List.{flat_map}
use Rattle.std.proofs.lemmas.Bool.{cases_eq}
use Rattle.std.proofs.lemmas.List.{length-set}
use Rattle.std.proofs.lemmas.List.Sums.{sum_by-cons}
use Rattle.jlr_machine.specs.declared.object.Contents.{Contents}
use Rattle.jlr_machine.specs.declared.object.Object.{Object}
use Rattle.jlr_machine.specs.declared.object.Object.TheVariants.{Plain, Reference, Queue, Cleaner, Cleanable, Guard}
use Rattle.jlr_machine.specs.declared.object.Reference.{Reference as ReferenceOf}
use Rattle.jlr_machine.specs.declared.object.RefState.{RefState}
use Rattle.jlr_machine.specs.declared.object.RefState.TheVariants.{Pending, Queued, Removed}
use Rattle.jlr_machine.specs.declared.object.CleanState.{CleanState}
use Rattle.jlr_machine.specs.declared.object.CleanState.TheVariants.{Pending as PendingClean, Spent}
use Rattle.jlr_machine.specs.declared.machine.Machine.{Machine}
use Rattle.jlr_machine.specs.declared.machine.Session.{Session}
use Rattle.jlr_machine.specs.declared.machine.Call.{Call}
use Rattle.jlr_machine.specs.declared.machine.Call.TheVariants.{Free, Opening as CallOpening, Out as CallOut, Job as CallJob}
use Rattle.jlr_machine.specs.declared.machine.ResourceState.TheVariants.{Opening, Out}
use Rattle.jlr_machine.specs.Objects.{Table, Heap, at, set_at, ◌∈◌, is_distinct, some_and, as_fields, as_reference, as_members}
use Rattle.jlr_machine.specs.Objects.{as_cleanable, as_guard, is_spent}
use Rattle.jlr_machine.specs.Edges.{edges, edges_from, slots_in, is_own_root, is_active}
use Rattle.jlr_machine.specs.Lookups.{with_new}
use Rattle.jlr_machine.specs.WellFormed.{IsObjectAt, IsReferenceAt, IsQueueAt, IsWellFormed, FitsItsState, FitsItsCall, IsPrivate, state_at}
use Rattle.jlr_machine.specs.WellFormed.{clean_state_at, is_unspent_place}
use Rattle.jlr_machine.specs.Edges.Chain.{UpToPhantom}
use Rattle.jlr_laws.proofs.Sets.{nothing}
use Rattle.jlr_laws.proofs.Clearing.{in_append}
use Rattle.jlr_laws.proofs.Frames.{no_some, some_same, set_same, set_other, set_cases, IsRoot, held, fencing, named, waiting, lining}
use Rattle.jlr_laws.proofs.Frames.{active, root_gives, root_from, limits_stay, seen_stays}
use Rattle.jlr_laws.proofs.CleaningKept.{cleanable_forth, guard_back, fencing_forth, private_back, actions_kept, resources_kept}

-- ---- Counts

pub count_pointwise : {A : Type 0} (p : Option A → Bool) (xs ys : Table A) → length xs ≡ length ys → ((i : ℕ) → p (at xs i) ≡ p (at ys i))
    → count_by p xs ≡ count_by p ys
count_pointwise p [] [] e h = refl
count_pointwise p [] (y ∷ ys) e h = absurd (omega (arith, e))
count_pointwise p (x ∷ xs) [] e h = absurd (omega (arith, e))
count_pointwise p (x ∷ xs) (y ∷ ys) e h =
    sum_by-cons (λ x. cond (p x) 1 0) x xs
    ∙ ap (λ b. cond b 1 0 + count_by p xs) (h 0)
    ∙ ap (λ n. cond (p y) 1 0 + n) (count_pointwise p xs ys (omega (arith, e)) (λ i. h (suc i)))
    ∙ sym (sum_by-cons (λ x. cond (p x) 1 0) y ys)

-- ---- What depends on cleanables alone

pub holds_as : (o : Option Object) → is_own_root o ≡ some_and (λ c. is_active c.state) (option_and_then as_cleanable o)
holds_as None = refl
holds_as (Some (Plain fields)) = refl
holds_as (Some (Reference r)) = refl
holds_as (Some (Queue members)) = refl
holds_as (Some Cleaner) = refl
holds_as (Some (Cleanable c)) = refl
holds_as (Some (Guard g)) = refl

pub state_there : (o : Option ReferenceOf) (st : RefState) → option_and_then (λ r. Some r.state) o ≡ Some st → (r : ReferenceOf)
    × (o ≡ Some r) × (r.state ≡ st)
state_there None st e = no_some st e
state_there (Some r) st e = (r, refl, some_same r.state st e)

-- why a slot may be on the pending list
abbrev pub IsPendingKind : Option RefState → Option CleanState → Type 0
IsPendingKind a b = (a ≡ Some Pending) ⊎ (a ≡ Some Queued) ⊎ (a ≡ Some Removed) ⊎ (b ≡ Some PendingClean) ⊎ (b ≡ Some Spent)

-- ---- A new object

pub record IsFit (m : Machine) (s : ℕ) (o : Object) : Type 0 where
  pub inside : s < length m.objects
  -- neither the old nor the new one is a cleanable or a guard
  pub old_cleanable : option_and_then as_cleanable (at m.objects s) ≡ None
  pub old_guard : option_and_then as_guard (at m.objects s) ≡ None
  pub new_cleanable : as_cleanable o ≡ None
  pub new_guard : as_guard o ≡ None
  pub edges : (x : ℕ) → x ∈ edges UpToPhantom o → IsObjectAt m x
  -- a queue stays one, and a member of a queue a Queued reference
  pub queue_stays : (xs : List ℕ) → IsQueueAt m s xs → (ys : List ℕ) × (o ≡ Queue ys)
  pub queued_stays : (q : ℕ) (xs : List ℕ) → IsQueueAt m q xs → s ∈ xs → (r : ReferenceOf) × (o ≡ Reference r) × (r.state ≡ Queued)
  pub pending_stays : s ∈ m.pending → (r : ReferenceOf) × (o ≡ Reference r)
      × ((r.state ≡ Pending) ⊎ ((r.state ≡ Queued) ⊎ (r.state ≡ Removed)))
  -- as a reference
  pub queue_fits : (q : ℕ) (r : ReferenceOf) → as_reference o ≡ Some r → r.queue ≡ Some q → (xs : List ℕ) × IsQueueAt m q xs
  pub state_fits : (r : ReferenceOf) → as_reference o ≡ Some r → FitsItsState r r.state
  pub pending_there : (r : ReferenceOf) → as_reference o ≡ Some r → r.state ≡ Pending → s ∈ m.pending
  pub public_referent : (x : ℕ) (r : ReferenceOf) → as_reference o ≡ Some r → r.referent ≡ Some x → ¬ (IsPrivate m x)
  -- as a queue
  pub members : (t : ℕ) (xs : List ℕ) → as_members o ≡ Some xs → t ∈ xs → (t ≡ s → ⊥)
      × ((r : ReferenceOf) × IsReferenceAt m t r × (r.state ≡ Queued))
  pub once : (xs : List ℕ) → as_members o ≡ Some xs → IsTrue (is_distinct xs)
  pub in_one : (t p : ℕ) (xs ys : List ℕ) → as_members o ≡ Some xs → t ∈ xs → IsQueueAt m p ys → t ∈ ys → p ≡ s
  -- as a plain object
  pub public_fields : (x : ℕ) (fields : Contents) → as_fields o ≡ Some fields → x ∈ slots_in fields → ¬ (IsPrivate m x)

module _ (m : Machine) (s : ℕ) (o : Object) (w : IsWellFormed m) (f : IsFit m s o) where
  abbrev heap : Heap
  heap = set_at m.objects s o

  abbrev n : Machine
  n = with_new m s o

  here : at heap s ≡ Some o
  here = set_same m.objects s (Some o) f.inside

  there : (t : ℕ) (p : Object) → at heap t ≡ Some p → ((t ≡ s) × (o ≡ p)) ⊎ ((t ≡ s → ⊥) × (at m.objects t ≡ Some p))
  there t p e = elim (set_cases m.objects s t (Some o) p e) [ inl h ↦ inl (h.0, some_same o p h.1) | inr h ↦ inr h ]

  elsewhere : (t : ℕ) → (t ≡ s → ⊥) → at heap t ≡ at m.objects t
  elsewhere t d = set_other m.objects s t (Some o) d

  -- a view of objects that is the same at s is the same everywhere
  same_view : {A : Type 0} (view : Option Object → A) → view (Some o) ≡ view (at m.objects s) → (t : ℕ)
      → view (at heap t) ≡ view (at m.objects t)
  same_view view e t = elim (cases_eq t s) [
    | inl same ↦ subst (λ t. view (at heap t) ≡ view (at m.objects t)) (sym same) (ap view here ∙ e)
    | inr other ↦ ap view (elsewhere t other)
  ]

  cleanables : (t : ℕ) → option_and_then as_cleanable (at heap t) ≡ option_and_then as_cleanable (at m.objects t)
  cleanables = same_view (option_and_then as_cleanable) (f.new_cleanable ∙ sym f.old_cleanable)

  guards : (t : ℕ) → option_and_then as_guard (at heap t) ≡ option_and_then as_guard (at m.objects t)
  guards = same_view (option_and_then as_guard) (f.new_guard ∙ sym f.old_guard)

  unspent_same : (t : ℕ) → is_unspent_place (at heap t) ≡ is_unspent_place (at m.objects t)
  unspent_same t = ap (some_and (λ c. not (is_spent c.state))) (cleanables t)

  holds_same : (t : ℕ) → is_own_root (at heap t) ≡ is_own_root (at m.objects t)
  holds_same t = holds_as (at heap t) ∙ ap (some_and (λ c. is_active c.state)) (cleanables t) ∙ sym (holds_as (at m.objects t))

  objects_stay : (t : ℕ) → IsObjectAt m t → IsObjectAt n t
  objects_stay t h = elim (cases_eq t s) [
    | inl same ↦ subst (λ t. IsTrue (is_some (at heap t))) (sym same) (ap is_some here)
    | inr other ↦ ap is_some (elsewhere t other) ∙ h
  ]

  queue_forth : (q : ℕ) (xs : List ℕ) → IsQueueAt m q xs → (ys : List ℕ) × IsQueueAt n q ys
  queue_forth q xs e = elim (cases_eq q s) [
    | inl same ↦ let r = f.queue_stays xs (ap (at m.objects) (sym same) ∙ e) in (r.0, ap (at heap) same ∙ here ∙ ap (λ o. Some o) r.1)
    | inr other ↦ (xs, elsewhere q other ∙ e)
  ]

  edges_stay : (t x : ℕ) → x ∈ edges_from UpToPhantom heap t → IsObjectAt n x
  edges_stay t x h = elim (cases_eq t s) [
    | inl same ↦
        let e : at heap t ≡ Some o = ap (at heap) same ∙ here in
        elim (in_append x (edges UpToPhantom o) [] (subst (λ o. x ∈ flat_map (edges UpToPhantom) (option_to_list o)) e h)) [
          | inl h ↦ objects_stay x (f.edges x h)
          | inr h ↦ nothing x h
        ]
    | inr other ↦
        objects_stay x (w.slots.edges t x (subst (λ o. x ∈ flat_map (edges UpToPhantom) (option_to_list o)) (elsewhere t other) h))
  ]

  old_root : (t : ℕ) → IsRoot n t → IsRoot m t
  old_root t (held k h session e g) = held k h session e g
  old_root t (fencing k session e g) = fencing k session e g
  old_root t (named h) = named h
  old_root t (waiting h) = waiting h
  old_root t (lining h) = lining h
  old_root t (active h) = active (sym (holds_same t) ∙ h)

  queue_there : (t q : ℕ) (r : ReferenceOf) → IsReferenceAt n t r → r.queue ≡ Some q → (xs : List ℕ) × IsQueueAt m q xs
  queue_there t q r e g = elim (there t (Reference r) e) [
    | inl h ↦ f.queue_fits q r (ap as_reference h.1) g
    | inr h ↦ w.slots.queues t q r h.1 g
  ]

  -- a Queued reference elsewhere stays where it is
  member_forth : (t : ℕ) → (t ≡ s → ⊥) → (r : ReferenceOf) × IsReferenceAt m t r × (r.state ≡ Queued) → (r : ReferenceOf)
      × IsReferenceAt n t r × (r.state ≡ Queued)
  member_forth t d r = (r.0, elsewhere t d ∙ r.1, r.2)

  old_member : (q t : ℕ) (xs : List ℕ) → IsQueueAt m q xs → t ∈ xs → (r : ReferenceOf) × IsReferenceAt n t r × (r.state ≡ Queued)
  old_member q t xs e h = elim (cases_eq t s) [
    | inl same ↦ let r = f.queued_stays q xs e (subst (λ t. t ∈ xs) same h) in (r.0, ap (at heap) same ∙ here ∙ ap (λ o. Some o) r.1, r.2)
    | inr other ↦ member_forth t other (w.references.members q t xs e h)
  ]

  members_fit : (q t : ℕ) (xs : List ℕ) → IsQueueAt n q xs → t ∈ xs → (r : ReferenceOf) × IsReferenceAt n t r × (r.state ≡ Queued)
  members_fit q t xs e h = elim (there q (Queue xs) e) [
    | inl g ↦ let r = f.members t xs (ap as_members g.1) h in member_forth t r.0 r.1
    | inr g ↦ old_member q t xs g.1 h
  ]

  one_queue : (p q t : ℕ) (xs ys : List ℕ) → IsQueueAt n p xs → IsQueueAt n q ys → t ∈ xs → t ∈ ys → p ≡ q
  one_queue p q t xs ys e g h k = elim (there p (Queue xs) e) [
    | inl a ↦ elim (there q (Queue ys) g) [
      | inl b ↦ a.0 ∙ sym b.0
      | inr b ↦ a.0 ∙ sym (f.in_one t q xs ys (ap as_members a.1) h b.1 k)
    ]
    | inr a ↦ elim (there q (Queue ys) g) [
      | inl b ↦ f.in_one t p ys xs (ap as_members b.1) k a.1 h ∙ sym b.0
      | inr b ↦ w.references.in_one p q t xs ys a.1 b.1 h k
    ]
  ]

  clean_same : (t : ℕ) → clean_state_at n t ≡ clean_state_at m t
  clean_same t = ap (option_and_then (λ c. Some c.state)) (cleanables t)

  state_elsewhere : (t : ℕ) → (t ≡ s → ⊥) → state_at n t ≡ state_at m t
  state_elsewhere t d = ap (λ o. option_and_then (λ r. Some r.state) (option_and_then as_reference o)) (elsewhere t d)

  state_here : state_at n s ≡ option_and_then (λ r. Some r.state) (as_reference o)
  state_here = ap (λ o. option_and_then (λ r. Some r.state) (option_and_then as_reference o)) here

  pending_there : (t : ℕ) → state_at n t ≡ Some Pending → t ∈ m.pending
  pending_there t e = elim (cases_eq t s) [
    | inl same ↦
        let r = state_there (as_reference o) Pending (sym state_here ∙ ap (state_at n) (sym same) ∙ e) in
        subst (λ t. t ∈ m.pending) (sym same) (f.pending_there r.0 r.1 r.2)
    | inr other ↦ w.lists.pending_references t (sym (state_elsewhere t other) ∙ e)
  ]

  pending_kind : (t : ℕ) → t ∈ m.pending → IsPendingKind (state_at n t) (clean_state_at n t)
  pending_kind t h = elim (cases_eq t s) [
    | inl same ↦
        let r = f.pending_stays (subst (λ t. t ∈ m.pending) same h) in
        let e : state_at n t ≡ Some r.0.state = ap (state_at n) same ∙ state_here
        ∙ ap (λ o. option_and_then (λ r. Some r.state) (as_reference o)) r.1 in
        elim r.2 [
          | inl p ↦ inl (e ∙ ap (λ s. Some s) p)
          | inr (inl p) ↦ inr (inl (e ∙ ap (λ s. Some s) p))
          | inr (inr p) ↦ inr (inr (inl (e ∙ ap (λ s. Some s) p)))
        ]
    | inr other ↦ subst (λ a. IsPendingKind a (clean_state_at n t)) (sym (state_elsewhere t other))
        (subst (λ b. IsPendingKind (state_at m t) b) (sym (clean_same t)) (w.lists.pending_others t h))
  ]

  fits_call : (k : ℕ) (session : Session) (call : Call) → FitsItsCall m k session call → FitsItsCall n k session call
  fits_call k session Free h = h
  fits_call k session (CallOpening rid) h = fencing_forth m heap m.mutators cleanables guards session session rid Opening refl h
  fits_call k session (CallOut rid) h = fencing_forth m heap m.mutators cleanables guards session session rid Out refl h
  fits_call k session (CallJob action) h = h

  private_before : (t : ℕ) → IsPrivate n t → IsPrivate m t
  private_before t = private_back m heap m.mutators cleanables guards t

  pub keeps_new : IsWellFormed (with_new m s o)
  keeps_new =
      record {
        slots = record {
          edges = edges_stay;
          roots = λ t h. objects_stay t (w.slots.roots t (root_from m t (old_root t (root_gives n t h))));
          queues = λ t q r e g. let x = queue_there t q r e g in queue_forth q x.0 x.1;
          guarded = λ t g e. let c = w.slots.guarded t g (guard_back m heap m.mutators cleanables guards t g e) in
              (c.0, cleanable_forth m heap m.mutators cleanables guards g.cleanable c.0 c.1);
        };
        references = record {
          states = λ t r e. elim (there t (Reference r) e) [
            | inl h ↦ f.state_fits r (ap as_reference h.1)
            | inr h ↦
                w.references.states t r h.1
          ];
          members = members_fit;
          once = λ q xs e. elim (there q (Queue xs) e) [ inl h ↦ f.once xs (ap as_members h.1) | inr h ↦ w.references.once q xs h.1 ];
          in_one = one_queue;
        };
        lists = record {
          pending_once = w.lists.pending_once;
          line_once = w.lists.line_once;
          pending_references = pending_there;
          pending_cleanables = λ t e. w.lists.pending_cleanables t (sym (clean_same t) ∙ e);
          pending_others = pending_kind;
          lined = λ t e. w.lists.lined t (sym (clean_same t) ∙ e);
          line_others = λ t h. elim (w.lists.line_others t h) [ inl e ↦ inl (clean_same t ∙ e) | inr e ↦ inr (clean_same t ∙ e) ];
        };
        sessions = record {
          places =
              w.sessions.places;
          opening = w.sessions.opening;
          names = w.sessions.names;
          names_limit = w.sessions.names_limit;
        };
        actions = actions_kept m heap m.mutators cleanables guards
            (omega (arith, count_pointwise is_unspent_place heap m.objects (length-set m.objects s (Some o)) unspent_same)) w.actions;
        resources = resources_kept m heap m.mutators cleanables guards w.resources;
        calls = record {
          calls = λ k session e. fits_call k session session.call (w.calls.calls k session e);
          opening = w.calls.opening;
          out = w.calls.out;
          one_call = w.calls.one_call;
          jobs = w.calls.jobs;
        };
        unnamed = record {
          handles = λ k h t session e g p. w.unnamed.handles k h t session e g (private_before t p);
          names = λ t h p. w.unnamed.names t h (private_before t p);
          fields = λ t x fields e h p. elim (there t (Plain fields) e) [
            | inl g ↦ f.public_fields x fields (ap as_fields g.1) h (private_before x p)
            | inr g ↦ w.unnamed.fields t x fields g.1 h (private_before x p)
          ];
          references = λ t x r e h p. elim (there t (Reference r) e) [
            | inl g ↦ f.public_referent x r (ap as_reference g.1) h (private_before x p)
            | inr g ↦ w.unnamed.references t x r g.1 h (private_before x p)
          ];
        };
        limits = limits_stay m n w.limits (length-set m.objects s (Some o)) refl;
        faults = w.faults;
        notes = w.notes;
        seen_rising = w.seen_rising;
        seen_within = seen_stays m.seen m.objects heap w.seen_within (length-set m.objects s (Some o));
        seen_in_cycle = w.seen_in_cycle;
      }
