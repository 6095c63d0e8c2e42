-- The asks on references and queues leave a well-formed machine.
use Rattle.std.proofs.Common.{◌≡◌, ℕ, true, false, cond, not, List, [], ◌∷◌, ◌++◌, refl, sym, ◌∙◌, ap, subst, inl, inr, Option, Some, None}
use Rattle.std.proofs.Common.{option_map, option_and_then, is_some, drop}
use Rattle.std.proofs.lemmas.Bool.{both_ways, cases_eq, or_parts, not-false, not-true, and_parts}
use Rattle.jlr_types.specs.declared.RefKind.{RefKind}
use Rattle.jlr_types.specs.declared.RefKind.TheVariants.{Phantom}
use Rattle.jlr_types.specs.declared.Refusal.TheVariants.{Busy, NoHandle, Null, WrongKind}
use Rattle.jlr_machine.specs.declared.object.Object.{Object}
use Rattle.jlr_machine.specs.declared.object.Object.TheVariants.{Plain, Reference, Queue, Cleaner, Cleanable, Guard}
use Rattle.jlr_machine.specs.declared.object.Reference.{Reference as ReferenceOf}
use Rattle.jlr_machine.specs.declared.object.RefState.{RefState}
use Rattle.jlr_machine.specs.declared.object.RefState.TheVariants.{Fresh, Pending, Queued, Removed}
use Rattle.jlr_machine.specs.declared.machine.Machine.{Machine}
use Rattle.jlr_machine.specs.declared.machine.Session.{Session}
use Rattle.jlr_machine.specs.declared.machine.Call.TheVariants.{Free}
use Rattle.jlr_machine.specs.declared.ask.Ask.TheVariants.{MakeRef, Deref, Clear, Enqueue, MakeQueue, Poll, Remove}
use Rattle.jlr_machine.specs.declared.ask.Answer.{Answer}
use Rattle.jlr_machine.specs.Objects.{at, ◌∈◌, ◌∋◌, is_distinct, some_and, as_reference, as_members, with_reference, with_members}
use Rattle.jlr_machine.specs.Objects.{queue_ahead}
use Rattle.jlr_machine.specs.Edges.{is_kind}
use Rattle.jlr_machine.specs.Lookups.{slot_named, object_named, with_new, with_object, with_handle, reference_named, members_named, on}
use Rattle.jlr_machine.specs.Refusals.{refusal, is_reference, is_queue, given, front, gotten}
use Rattle.jlr_machine.specs.Calls.{after, unreferred, to_queue, enqueued, polled, with_given, poll_given}
use Rattle.jlr_machine.specs.Run.{IsFresh}
use Rattle.jlr_machine.specs.WellFormed.{IsSessionAt, IsReferenceAt, IsQueueAt, IsWellFormed, IsPrivate, FitsItsState}
use Rattle.jlr_laws.proofs.Sets.{nothing, in_front, in_rest, in_cons}
use Rattle.jlr_laws.proofs.Clearing.{in_append, in_option}
use Rattle.jlr_laws.proofs.Frames.{own_queue, no_some, some_same, set_same, set_other, place_within, is_reference_there}
use Rattle.jlr_laws.proofs.ObjectLeft.{distinct_append}
use Rattle.jlr_laws.proofs.SessionsKept.{keeps_handle, keeps_given}
use Rattle.jlr_laws.proofs.Allowed.{allowed, IsNamed, only_operand, named_of_slot, free_session, and_then_gives}
use Rattle.jlr_laws.proofs.Fits.{changed_is_new, edge_split, referent_object, fresh_one, keeps_made, keeps_reference, pending_state}
use Rattle.jlr_laws.proofs.Fits.{keeps_members}
use Rattle.jlr_laws.proofs.keeps.Heap.{shown_slot}

reference_of : (o : Object) → is_reference o ≡ true → (r : ReferenceOf) × (o ≡ Reference r)
reference_of (Plain fields) e = absurd (cc e)
reference_of (Reference r) e = (r, refl)
reference_of (Queue members) e = absurd (cc e)
reference_of Cleaner e = absurd (cc e)
reference_of (Cleanable c) e = absurd (cc e)
reference_of (Guard g) e = absurd (cc e)

queue_of : (o : Object) → is_queue o ≡ true → (xs : List ℕ) × (o ≡ Queue xs)
queue_of (Plain fields) e = absurd (cc e)
queue_of (Reference r) e = absurd (cc e)
queue_of (Queue members) e = (members, refl)
queue_of Cleaner e = absurd (cc e)
queue_of (Cleanable c) e = absurd (cc e)
queue_of (Guard g) e = absurd (cc e)

-- ---- Making

pub keeps_MakeQueue : (m : Machine) → IsWellFormed m → (k : ℕ) → refusal m (MakeQueue k) ≡ None → (a : Answer) (fresh : List ℕ)
    → IsFresh m.objects 1 fresh → IsWellFormed (after m (MakeQueue k) a fresh)
keeps_MakeQueue m w k no_refusal a fresh f =
    let s = fresh_one m.objects fresh f in
    subst (λ o. IsWellFormed (on o (λ s. with_handle (with_new m s (Queue [])) k s) m)) (sym s.1)
    (keeps_made m s.0 (Queue []) w (record {
      new_cleanable = refl;
      new_guard = refl;
      edges = λ x h. elim (edge_split (Queue []) x h) [ inl h ↦ nothing x h | inr h ↦ no_some x h ];
      queue_fits = λ q r g. no_some r g;
      fresh = λ r g. no_some r g;
      public_referent = λ x r g. no_some r g;
      empty = λ xs g. sym (some_same [] xs g);
      public_fields = λ x xs g h. no_some xs g;
    }) s.2 s.3 k (λ session e. free_session m k session e (allowed m (MakeQueue k) no_refusal Busy refl)))

pub keeps_MakeRef : (m : Machine) → IsWellFormed m → (k : ℕ) (kind : RefKind) (h q : ℕ) → refusal m (MakeRef k kind h q) ≡ None
    → (a : Answer) (fresh : List ℕ) → IsFresh m.objects 1 fresh → IsWellFormed (after m (MakeRef k kind h q) a fresh)
keeps_MakeRef m w k kind h q no_refusal a fresh f =
    let ok = allowed m (MakeRef k kind h q) no_refusal in
    let r : ReferenceOf = record { kind = kind; referent = slot_named m k h; queue = slot_named m k q; state = Fresh } in
    let s = fresh_one m.objects fresh f in
    let is_queue_named : (t : ℕ) → slot_named m k q ≡ Some t → (xs : List ℕ) × IsQueueAt m t xs = λ t e.
    let n = named_of_slot m k q t w e in
    let right = (or_parts _ false (or_parts _ _ (ok WrongKind refl)).1).0 in
    let xs = queue_of n.1 (not-false (is_queue n.1) (sym (ap (some_and (λ o. not (is_queue o))) n.2.named) ∙ right)) in
    (xs.0, n.2.there ∙ ap (λ o. Some o) xs.1) in
    subst (λ o. IsWellFormed (on o (λ s. with_handle (with_new m s (Reference r)) k s) m)) (sym s.1)
    (keeps_made m s.0 (Reference r) w (record {
      new_cleanable = refl;
      new_guard = refl;
      edges = λ x g. elim (edge_split (Reference r) x g) [
        | inl g ↦ (shown_slot m w k q x (in_option x (slot_named m k q) g)).0
        | inr g ↦
            (shown_slot m w k h x g).0
      ];
      queue_fits = λ t x g e. is_queue_named t (ap (λ r. r.queue) (some_same r x g) ∙ e);
      fresh = λ x g. ap (λ r. r.state) (sym (some_same r x g));
      public_referent = λ x y g e. (shown_slot m w k h x (ap (λ r. r.referent) (some_same r y g) ∙ e)).1;
      empty = λ xs g. no_some xs g;
      public_fields = λ x xs g h. no_some xs g;
    }) s.2 s.3 k (λ session e. free_session m k session e (ok Busy refl)))

-- ---- Looking

pub keeps_Deref : (m : Machine) → IsWellFormed m → (k h : ℕ) → refusal m (Deref k h) ≡ None → (a : Answer) (fresh : List ℕ)
    → IsWellFormed (after m (Deref k h) a fresh)
keeps_Deref m w k h no_refusal a fresh =
    keeps_given m w k (given m (Deref k h)) (λ x e.
    let r = and_then_gives gotten (reference_named m k h) x e in
    let o = and_then_gives (at m.objects) (slot_named m k h) (Reference r.0) (is_reference_there (object_named m k h) r.0 r.1) in
    let f : r.0.referent ≡ Some x = elim (is_kind Phantom r.0.kind) as (λ b. cond b None r.0.referent ≡ Some x
    → r.0.referent ≡ Some x) [ true ↦ λ e. no_some x e | false ↦ λ e. e ] r.2 in
    (referent_object m w o.0 x (Reference r.0) o.2 f, w.unnamed.references o.0 x r.0 o.2 f))
    (λ s e. free_session m k s e (allowed m (Deref k h) no_refusal Busy refl))

-- ---- Clearing and enqueuing

cleared_fits : (r : ReferenceOf) (s : RefState) → FitsItsState r s → FitsItsState (unreferred r) s
cleared_fits r Fresh h = h
cleared_fits r Pending h = (h.0, refl)
cleared_fits r Queued h = (h.0, refl)
cleared_fits r Removed h = (h.0, refl)

member_queued : (m : Machine) → IsWellFormed m → (s q : ℕ) (r : ReferenceOf) (xs : List ℕ) → IsReferenceAt m s r → IsQueueAt m q xs → s ∈ xs
    → r.state ≡ Queued
member_queued m w s q r xs e f h =
    let x = w.references.members q s xs f h in
    ap (λ r. r.state) (some_same r x.0 (ap as_reference (some_same (Reference r) (Reference x.0) (sym e ∙ x.1)))) ∙ x.2

module _ (m : Machine) (w : IsWellFormed m) (s : ℕ) (r : ReferenceOf) (e : IsReferenceAt m s r) where
  abbrev m1 : Machine
  m1 = with_object m s (with_reference unreferred)

  pub clear_kept : IsWellFormed m1
  clear_kept =
      subst IsWellFormed (sym (changed_is_new m s (with_reference unreferred) (Reference r) e))
      (keeps_reference m w s r (unreferred r) e (record {
        no_referent = refl;
        queue = λ q g. g;
        fits = cleared_fits r r.state (w.references.states s r e);
        pending = λ g. g;
        queued = λ q xs g h. member_queued m w s q r xs e g h;
        waits = λ h. pending_state m w s r e h;
      }))

  e1 : IsReferenceAt m1 s (unreferred r)
  e1 = set_same m.objects s (option_map (with_reference unreferred) (at m.objects s)) (place_within m.objects s (Reference r) e)
      ∙ ap (option_map (with_reference unreferred)) e

  abbrev lined_up : ReferenceOf → ReferenceOf
  lined_up r = record r { state = Queued; queue = None }

  abbrev m2 : Machine
  m2 = with_object m1 s (with_reference lined_up)

  w2 : IsWellFormed m2
  w2 =
      subst IsWellFormed (sym (changed_is_new m1 s (with_reference lined_up) (Reference (unreferred r)) e1))
      (keeps_reference m1 clear_kept s (unreferred r) (lined_up (unreferred r)) e1 (record {
        no_referent = refl;
        queue = λ q g. no_some q g;
        fits = (refl, refl);
        pending = λ g. absurd (cc g);
        queued = λ q xs g h. refl;
        waits = λ h. inr (inl refl);
      }))

  e2 : IsReferenceAt m2 s (lined_up (unreferred r))
  e2 = set_same m1.objects s (option_map (with_reference lined_up) (at m1.objects s))
      (place_within m1.objects s (Reference (unreferred r)) e1) ∙ ap (option_map (with_reference lined_up)) e1

  elsewhere : (t : ℕ) → (t ≡ s → ⊥) → at m2.objects t ≡ at m.objects t
  elsewhere t d = set_other m1.objects s t (option_map (with_reference lined_up) (at m1.objects s)) d
      ∙ set_other m.objects s t (option_map (with_reference unreferred) (at m.objects s)) d

  -- a reference with a queue is in none
  in_no_queue : (q p : ℕ) (xs : List ℕ) → r.queue ≡ Some q → IsQueueAt m p xs → s ∈ xs → ⊥
  in_no_queue q p xs f g h =
      let fits : FitsItsState r Queued = subst (FitsItsState r) (member_queued m w s p r xs e g h) (w.references.states s r e) in
      no_some q (sym fits.0 ∙ f)

  old_queue : (p : ℕ) (xs : List ℕ) → IsQueueAt m2 p xs → IsQueueAt m p xs
  old_queue p xs g = elim (cases_eq p s) [
    | inl same ↦ let a : Reference (lined_up (unreferred r)) ≡ Queue xs =
        some_same (Reference (lined_up (unreferred r))) (Queue xs) (sym e2 ∙ ap (at m2.objects) (sym same) ∙ g) in absurd (cc a)
    | inr other ↦ sym (elsewhere p other) ∙ g
  ]

  enqueued_at : (q : ℕ) → r.queue ≡ Some q → IsWellFormed (with_object m2 q (with_members (λ members. members ++ s ∷ [])))
  enqueued_at q f =
      let xs = w.slots.queues s q r e f in
      let other : q ≡ s → ⊥ = λ same. let a : Reference r ≡ Queue xs.0 =
      some_same (Reference r) (Queue xs.0) (sym e ∙ ap (at m.objects) (sym same) ∙ xs.1) in cc a in
      let there : IsQueueAt m2 q xs.0 = elsewhere q other ∙ xs.1 in
      let absent : s ∈ xs.0 → ⊥ = λ h. in_no_queue q q xs.0 f xs.1 h in
      subst IsWellFormed (sym (changed_is_new m2 q (with_members (λ members. members ++ s ∷ [])) (Queue xs.0) there))
      (keeps_members m2 w2 q xs.0 (xs.0 ++ s ∷ []) there (record {
        members = λ t h. elim (in_append t xs.0 (s ∷ []) h) [
          | inl a ↦ inl a
          | inr b ↦ elim (in_cons t s [] b) [
            | inl same ↦ inr (
              lined_up (unreferred r),
              ap (at m2.objects) same ∙ e2,
              refl,
              λ p zs g k. in_no_queue q p zs f (old_queue p zs g) (subst (λ t. t ∈ zs) same k),
            )
            | inr c ↦ nothing t c
          ]
        ];
        once = distinct_append xs.0 (s ∷ []) (w.references.once q xs.0 xs.1) refl
            (λ t a b. elim (in_cons t s [] b) [ inl same ↦ absent (subst (λ t. t ∈ xs.0) same a) | inr c ↦ nothing t c ]);
      }))

  pub enqueue_kept : IsWellFormed (enqueued m s)
  enqueue_kept =
      subst (λ o. IsWellFormed (to_queue m1 s o)) (sym (ap (λ o. option_and_then queue_ahead (option_and_then as_reference o)) e))
      (elim (queue_ahead r) as (λ o. queue_ahead r ≡ o → IsWellFormed (to_queue m1 s o)) [
        | None ↦ λ f. clear_kept
        | Some q ↦ λ f. enqueued_at q (own_queue r q f)
      ] refl)

-- the reference that a handle names
reference_at : (m : Machine) (k h s : ℕ) (session : Session) (o : Object) → IsNamed m k h s session o → is_reference o ≡ true
    → (r : ReferenceOf) × IsReferenceAt m s r
reference_at m k h s session o n e = let r = reference_of o e in (r.0, n.there ∙ ap (λ o. Some o) r.1)

pub keeps_Clear : (m : Machine) → IsWellFormed m → (k h : ℕ) → refusal m (Clear k h) ≡ None → (a : Answer) (fresh : List ℕ)
    → IsWellFormed (after m (Clear k h) a fresh)
keeps_Clear m w k h no_refusal a fresh =
    let ok = allowed m (Clear k h) no_refusal in
    let n = only_operand m k h is_reference w (ok NoHandle refl) (ok Null refl) (ok WrongKind refl) in
    let r = reference_at m k h n.0 n.1 n.2 n.3 n.4 in
    subst (λ o. IsWellFormed (on o (λ s. with_object m s (with_reference unreferred)) m)) (sym n.3.slot) (clear_kept m w n.0 r.0 r.1)

pub keeps_Enqueue : (m : Machine) → IsWellFormed m → (k h : ℕ) → refusal m (Enqueue k h) ≡ None → (a : Answer) (fresh : List ℕ)
    → IsWellFormed (after m (Enqueue k h) a fresh)
keeps_Enqueue m w k h no_refusal a fresh =
    let ok = allowed m (Enqueue k h) no_refusal in
    let n = only_operand m k h is_reference w (ok NoHandle refl) (ok Null refl) (ok WrongKind refl) in
    let r = reference_at m k h n.0 n.1 n.2 n.3 n.4 in
    subst (λ o. IsWellFormed (on o (enqueued m) m)) (sym n.3.slot) (enqueue_kept m w n.0 r.0 r.1)

-- ---- Polling

front_is : (xs : List ℕ) (s : ℕ) → front xs ≡ Some s → xs ≡ s ∷ drop 1 xs
front_is [] s e = no_some s e
front_is (x ∷ xs) s e = ap (λ y. y ∷ xs) (some_same x s e)

module _ (m : Machine) (w : IsWellFormed m) (q : ℕ) (xs : List ℕ) (e : IsQueueAt m q xs) (s : ℕ) (f : xs ≡ s ∷ drop 1 xs) where
  abbrev p1 : Machine
  p1 = with_object m q (with_members (drop 1))

  distinct_parts : (not (drop 1 xs ∋ s) ≡ true) × (is_distinct (drop 1 xs) ≡ true)
  distinct_parts =
      and_parts (not (drop 1 xs ∋ s)) (is_distinct (drop 1 xs)) (subst (λ l. is_distinct l ≡ true) f (w.references.once q xs e))

  member : s ∈ xs
  member = subst (λ l. s ∈ l) (sym f) (in_front s s (drop 1 xs) refl)

  v1 : IsWellFormed p1
  v1 =
      subst IsWellFormed (sym (changed_is_new m q (with_members (drop 1)) (Queue xs) e))
      (keeps_members m w q xs (drop 1 xs) e (record {
        members = λ t h. inl (subst (λ l. t ∈ l) (sym f) (in_rest t s (drop 1 xs) h));
        once = distinct_parts.1;
      }))

  the_reference : (r : ReferenceOf) × IsReferenceAt m s r × (r.state ≡ Queued)
  the_reference = w.references.members q s xs e member

  apart : s ≡ q → ⊥
  apart same = let a : Queue xs ≡ Reference the_reference.0 =
      some_same (Queue xs) (Reference the_reference.0) (sym e ∙ ap (at m.objects) (sym same) ∙ the_reference.1) in cc a

  there : IsReferenceAt p1 s the_reference.0
  there = set_other m.objects q s (option_map (with_members (drop 1)) (at m.objects q)) apart ∙ the_reference.1

  queue_now : at p1.objects q ≡ Some (Queue (drop 1 xs))
  queue_now = set_same m.objects q (option_map (with_members (drop 1)) (at m.objects q)) (place_within m.objects q (Queue xs) e)
      ∙ ap (option_map (with_members (drop 1))) e

  gone : (p : ℕ) (zs : List ℕ) → IsQueueAt p1 p zs → s ∈ zs → ⊥
  gone p zs g h = elim (cases_eq p q) [
    | inl same ↦
        let a : Queue (drop 1 xs) ≡ Queue zs =
        some_same (Queue (drop 1 xs)) (Queue zs) (sym queue_now ∙ ap (at p1.objects) (sym same) ∙ g) in
        let b : drop 1 xs ≡ zs = some_same (drop 1 xs) zs (ap as_members a) in
        both_ways (drop 1 xs ∋ s) (not-true (drop 1 xs ∋ s) distinct_parts.0) (subst (λ l. s ∈ l) (sym b) h)
    | inr other ↦ other (w.references.in_one p q s zs xs
        (sym (set_other m.objects q p (option_map (with_members (drop 1)) (at m.objects q)) other) ∙ g) e h member)
  ]

  abbrev removed : ReferenceOf → ReferenceOf
  removed r = record r { state = Removed }

  abbrev p2 : Machine
  p2 = with_object p1 s (with_reference removed)

  queued_fits : FitsItsState the_reference.0 Queued
  queued_fits = subst (FitsItsState the_reference.0) the_reference.2 (w.references.states s the_reference.0 the_reference.1)

  v2 : IsWellFormed p2
  v2 =
      subst IsWellFormed (sym (changed_is_new p1 s (with_reference removed) (Reference the_reference.0) there))
      (keeps_reference p1 v1 s the_reference.0 (removed the_reference.0) there (record {
        no_referent = queued_fits.1;
        queue = λ q g. g;
        fits = queued_fits;
        pending = λ g. absurd (cc g);
        queued = λ p zs g h. absurd (gone p zs g h);
        waits = λ h. inr (inr refl);
      }))

  now : IsReferenceAt p2 s (removed the_reference.0)
  now = set_same p1.objects s (option_map (with_reference removed) (at p1.objects s))
      (place_within p1.objects s (Reference the_reference.0) there) ∙ ap (option_map (with_reference removed)) there

  shown : ¬ (IsPrivate p2 s)
  shown (inl p) = let a : Reference (removed the_reference.0) ≡ Cleanable p.0 =
      some_same (Reference (removed the_reference.0)) (Cleanable p.0) (sym now ∙ p.2) in cc a
  shown (inr p) = let a : Reference (removed the_reference.0) ≡ Guard p.0 =
      some_same (Reference (removed the_reference.0)) (Guard p.0) (sym now ∙ p.2) in cc a

  pub polled_kept : (k : ℕ) → ((session : Session) → IsSessionAt m k session → session.call ≡ Free) → IsWellFormed (with_handle p2 k s)
  polled_kept k idle = keeps_handle p2 v2 k s (ap is_some now) shown idle

poll_kept : (m : Machine) → IsWellFormed m → (k q : ℕ) (xs : List ℕ) → IsQueueAt m q xs
    → ((session : Session) → IsSessionAt m k session → session.call ≡ Free) → (o : Option ℕ) → o ≡ front xs
    → IsWellFormed (with_given (polled m q o) k o)
poll_kept m w k q xs e idle None f = w
poll_kept m w k q xs e idle (Some s) f = polled_kept m w q xs e s (front_is xs s (sym f)) k idle

-- the queue that a handle names, and its front
poll_named : (m : Machine) → IsWellFormed m → (k h s : ℕ) (session : Session) (o : Object) → IsNamed m k h s session o → is_queue o ≡ true
    → ((session : Session) → IsSessionAt m k session → session.call ≡ Free)
    → IsWellFormed (poll_given m k h (option_and_then front (members_named m k h)))
poll_named m w k h s session o n queue idle =
    let xs = queue_of o queue in
    let e : IsQueueAt m s xs.0 = n.there ∙ ap (λ o. Some o) xs.1 in
    let f : option_and_then front (members_named m k h) ≡ front xs.0 =
    ap (λ o. option_and_then front (option_and_then as_members o)) (n.named ∙ ap (λ o. Some o) xs.1) in
    subst (λ o. IsWellFormed (on o (λ q. with_given (polled m q (option_and_then front (members_named m k h))) k
    (option_and_then front (members_named m k h))) m)) (sym n.slot)
    (poll_kept m w k s xs.0 e idle (option_and_then front (members_named m k h)) f)

pub keeps_Poll : (m : Machine) → IsWellFormed m → (k h : ℕ) → refusal m (Poll k h) ≡ None → (a : Answer) (fresh : List ℕ)
    → IsWellFormed (after m (Poll k h) a fresh)
keeps_Poll m w k h no_refusal a fresh =
    let ok = allowed m (Poll k h) no_refusal in
    let n = only_operand m k h is_queue w (ok NoHandle refl) (ok Null refl) (ok WrongKind refl) in
    poll_named m w k h n.0 n.1 n.2 n.3 n.4 (λ session e. free_session m k session e (ok Busy refl))

pub keeps_Remove : (m : Machine) → IsWellFormed m → (k h : ℕ) → refusal m (Remove k h) ≡ None → (a : Answer) (fresh : List ℕ)
    → IsWellFormed (after m (Remove k h) a fresh)
keeps_Remove m w k h no_refusal a fresh =
    let ok = allowed m (Remove k h) no_refusal in
    let n = only_operand m k h is_queue w (ok NoHandle refl) (ok Null refl) (ok WrongKind refl) in
    poll_named m w k h n.0 n.1 n.2 n.3 n.4 (λ session e. free_session m k session e (ok Busy refl))
