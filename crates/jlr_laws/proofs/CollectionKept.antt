-- A collection leaves a well-formed machine.
use Rattle.std.proofs.Common.{◌≡◌, ◌≢◌, ℕ, Bool, true, false, cond, not, ◌&&◌, List, [], ◌++◌, refl, sym, ◌∙◌, ap, subst}
use Rattle.std.proofs.Common.{◌⊎◌, inl, inr, arith, IsTrue, Option, Some, None, option_map, option_and_then, is_some}
use Rattle.std.proofs.lemmas.Bool.{both_ways, cases_Bool, cond-true, cond-false, and_parts}
use Rattle.jlr_types.specs.declared.Work.TheVariants.{Resource as WorkOn}
use Rattle.jlr_machine.specs.declared.object.Contents.{Contents}
use Rattle.jlr_machine.specs.declared.object.Object.{Object}
use Rattle.jlr_machine.specs.declared.object.Object.TheVariants.{Plain, Reference, Queue, Cleanable, Guard}
use Rattle.jlr_machine.specs.declared.object.Reference.{Reference as ReferenceOf}
use Rattle.jlr_machine.specs.declared.object.Cleanable.{Cleanable as CleanableOf}
use Rattle.jlr_machine.specs.declared.object.Guard.{Guard as GuardOf}
use Rattle.jlr_machine.specs.declared.object.RefState.TheVariants.{Pending, Queued}
use Rattle.jlr_machine.specs.declared.object.CleanState.{CleanState}
use Rattle.jlr_machine.specs.declared.object.CleanState.TheVariants.{Armed, Pending as PendingClean, Lined, Spent}
use Rattle.jlr_machine.specs.declared.machine.Machine.{Machine}
use Rattle.jlr_machine.specs.declared.machine.Session.{Session}
use Rattle.jlr_machine.specs.declared.machine.Resource.{Resource}
use Rattle.jlr_machine.specs.declared.machine.Call.{Call}
use Rattle.jlr_machine.specs.declared.machine.Call.TheVariants.{Free, Opening as CallOpening, Out as CallOut, Job as CallJob}
use Rattle.jlr_machine.specs.declared.machine.ResourceState.{ResourceState}
use Rattle.jlr_machine.specs.declared.machine.ResourceState.TheVariants.{Opening, Idle, Out, Closing}
use Rattle.jlr_machine.specs.Objects.{Heap, at, ◌∋◌, ◌∈◌, some_and, as_reference, as_cleanable, is_fresh, is_armed}
use Rattle.jlr_machine.specs.Objects.{any_referent, is_spent, queue_ahead}
use Rattle.jlr_machine.specs.Edges.{strong_edges, edges_from, is_own_root, is_active, roots}
use Rattle.jlr_machine.specs.Collection.{is_ready, referent_if_kept, left_of, places_left, after_collection}
use Rattle.jlr_machine.specs.Lookups.{job_of, slot_named}
use Rattle.jlr_machine.specs.Refusals.{Operand, is_of_wrong_kind}
use Rattle.jlr_machine.specs.WellFormed.{IsObjectAt, IsReferenceAt, IsQueueAt, IsGuardAt, IsCleanableAt, IsSessionAt, IsWellFormed}
use Rattle.jlr_machine.specs.WellFormed.{IsUnspent, FitsItsState, FitsItsCall, IsFencing, IsOwnGuard, IsPrivate, HasResource, HasWorker}
use Rattle.jlr_machine.specs.WellFormed.{IsAction, state_at, clean_state_at, is_unspent_place}
use Rattle.jlr_machine.specs.Edges.Chain.{UpToPhantom}
use Rattle.jlr_laws.proofs.Sets.{in_front, nothing}
use Rattle.jlr_laws.proofs.Clearing.{in_append, in_left, in_right, edge_gives, edge_from, referent_is, some_kind, option_in, same_some}
use Rattle.jlr_laws.proofs.Agree.{at-places_left}
use Rattle.jlr_laws.proofs.Frames.{no_some, some_same, is_reference_there, is_cleanable_there, IsRoot, held, fencing, named, waiting}
use Rattle.jlr_laws.proofs.Frames.{lining, active, root_gives, root_from, limits_stay, still_ahead}
use Rattle.jlr_laws.proofs.ObjectsKept.{count_pointwise, state_there, IsPendingKind}
use Rattle.jlr_laws.proofs.Left.{IsLeft}
use Rattle.jlr_laws.proofs.Allowed.{and_then_gives}
use Rattle.jlr_laws.proofs.ObjectLeft.{distinct_append, left_reference, left_cleanable, reference_before, cleanable_before, queue_before}
use Rattle.jlr_laws.proofs.ObjectLeft.{guard_before, plain_before, strong_same, referent_left, kept_referent, keeps_referent_in}
use Rattle.jlr_laws.proofs.ObjectLeft.{loses_referent_out, state_in, clean_state_in, quiet_state, quiet_clean_state, handed_kind}
use Rattle.jlr_laws.proofs.ObjectLeft.{pending_unready, lined_unready, unspent_same_false, armed_is, unspent_same_true, unspent_is}
use Rattle.jlr_laws.proofs.ObjectLeft.{fits_left, holds_somewhere, length_left}

-- ---- The machine that a collection leaves

module _ (m : Machine) (B kept pending : List ℕ) (w : IsWellFormed m) (l : IsLeft m.objects B kept pending)
    (holds : (s : ℕ) → s ∈ roots m → s ∈ B) where
  abbrev heap : Heap
  heap = places_left kept pending 0 m.objects

  abbrev n : Machine
  n = after_collection m kept pending

  at_new : (s : ℕ) → at heap s ≡ cond (kept ∋ s) (option_map (left_of kept (pending ∋ s)) (at m.objects s)) None
  at_new s = at-places_left kept pending 0 m.objects s s (omega arith)

  at_kept : (s : ℕ) → s ∈ kept → at heap s ≡ option_map (left_of kept (pending ∋ s)) (at m.objects s)
  at_kept s k = at_new s ∙ cond-true (kept ∋ s) (option_map (left_of kept (pending ∋ s)) (at m.objects s)) None k

  forth : (s : ℕ) (o : Object) → s ∈ kept → at m.objects s ≡ Some o → at heap s ≡ Some (left_of kept (pending ∋ s) o)
  forth s o k e = at_kept s k ∙ ap (option_map (left_of kept (pending ∋ s))) e

  back : (s : ℕ) (p : Object) → at heap s ≡ Some p → (o : Object) × (s ∈ kept) × (at m.objects s ≡ Some o)
      × (p ≡ left_of kept (pending ∋ s) o)
  back s p e = elim (cases_Bool (kept ∋ s)) [
    | inl k ↦
        elim (at m.objects s) as (λ o. at m.objects s ≡ o → option_map (left_of kept (pending ∋ s)) o ≡ Some p → (o : Object) × (s ∈ kept)
        × (at m.objects s ≡ Some o) × (p ≡ left_of kept (pending ∋ s) o)) [
          | None ↦ λ f g. no_some p g
          | Some o ↦ λ f g. (o, k, f, sym (some_same (left_of kept (pending ∋ s) o) p g))
        ] refl (sym (at_kept s k) ∙ e)
    | inr d ↦ no_some p (sym (at_new s ∙ cond-false (kept ∋ s) (option_map (left_of kept (pending ∋ s)) (at m.objects s)) None d) ∙ e)
  ]

  root_kept : (s : ℕ) → IsRoot m s → s ∈ kept
  root_kept s r = l.base s (holds s (root_from m s r))

  object_forth : (s : ℕ) → s ∈ kept → IsObjectAt m s → IsObjectAt n s
  object_forth s k h =
      elim (at m.objects s) as (λ o. at m.objects s ≡ o → is_some o ≡ true → IsObjectAt n s) [
        | None ↦ λ e h. absurd (both_ways false refl h)
        | Some o ↦ λ e h. ap is_some (forth s o k e)
      ] refl h

  reference_back : (s : ℕ) (r : ReferenceOf) → IsReferenceAt n s r → (x : ReferenceOf) × (s ∈ kept) × IsReferenceAt m s x
      × (r ≡ left_reference kept (pending ∋ s) x)
  reference_back s r e =
      let b = back s (Reference r) e in
      let x = reference_before kept (pending ∋ s) b.0 r b.3 in
      (x.0, b.1, b.2 ∙ ap (λ o. Some o) x.1, x.2)

  cleanable_back : (s : ℕ) (r : CleanableOf) → IsCleanableAt n s r → (x : CleanableOf) × (s ∈ kept) × IsCleanableAt m s x
      × (r ≡ left_cleanable kept (pending ∋ s) x)
  cleanable_back s r e =
      let b = back s (Cleanable r) e in
      let x = cleanable_before kept (pending ∋ s) b.0 r b.3 in
      (x.0, b.1, b.2 ∙ ap (λ o. Some o) x.1, x.2)

  queue_back : (s : ℕ) (xs : List ℕ) → IsQueueAt n s xs → (s ∈ kept) × IsQueueAt m s xs
  queue_back s xs e = let b = back s (Queue xs) e in (b.1, b.2 ∙ ap (λ o. Some o) (queue_before kept (pending ∋ s) b.0 xs b.3))

  guard_back : (s : ℕ) (g : GuardOf) → IsGuardAt n s g → (s ∈ kept) × IsGuardAt m s g
  guard_back s g e = let b = back s (Guard g) e in (b.1, b.2 ∙ ap (λ o. Some o) (guard_before kept (pending ∋ s) b.0 g b.3))

  plain_back : (s : ℕ) (xs : Contents) → at heap s ≡ Some (Plain xs) → (s ∈ kept) × (at m.objects s ≡ Some (Plain xs))
  plain_back s xs e = let b = back s (Plain xs) e in (b.1, b.2 ∙ ap (λ o. Some o) (plain_before kept (pending ∋ s) b.0 xs b.3))

  -- ---- What is handed over, and what is not

  unready : (s : ℕ) (o : Object) → at m.objects s ≡ Some o → is_ready o ≡ false → (pending ∋ s) ≡ false
  unready s o e d = elim (cases_Bool (pending ∋ s)) [
    | inl p ↦ let r = l.lost s p in absurd (both_ways (is_ready o) d (ap is_ready (some_same o r.0 (sym e ∙ r.3)) ∙ r.4))
    | inr q ↦ q
  ]

  reference_handed : (s : ℕ) (r : ReferenceOf) → IsReferenceAt m s r → s ∈ pending → IsTrue (is_some r.queue)
      × (referent_if_kept kept r.referent ≡ None)
  reference_handed s r e p =
      let h = l.lost s p in
      let same : h.0 ≡ Reference r = some_same h.0 (Reference r) (sym h.3 ∙ e) in (
        (and_parts (is_fresh r.state) (is_some r.queue) (sym (ap is_ready same) ∙ h.4)).1,
        loses_referent_out kept r.referent h.1 (sym (ap any_referent same) ∙ h.5) h.6,
      )

  cleanable_handed : (s : ℕ) (c : CleanableOf) → IsCleanableAt m s c → s ∈ pending → (c.state ≡ Armed)
      × ((x : ℕ) × (c.referent ≡ Some x) × ((kept ∋ x) ≡ false))
  cleanable_handed s c e p =
      let h = l.lost s p in
      let same : h.0 ≡ Cleanable c = some_same h.0 (Cleanable c) (sym h.3 ∙ e) in
      (armed_is c.state (sym (ap is_ready same) ∙ h.4), (h.1, sym (ap any_referent same) ∙ h.5, h.6))

  -- a cleanable whose referent is kept is not handed over
  own_unhanded : (s t : ℕ) (c : CleanableOf) → IsCleanableAt m s c → c.referent ≡ Some t → t ∈ kept → (pending ∋ s) ≡ false
  own_unhanded s t c e f k = elim (cases_Bool (pending ∋ s)) [
    | inl p ↦
        let h = cleanable_handed s c e p in
        absurd (both_ways (kept ∋ t) (subst (λ x. (kept ∋ x) ≡ false) (same_some h.1.0 t (sym h.1.1 ∙ f)) h.1.2) k)
    | inr q ↦ q
  ]

  -- the state of a cleanable that is left
  armed_before : (b : Bool) (st : CleanState) → cond b PendingClean st ≡ Armed → (b ≡ false) × (st ≡ Armed)
  armed_before true st e = absurd (cc e)
  armed_before false st e = (refl, e)

  unspent_before : (s : ℕ) (c : CleanableOf) → IsCleanableAt m s c → cond (pending ∋ s) PendingClean c.state ≢ Spent → c.state ≢ Spent
  unspent_before s c e d f = elim (cases_Bool (pending ∋ s)) [
    | inl p ↦ let a : Armed ≡ Spent = sym (cleanable_handed s c e p).0 ∙ f in absurd (cc a)
    | inr q ↦ d (cond-false (pending ∋ s) PendingClean c.state q ∙ f)
  ]

  unspent_after : (b : Bool) (st : CleanState) → st ≢ Spent → cond b PendingClean st ≢ Spent
  unspent_after true st d e = cc e
  unspent_after false st d e = d e

  abbrev OldUnspent : ℕ → CleanableOf → Type 0
  OldUnspent s c = (x : CleanableOf) × IsUnspent m s x × (c ≡ left_cleanable kept (pending ∋ s) x)

  unspent_back : (s : ℕ) (c : CleanableOf) → IsUnspent n s c → OldUnspent s c
  unspent_back s c u =
      let x = cleanable_back s c u.there in
      (x.0, record { there = x.2; unspent = unspent_before s x.0 x.2 (λ e. u.unspent (ap (λ c. c.state) x.3 ∙ e)) }, x.3)

  unspent_kept : (s : ℕ) (c : CleanableOf) → IsUnspent m s c → s ∈ kept
  unspent_kept s c u =
      elim (c.state) as (λ st. c.state ≡ st → s ∈ kept) [
        | Armed ↦ λ e. root_kept s (active (ap is_own_root u.there ∙ ap is_active e))
        | PendingClean ↦ λ e. root_kept s (active (ap is_own_root u.there ∙ ap is_active e))
        | Lined ↦ λ e. root_kept s (lining (w.lists.lined s (ap clean_state_in u.there ∙ ap (λ st. Some st) e)))
        | Spent ↦ λ e. absurd (u.unspent e)
      ] refl

  unspent_forth : (s : ℕ) (c : CleanableOf) → IsUnspent m s c → IsUnspent n s (left_cleanable kept (pending ∋ s) c)
  unspent_forth s c u =
      record { there = forth s (Cleanable c) (unspent_kept s c u) u.there; unspent = unspent_after (pending ∋ s) c.state u.unspent }

  -- ---- States

  quiet : (s : ℕ) → s ∈ kept → (pending ∋ s) ≡ false → (state_at n s ≡ state_at m s) × (clean_state_at n s ≡ clean_state_at m s)
  quiet s k q =
      let e : at heap s ≡ option_map (left_of kept false) (at m.objects s) = at_kept s k
      ∙ ap (λ b. option_map (left_of kept b) (at m.objects s)) q in
      (ap state_in e ∙ quiet_state kept (at m.objects s), ap clean_state_in e ∙ quiet_clean_state kept (at m.objects s))

  -- an object of a slot where there is one
  object_of : (s : ℕ) → IsObjectAt m s → (o : Object) × (at m.objects s ≡ Some o)
  object_of s h =
      elim (at m.objects s) as (λ o. at m.objects s ≡ o → is_some o ≡ true → (o : Object) × (at m.objects s ≡ Some o)) [
        | None ↦ λ e h. absurd (both_ways false refl h)
        | Some o ↦ λ e h. (o, e)
      ] refl h

  old_pending_quiet : (s : ℕ) → s ∈ m.pending → (s ∈ kept) × ((pending ∋ s) ≡ false)
  old_pending_quiet s h =
      let o = object_of s (w.slots.roots s (root_from m s (waiting h))) in (
        root_kept s (waiting h),
        unready s o.0 o.1 (pending_unready o.0
            (subst (λ o. IsPendingKind (state_in o) (clean_state_in o)) o.1 (w.lists.pending_others s h))),
      )

  old_line_quiet : (s : ℕ) → s ∈ m.line → (s ∈ kept) × ((pending ∋ s) ≡ false)
  old_line_quiet s h =
      let o = object_of s (w.slots.roots s (root_from m s (lining h))) in (
        root_kept s (lining h),
        unready s o.0 o.1 (lined_unready o.0
            (subst (λ o. (clean_state_in o ≡ Some Lined) ⊎ (clean_state_in o ≡ Some Spent)) o.1 (w.lists.line_others s h))),
      )

  pending_kind : (s : ℕ) → s ∈ (m.pending ++ pending) → IsPendingKind (state_at n s) (clean_state_at n s)
  pending_kind s h = elim (in_append s m.pending pending h) [
    | inl old ↦
        let q = old_pending_quiet s old in
        let same = quiet s q.0 q.1 in
        subst (λ a. IsPendingKind a (clean_state_at n s)) (sym same.0)
        (subst (λ b. IsPendingKind (state_at m s) b) (sym same.1) (w.lists.pending_others s old))
    | inr new ↦
        let r = l.lost s new in
        let e : at heap s ≡ Some (left_of kept true r.0) = forth s r.0 r.2 r.3 ∙ ap (λ b. Some (left_of kept b r.0)) new in
        subst (λ o. IsPendingKind (state_in o) (clean_state_in o)) (sym e) (handed_kind kept r.0 r.4)
  ]

  clean_state_there : (s : ℕ) (st : CleanState) → clean_state_at n s ≡ Some st → (c : CleanableOf) × IsCleanableAt n s c × (c.state ≡ st)
  clean_state_there s st e =
      elim (option_and_then as_cleanable (at heap s)) as (λ o. option_and_then as_cleanable (at heap s) ≡ o
      → option_and_then (λ c. Some c.state) o ≡ Some st → (c : CleanableOf) × IsCleanableAt n s c × (c.state ≡ st)) [
        | None ↦ λ f e. no_some st e
        | Some c ↦ λ f e. (c, is_cleanable_there (at heap s) c f, some_same c.state st e)
      ] refl e

  pending_references : (s : ℕ) → state_at n s ≡ Some Pending → s ∈ (m.pending ++ pending)
  pending_references s e =
      let r = state_there (option_and_then as_reference (at heap s)) Pending e in
      let x = reference_back s r.0 (is_reference_there (at heap s) r.0 r.1) in
      elim (cases_Bool (pending ∋ s)) [
        | inl p ↦ in_right s m.pending pending p
        | inr q ↦ in_left s m.pending pending (w.lists.pending_references s
            (ap state_in x.2 ∙ ap (λ st. Some st) (sym (cond-false (pending ∋ s) Pending x.0.state q) ∙ sym (ap (λ r. r.state) x.3) ∙ r.2)))
      ]

  pending_cleanables : (s : ℕ) → clean_state_at n s ≡ Some PendingClean → s ∈ (m.pending ++ pending)
  pending_cleanables s e =
      let r = clean_state_there s PendingClean e in
      let x = cleanable_back s r.0 r.1 in
      elim (cases_Bool (pending ∋ s)) [
        | inl p ↦ in_right s m.pending pending p
        | inr q ↦ in_left s m.pending pending (w.lists.pending_cleanables s
            (ap clean_state_in x.2 ∙ ap (λ st. Some st) (sym (cond-false (pending ∋ s) PendingClean x.0.state q)
            ∙ sym (ap (λ r. r.state) x.3) ∙ r.2)))
      ]

  lined_before : (b : Bool) (st : CleanState) → cond b PendingClean st ≡ Lined → st ≡ Lined
  lined_before true st e = absurd (cc e)
  lined_before false st e = e

  lined_in : (s : ℕ) → clean_state_at n s ≡ Some Lined → s ∈ m.line
  lined_in s e =
      let r = clean_state_there s Lined e in
      let x = cleanable_back s r.0 r.1 in
      w.lists.lined s (ap clean_state_in x.2 ∙ ap (λ st. Some st)
      (lined_before (pending ∋ s) x.0.state (sym (ap (λ r. r.state) x.3) ∙ r.2)))

  line_kind : (s : ℕ) → s ∈ m.line → (clean_state_at n s ≡ Some Lined) ⊎ (clean_state_at n s ≡ Some Spent)
  line_kind s h =
      let q = old_line_quiet s h in
      let same = (quiet s q.0 q.1).1 in
      elim (w.lists.line_others s h) [ inl e ↦ inl (same ∙ e) | inr e ↦ inr (same ∙ e) ]

  -- ---- Slots

  was_ready : (s : ℕ) (o : Object) → at m.objects s ≡ Some o → s ∈ pending → is_ready o ≡ true
  was_ready s o e p = let r = l.lost s p in subst (λ z. is_ready z ≡ true) (some_same r.0 o (sym r.3 ∙ e)) r.4

  edges_stay : (s x : ℕ) → x ∈ edges_from UpToPhantom heap s → IsObjectAt n x
  edges_stay s x h = elim (edge_gives UpToPhantom heap s x h) [
    | inl e ↦
        let b = back s e.0 e.1 in
        let old : x ∈ strong_edges b.0 =
        subst (λ l. x ∈ l) (ap strong_edges b.3 ∙ strong_same kept (pending ∋ s) b.0 (λ p. was_ready s b.0 b.2 p)) e.2 in
        object_forth x (l.strong s x b.0 b.1 b.2 old) (w.slots.edges s x (edge_from UpToPhantom m.objects s x (inl (b.0, b.2, old))))
    | inr e ↦
        let b = back s e.2.0 e.2.1 in
        let any : referent_if_kept kept (any_referent b.0) ≡ Some x = sym (referent_left kept (pending ∋ s) b.0) ∙ sym (ap any_referent b.3)
        ∙ referent_is e.0 e.2.0 x e.2.2 in
        let r = kept_referent kept (any_referent b.0) x any in
        let k = some_kind b.0 x r.0 in
        object_forth x r.1 (w.slots.edges s x (edge_from UpToPhantom m.objects s x (inr (k.0, refl, (b.0, b.2, k.1)))))
  ]

  old_root : (s : ℕ) → IsRoot m s → IsObjectAt n s
  old_root s r = object_forth s (root_kept s r) (w.slots.roots s (root_from m s r))

  roots_stay : (s : ℕ) → IsRoot n s → IsObjectAt n s
  roots_stay s (held k h session e g) = old_root s (held k h session e g)
  roots_stay s (fencing k session e g) = old_root s (fencing k session e g)
  roots_stay s (named h) = old_root s (named h)
  roots_stay s (waiting h) = elim (in_append s m.pending pending h) [
    | inl old ↦ old_root s (waiting old)
    | inr new ↦ let r = l.lost s new in ap is_some (forth s r.0 r.2 r.3)
  ]
  roots_stay s (lining h) = old_root s (lining h)
  roots_stay s (active h) = holds_somewhere (at heap s) h

  queues_fit : (s q : ℕ) (r : ReferenceOf) → IsReferenceAt n s r → r.queue ≡ Some q → (members : List ℕ) × IsQueueAt n q members
  queues_fit s q r e f =
      let x = reference_back s r e in
      let g : x.0.queue ≡ Some q = sym (ap (λ r. r.queue) x.3) ∙ f in
      let members = w.slots.queues s q x.0 x.2 g in (
        members.0,
        forth q (Queue members.0) (l.strong s q (Reference x.0) x.1 x.2
            (option_in q (queue_ahead x.0) (still_ahead x.0 x.0.state q (w.references.states s x.0 x.2) g))) members.1,
      )

  cleanable_kept : (s : ℕ) (g : GuardOf) → s ∈ kept → IsGuardAt m s g → g.cleanable ∈ kept
  cleanable_kept s g k e = l.strong s g.cleanable (Guard g) k e (in_front g.cleanable g.cleanable [] refl)

  guarded_stay : (s : ℕ) (g : GuardOf) → IsGuardAt n s g → (c : CleanableOf) × IsCleanableAt n g.cleanable c
  guarded_stay s g e =
      let b = guard_back s g e in
      let c = w.slots.guarded s g b.1 in
      (left_cleanable kept (pending ∋ g.cleanable) c.0, forth g.cleanable (Cleanable c.0) (cleanable_kept s g b.0 b.1) c.1)

  -- ---- References

  states_fit : (s : ℕ) (r : ReferenceOf) → IsReferenceAt n s r → FitsItsState r r.state
  states_fit s r e =
      let x = reference_back s r e in
      subst (λ r. FitsItsState r r.state) (sym x.3)
      (elim (pending ∋ s) as (λ b. (pending ∋ s) ≡ b → FitsItsState (left_reference kept b x.0) (cond b Pending x.0.state)) [
        | true ↦ λ p. reference_handed s x.0 x.2 p
        | false ↦ λ q. fits_left kept false x.0 x.0.state (w.references.states s x.0 x.2)
      ] refl)

  members_fit : (q s : ℕ) (xs : List ℕ) → IsQueueAt n q xs → s ∈ xs → (r : ReferenceOf) × IsReferenceAt n s r × (r.state ≡ Queued)
  members_fit q s xs e h =
      let b = queue_back q xs e in
      let r = w.references.members q s xs b.1 h in
      let d : (pending ∋ s) ≡ false = unready s (Reference r.0) r.1 (ap (λ st. is_fresh st && is_some r.0.queue) r.2) in (
        left_reference kept (pending ∋ s) r.0,
        forth s (Reference r.0) (l.strong q s (Queue xs) b.0 b.1 h) r.1,
        cond-false (pending ∋ s) Pending r.0.state d ∙ r.2,
      )

  -- ---- Actions

  unspent_same : (s : ℕ) → is_unspent_place (at heap s) ≡ is_unspent_place (at m.objects s)
  unspent_same s = elim (cases_Bool (kept ∋ s)) [
    | inl k ↦ elim (cases_Bool (pending ∋ s)) [
      | inl p ↦
          let r = l.lost s p in
          ap is_unspent_place (forth s r.0 k r.3 ∙ ap (λ b. Some (left_of kept b r.0)) p) ∙ unspent_same_true kept r.0 r.4
          ∙ sym (ap is_unspent_place r.3)
      | inr q ↦ ap is_unspent_place (at_kept s k ∙ ap (λ b. option_map (left_of kept b) (at m.objects s)) q)
          ∙ unspent_same_false kept (at m.objects s)
    ]
    | inr d ↦
        ap is_unspent_place (at_new s ∙ cond-false (kept ∋ s) (option_map (left_of kept (pending ∋ s)) (at m.objects s)) None d)
        ∙ sym (elim (cases_Bool (is_unspent_place (at m.objects s))) [
          | inl u ↦
              let c = unspent_is (at m.objects s) u in
              absurd (both_ways (kept ∋ s) d (unspent_kept s c.0
              (record { there = c.1; unspent = λ e. both_ways (is_spent c.0.state) c.2 (ap is_spent e) })))
          | inr n ↦ n
        ])
  ]

  same_action : (s : ℕ) (c : CleanableOf) (o : OldUnspent s c) → c.action ≡ o.0.action
  same_action s c o = ap (λ c. c.action) o.2

  same_work : (s : ℕ) (c : CleanableOf) (o : OldUnspent s c) → c.work ≡ o.0.work
  same_work s c o = ap (λ c. c.work) o.2

  referents_gone : (s : ℕ) (c : CleanableOf) → IsCleanableAt n s c → c.state ≢ Armed → c.referent ≡ None
  referents_gone s c e d =
      let x = cleanable_back s c e in
      ap (λ c. c.referent) x.3
      ∙ elim (cases_Bool (pending ∋ s)) [
        | inl p ↦ let h = cleanable_handed s x.0 x.2 p in loses_referent_out kept x.0.referent h.1.0 h.1.1 h.1.2
        | inr q ↦ ap (referent_if_kept kept) (w.actions.referents s x.0 x.2
            (λ a. d (ap (λ c. c.state) x.3 ∙ cond-false (pending ∋ s) PendingClean x.0.state q ∙ a)))
      ]

  -- ---- Resources

  worked : (rid action : ℕ) (state : ResourceState) → HasWorker m rid action state → HasWorker n rid action state
  worked rid action Closing h = h
  worked rid action Opening h = (h.0, left_cleanable kept (pending ∋ h.0) h.1, unspent_forth h.0 h.1 h.2, h.3, h.4)
  worked rid action Idle h = (h.0, left_cleanable kept (pending ∋ h.0) h.1, unspent_forth h.0 h.1 h.2, h.3, h.4)
  worked rid action Out h = (h.0, left_cleanable kept (pending ∋ h.0) h.1, unspent_forth h.0 h.1 h.2, h.3, h.4)

  -- a cleanable whose resource is in a call keeps its guard, which the call fences
  fenced_unhanded : (s rid : ℕ) (c : CleanableOf) (session : Session) (k : ℕ) (state : ResourceState) → IsUnspent m s c
      → HasResource m rid c.action state → IsSessionAt m k session → IsFencing m session rid state → (pending ∋ s) ≡ false
  fenced_unhanded s rid c session k state u h e f =
      let same : f.2.action ≡ c.action = ap (λ (r : Resource). r.action)
      (some_same (record { rid = rid; action = f.2.action; state = state }) (record { rid = rid; action = c.action; state = state })
      (sym f.8 ∙ h)) in
      let v : IsUnspent m f.1.cleanable f.2 = record { there = f.6; unspent = λ z. let a : Armed ≡ Spent = sym f.7 ∙ z in cc a } in
      let place : f.1.cleanable ≡ s = w.actions.cleanables f.1.cleanable s f.2 c v u same in
      subst (λ s. (pending ∋ s) ≡ false) place
      (elim (w.resources.guards f.0 f.1 f.2 f.4 f.6) [
        | inl z ↦ let a : Armed ≡ Spent = sym f.7 ∙ z in absurd (cc a)
        | inr own ↦ own_unhanded f.1.cleanable f.0 f.2 f.6 own.referent (root_kept f.0 (fencing k session e f.3))
      ])

  fencing_of : (k : ℕ) (session : Session) (call : Call) → IsSessionAt m k session → session.call ≡ call → FitsItsCall m k session call
  fencing_of k session call e f = subst (FitsItsCall m k session) f (w.calls.calls k session e)

  idle_when_handed : (s rid : ℕ) (c : CleanableOf) → IsUnspent m s c → c.work ≡ WorkOn rid → s ∈ pending → HasResource m rid c.action Idle
  idle_when_handed s rid c u f p =
      let r = w.resources.of_cleanables s rid c u f in
      elim (r.0) as (λ st. HasResource m rid c.action st → st ≢ Closing → HasResource m rid c.action Idle) [
        | Idle ↦ λ h d. h
        | Closing ↦ λ h d. absurd (d refl)
        | Opening ↦ λ h d.
            let k = w.calls.opening rid c.action h in
            absurd (both_ways (pending ∋ s) (fenced_unhanded s rid c k.1.0 k.0 Opening u h k.1.1
            (fencing_of k.0 k.1.0 (CallOpening rid) k.1.1 k.1.2)) p)
        | Out ↦ λ h d.
            let k = w.calls.out rid c.action h in
            absurd (both_ways (pending ∋ s) (fenced_unhanded s rid c k.1.0 k.0 Out u h k.1.1
            (fencing_of k.0 k.1.0 (CallOut rid) k.1.1 k.1.2)) p)
      ] r.1 r.2

  resource_of : (s rid : ℕ) (c : CleanableOf) → IsUnspent n s c → c.work ≡ WorkOn rid → (state : ResourceState)
      × HasResource n rid c.action state × (state ≢ Closing)
  resource_of s rid c u f =
      let x = unspent_back s c u in
      let r = w.resources.of_cleanables s rid x.0 x.1 (sym (same_work s c x) ∙ f) in
      (r.0, subst (λ a. HasResource m rid a r.0) (sym (same_action s c x)) r.1, r.2)

  idle_now : (s rid : ℕ) (c : CleanableOf) → IsUnspent n s c → c.work ≡ WorkOn rid → c.state ≢ Armed → HasResource n rid c.action Idle
  idle_now s rid c u f d =
      let x = unspent_back s c u in
      let g : x.0.work ≡ WorkOn rid = sym (same_work s c x) ∙ f in
      subst (λ a. HasResource m rid a Idle) (sym (same_action s c x))
      (elim (cases_Bool (pending ∋ s)) [
        | inl p ↦ idle_when_handed s rid x.0 x.1 g p
        | inr q ↦ w.resources.idle s rid x.0 x.1 g (λ a. d (ap (λ c. c.state) x.2 ∙ cond-false (pending ∋ s) PendingClean x.0.state q ∙ a))
      ])

  guards_fit : (s : ℕ) (g : GuardOf) (c : CleanableOf) → IsGuardAt n s g → IsCleanableAt n g.cleanable c → (c.state ≡ Spent)
      ⊎ IsOwnGuard n s g c
  guards_fit s g c e f =
      let a = guard_back s g e in
      let x = cleanable_back g.cleanable c f in
      elim (w.resources.guards s g x.0 a.1 x.2) [
        | inl spent ↦
            let q = unready g.cleanable (Cleanable x.0) x.2 (ap is_armed spent) in
            inl (ap (λ c. c.state) x.3 ∙ cond-false (pending ∋ g.cleanable) PendingClean x.0.state q ∙ spent)
        | inr own ↦
            let q = own_unhanded g.cleanable s x.0 x.2 own.referent a.0 in
            inr (record {
              armed = ap (λ c. c.state) x.3 ∙ cond-false (pending ∋ g.cleanable) PendingClean x.0.state q ∙ own.armed;
              referent = ap (λ c. c.referent) x.3 ∙ keeps_referent_in kept x.0.referent s own.referent a.0;
              work = ap (λ c. c.work) x.3 ∙ own.work;
            })
      ]

  guarded_now : (s rid : ℕ) (c : CleanableOf) → IsCleanableAt n s c → c.state ≡ Armed → c.work ≡ WorkOn rid → (t : ℕ) × (g : GuardOf)
      × IsGuardAt n t g × (g.cleanable ≡ s)
  guarded_now s rid c e armed f =
      let x = cleanable_back s c e in
      let b = armed_before (pending ∋ s) x.0.state (sym (ap (λ c. c.state) x.3) ∙ armed) in
      let t = w.resources.guarded s rid x.0 x.2 b.1 (sym (ap (λ c. c.work) x.3) ∙ f) in
      let there : IsCleanableAt m t.1.cleanable x.0 = ap (at m.objects) t.3 ∙ x.2 in
      let in_kept : t.0 ∈ kept = elim (w.resources.guards t.0 t.1 x.0 t.2 there) [
        | inl spent ↦ let a : Armed ≡ Spent = sym b.1 ∙ spent in absurd (cc a)
        | inr own ↦ elim (cases_Bool (kept ∋ t.0)) [
          | inl k ↦ k
          | inr d ↦ absurd (both_ways (pending ∋ s) b.0 (l.pended s t.0 (Cleanable x.0) x.1 x.2 (ap is_armed b.1) own.referent d))
        ]
      ] in
      (t.0, t.1, forth t.0 (Guard t.1) in_kept t.2, t.3)

  -- ---- Calls

  fencing_now : (k : ℕ) (session : Session) (rid : ℕ) (state : ResourceState) → IsSessionAt m k session → IsFencing m session rid state
      → IsFencing n session rid state
  fencing_now k session rid state e f =
      let k = root_kept f.0 (fencing k session e f.3) in
      let q : (pending ∋ f.1.cleanable) ≡ false = elim (w.resources.guards f.0 f.1 f.2 f.4 f.6) [
        | inl z ↦ let a : Armed ≡ Spent = sym f.7 ∙ z in absurd (cc a)
        | inr own ↦ own_unhanded f.1.cleanable f.0 f.2 f.6 own.referent k
      ] in (
        f.0,
        f.1,
        left_cleanable kept (pending ∋ f.1.cleanable) f.2,
        f.3,
        forth f.0 (Guard f.1) k f.4,
        f.5,
        forth f.1.cleanable (Cleanable f.2) (cleanable_kept f.0 f.1 k f.4) f.6,
        cond-false (pending ∋ f.1.cleanable) PendingClean f.2.state q ∙ f.7,
        f.8,
      )

  fits_call : (k : ℕ) (session : Session) (call : Call) → IsSessionAt m k session → FitsItsCall m k session call
      → FitsItsCall n k session call
  fits_call k session Free e h = h
  fits_call k session (CallOpening rid) e h = fencing_now k session rid Opening e h
  fits_call k session (CallOut rid) e h = fencing_now k session rid Out e h
  fits_call k session (CallJob action) e h = h

  -- ---- Privacy

  private_before : (s : ℕ) → IsPrivate n s → IsPrivate m s
  private_before s (inl p) = let x = cleanable_back s p.0 p.2 in inl (x.0, p.1, x.2, sym (ap (λ c. c.work) x.3) ∙ p.3)
  private_before s (inr p) =
      let g = guard_back s p.0 p.2 in
      let x = cleanable_back p.0.cleanable p.1 p.3 in
      inr (
        p.0,
        x.0,
        g.1,
        x.2,
        (armed_before (pending ∋ p.0.cleanable) x.0.state (sym (ap (λ c. c.state) x.3) ∙ p.4)).1,
        subst (λ a. HasResource m p.0.rid a Opening) (ap (λ c. c.action) x.3) p.5,
      )

  -- ---- All together

  pub collection_kept : IsWellFormed n
  collection_kept =
      record {
        slots = record { edges = edges_stay; roots = λ s h. roots_stay s (root_gives n s h); queues = queues_fit; guarded = guarded_stay };
        references = record {
          states = states_fit;
          members = members_fit;
          once = λ q xs e. w.references.once q xs (queue_back q xs e).1;
          in_one = λ p q s xs ys e f. w.references.in_one p q s xs ys (queue_back p xs e).1 (queue_back q ys f).1;
        };
        lists = record {
          pending_once =
              distinct_append m.pending pending w.lists.pending_once l.once (λ s a b. both_ways (pending ∋ s) (old_pending_quiet s a).1 b);
          line_once = w.lists.line_once;
          pending_references = pending_references;
          pending_cleanables = pending_cleanables;
          pending_others = pending_kind;
          lined = lined_in;
          line_others = line_kind;
        };
        sessions = record {
          places =
              w.sessions.places;
          opening = w.sessions.opening;
          names = w.sessions.names;
          names_limit = w.sessions.names_limit;
        };
        actions = record {
          cleanables = λ s t c d u v e.
              let x = unspent_back s c u in
              let y = unspent_back t d v in
              w.actions.cleanables s t x.0 y.0 x.1 y.1 (sym (same_action s c x) ∙ e ∙ same_action t d y);
          apart = λ s c u. let x = unspent_back s c u in
              subst (λ a. job_of m a ≡ None) (sym (same_action s c x)) (w.actions.apart s x.0 x.1);
          jobs = w.actions.jobs;
          of_cleanables = λ s c e. let x = cleanable_back s c e in
              subst (IsAction m) (sym (ap (λ c. c.action) x.3)) (w.actions.of_cleanables s x.0 x.2);
          of_jobs = w.actions.of_jobs;
          of_resources = w.actions.of_resources;
          of_faults = w.actions.of_faults;
          referents = referents_gone;
          cleaners = w.actions.cleaners;
          taken = w.actions.taken;
          room = omega
              (arith, w.actions.room, count_pointwise is_unspent_place heap m.objects (length_left kept pending 0 m.objects) unspent_same);
        };
        resources = record {
          rising = w.resources.rising;
          worked = λ rid action state h. worked rid action state (w.resources.worked rid action state h);
          of_cleanables = resource_of;
          idle = idle_now;
          of_jobs = w.resources.of_jobs;
          one_guard = λ s t g h e f. w.resources.one_guard s t g h (guard_back s g e).1 (guard_back t h f).1;
          guards = guards_fit;
          guarded = guarded_now;
        };
        calls = record {
          calls = λ k session e. fits_call k session session.call e (w.calls.calls k session e);
          opening = w.calls.opening;
          out = w.calls.out;
          one_call = w.calls.one_call;
          jobs = w.calls.jobs;
        };
        unnamed = record {
          handles = λ k h s session e g p. w.unnamed.handles k h s session e g (private_before s p);
          names = λ s h p. w.unnamed.names s h (private_before s p);
          fields = λ t s fields e h p. w.unnamed.fields t s fields (plain_back t fields e).1 h (private_before s p);
          references = λ t s r e f p.
              let x = reference_back t r e in
              w.unnamed.references t s x.0 x.2 (kept_referent kept x.0.referent s (sym (ap (λ r. r.referent) x.3) ∙ f)).0
              (private_before s p);
        };
        limits = limits_stay m n w.limits (length_left kept pending 0 m.objects) refl;
        faults = w.faults;
        notes = w.notes;
        seen_rising = refl;
        seen_within = λ s h. nothing s h;
        seen_in_cycle = λ _. refl;
      }

  -- ---- What handles name

  left_kind : (b : Bool) (fits : Object → Bool) → ((o : Object) → fits (left_of kept b o) ≡ fits o) → (o : Option Object)
      → some_and (λ o. not (fits o)) (option_map (left_of kept b) o) ≡ some_and (λ o. not (fits o)) o
  left_kind b fits h None = refl
  left_kind b fits h (Some o) = ap not (h o)

  -- a handle names an object of the same kind
  pub wrong_kind_kept : (k : ℕ) (x : Operand) → ((b : Bool) (o : Object) → x.fits (left_of kept b o) ≡ x.fits o)
      → is_of_wrong_kind n k x ≡ is_of_wrong_kind m k x
  wrong_kind_kept k x h =
      elim (slot_named m k x.handle) as (λ t. slot_named m k x.handle ≡ t
      → some_and (λ o. not (x.fits o)) (option_and_then (at heap) t)
      ≡ some_and (λ o. not (x.fits o)) (option_and_then (at m.objects) t)) [
        | None ↦ λ e. refl
        | Some t ↦ λ e.
            let r = and_then_gives (λ z. at z.handles x.handle) (at m.mutators k) t e in
            ap (some_and (λ o. not (x.fits o))) (at_kept t (root_kept t (held k x.handle r.0 r.1 r.2)))
            ∙ left_kind (pending ∋ t) x.fits (h (pending ∋ t)) (at m.objects t)
      ] refl
