-- What the asks on fields, handles, references and queues leave at each slot.
use Rattle.std.proofs.Common.{◌≡◌, ℕ, true, false, List, [], ◌∷◌, ◌++◌, drop, refl, sym, ◌∙◌, ap, subst, ◌⊎◌, inl, inr, Option, Some, None}
use Rattle.std.proofs.Common.{option_map, option_and_then}
use Rattle.std.proofs.lemmas.Bool.{cases_eq, cases_Bool, both_ways, cond-false}
use Rattle.jlr_types.specs.declared.FieldValue.{FieldValue}
use Rattle.jlr_machine.specs.declared.object.Object.{Object}
use Rattle.jlr_machine.specs.declared.object.Object.TheVariants.{Plain, Reference, Queue, Cleaner, Cleanable, Guard}
use Rattle.jlr_machine.specs.declared.object.Reference.{Reference as ReferenceOf}
use Rattle.jlr_machine.specs.declared.object.RefState.{RefState}
use Rattle.jlr_machine.specs.declared.object.RefState.TheVariants.{Fresh, Pending, Queued, Removed}
use Rattle.jlr_machine.specs.declared.machine.Machine.{Machine}
use Rattle.jlr_machine.specs.Objects.{at, ◌∈◌, as_reference, as_members, with_field, with_reference, with_members, is_unqueued, queue_ahead}
use Rattle.jlr_machine.specs.Lookups.{slot_named, members_named, with_object, with_handle, on}
use Rattle.jlr_machine.specs.Refusals.{front}
use Rattle.jlr_machine.specs.Calls.{with_given, field_set, unreferred, to_queue, enqueued, polled, poll_given}
use Rattle.jlr_machine.specs.WellFormed.{IsReferenceAt, IsQueueAt, IsWellFormed}
use Rattle.jlr_laws.proofs.Sets.{in_front}
use Rattle.jlr_laws.proofs.Frames.{no_some, some_same, set_other, is_queue_there}
use Rattle.jlr_histories.specs.Lives.{may_become}
use Rattle.jlr_histories.proofs.Becomes.{IsKept, Becomes, same_size, same_reference, same_cleanable, with_field_on, with_reference_on}
use Rattle.jlr_histories.proofs.Changes.{IsOver, IsQuiet, quiet, quiet_on, quiet_over, over_quiet, over_on, changed_is, changed_over}
use Rattle.jlr_histories.proofs.Changes.{changed, members_over, changed_twice}

-- ---- Fields and handles

pub given_quiet : (m : Machine) (k : ℕ) (o : Option ℕ) → IsQuiet m (with_given m k o)
given_quiet m k o = quiet_on m o (with_handle m k) (λ s. record { objects = refl; next = refl; taken = refl })

pub field_over : (P : ℕ → Type 0) (m : Machine) (k h f : ℕ) (v : FieldValue) → IsOver P m (field_set m k h f v)
field_over P m k h f v = over_on P m (slot_named m k h) (λ s. with_object m s (with_field f v))
    (λ s e. changed P m s (with_field f v) (λ x g. with_field_on (P s) f v x))

-- ---- References

unreferred_on : (P : Type 0) (r : ReferenceOf) → (r.referent ≡ None) ⊎ P → IsKept P r (unreferred r)
unreferred_on P r h =
    let same = same_reference P r in
    record {
      on = record { kind = refl; referent = inr refl; queue = inl refl; state = same.on.state };
      referent =
          elim h [ inl e ↦ inl (sym e) | inr p ↦ inr p ];
    }

pub cleared_over : (P : ℕ → Type 0) (m : Machine) (k h : ℕ) → ((s : ℕ) → slot_named m k h ≡ Some s → P s)
    → IsOver P m (on (slot_named m k h) (λ s. with_object m s (with_reference unreferred)) m)
cleared_over P m k h p =
    over_on P m (slot_named m k h) (λ s. with_object m s (with_reference unreferred))
    (λ s e. changed P m s (with_reference unreferred)
    (λ x g. with_reference_on (P s) unreferred x (λ r f. unreferred_on (P s) r (inr (p s e)))))

abbrev queued : ReferenceOf → ReferenceOf
queued r = record r { state = Queued; queue = None }

queued_state : (s : RefState) → is_unqueued s ≡ true → may_become s Queued ≡ true
queued_state Fresh h = refl
queued_state Pending h = refl
queued_state Queued h = refl
queued_state Removed h = absurd (both_ways false refl h)

ahead_unqueued : (r : ReferenceOf) (q : ℕ) → queue_ahead r ≡ Some q → is_unqueued r.state ≡ true
ahead_unqueued r q e =
    elim (cases_Bool (is_unqueued r.state)) [ inl h ↦ h | inr h ↦ no_some q (sym (cond-false (is_unqueued r.state) r.queue None h) ∙ e) ]

enqueued_on : (P : Type 0) (q : ℕ) (o : Object) → option_and_then queue_ahead (as_reference o) ≡ Some q
    → ((r : ReferenceOf) → o ≡ Reference r → (r.referent ≡ None) ⊎ P) → Becomes P o (with_reference queued (with_reference unreferred o))
enqueued_on P q (Plain x) e h = same_size x
enqueued_on P q (Reference r) e h =
    record {
      on = record { kind = refl; referent = inr refl; queue = inr refl; state = queued_state r.state (ahead_unqueued r q e) };
      referent = elim (h r refl) [ inl f ↦ inl (sym f) | inr p ↦ inr p ];
    }
enqueued_on P q (Queue x) e h = tt
enqueued_on P q Cleaner e h = tt
enqueued_on P q (Cleanable c) e h = same_cleanable c
enqueued_on P q (Guard g) e h = tt

pub enqueued_over : (P : ℕ → Type 0) (m : Machine) (s : ℕ) → ((r : ReferenceOf) → IsReferenceAt m s r → (r.referent ≡ None) ⊎ P s)
    → IsOver P m (enqueued m s)
enqueued_over P m s h =
    elim (option_and_then queue_ahead (option_and_then as_reference (at m.objects s))) as (λ o. option_and_then queue_ahead
    (option_and_then as_reference (at m.objects s)) ≡ o → IsOver P m (to_queue (with_object m s (with_reference unreferred)) s o)) [
      | None ↦ λ e. changed P m s (with_reference unreferred)
          (λ x g. with_reference_on (P s) unreferred x (λ r f. unreferred_on (P s) r (h r (g ∙ ap (λ y. Some y) f))))
      | Some q ↦ λ e.
          members_over P m (with_object (with_object m s (with_reference unreferred)) s (with_reference queued)) q
          (λ members. members ++ s ∷ [])
          (changed_twice P m s (with_reference unreferred) (with_reference queued)
          (λ x g. enqueued_on (P s) q x (sym (ap (λ o. option_and_then queue_ahead (option_and_then as_reference o)) g) ∙ e)
          (λ r f. h r (g ∙ ap (λ y. Some y) f))))
    ] refl

-- ---- Polling

abbrev removed : ReferenceOf → ReferenceOf
removed r = record r { state = Removed }

removed_on : (P : Type 0) (r : ReferenceOf) → r.state ≡ Queued → IsKept P r (removed r)
removed_on P r e =
    record {
      on = record {
        kind = refl;
        referent = inl refl;
        queue = inl refl;
        state = subst (λ s. may_become s Removed ≡ true) (sym e) refl;
      };
      referent = inl refl;
    }

polled_over : (P : ℕ → Type 0) (m : Machine) (q s : ℕ) (r : ReferenceOf) → IsReferenceAt m s r → r.state ≡ Queued
    → IsOver P m (polled m q (Some s))
polled_over P m q s r e f =
    let between : Machine = with_object m q (with_members (drop 1)) in
    let same : at between.objects s ≡ at m.objects s = elim (cases_eq s q) [
      | inl p ↦ ap (at between.objects) p ∙ changed_is m.objects q (with_members (drop 1))
          ∙ ap (λ i. option_map (with_members (drop 1)) (at m.objects i)) (sym p) ∙ ap (option_map (with_members (drop 1))) e ∙ sym e
      | inr d ↦ set_other m.objects q s (option_map (with_members (drop 1)) (at m.objects q)) d
    ] in
    changed_over P m between s (with_reference removed) (members_over P m m q (drop 1) (quiet_over P m m (quiet m))) same
    (λ x g. with_reference_on (P s) removed x (λ t k.
    let both : Some (Reference t) ≡ Some (Reference r) = ap (λ y. Some y) (sym k) ∙ sym g ∙ e in
    let here : t ≡ r = cc both in
    removed_on (P s) t (ap (λ z. z.state) here ∙ f)))

front_in : (xs : List ℕ) (s : ℕ) → front xs ≡ Some s → s ∈ xs
front_in [] s e = no_some s e
front_in (x ∷ xs) s e = in_front s x xs (some_same s x (sym e))

module _ (P : ℕ → Type 0) (m : Machine) (k h : ℕ) (w : IsWellFormed m) where
  from_members : (q : ℕ) (members : Option (List ℕ)) → ((xs : List ℕ) → members ≡ Some xs → IsQueueAt m q xs)
      → IsOver P m (polled m q (option_and_then front members))
  from_members q None h = quiet_over P m m (quiet m)
  from_members q (Some xs) h =
      elim (front xs) as (λ o. front xs ≡ o → IsOver P m (polled m q o)) [
        | None ↦ λ e. quiet_over P m m (quiet m)
        | Some s ↦ λ e. let r = w.references.members q s xs (h xs refl) (front_in xs s e) in polled_over P m q s r.0 r.1 r.2
      ] refl

  from_queue : (q : ℕ) → slot_named m k h ≡ Some q → IsOver P m (polled m q (option_and_then front (members_named m k h)))
  from_queue q e = from_members q (members_named m k h)
      (λ xs f. is_queue_there (at m.objects q) xs (sym (ap (λ o. option_and_then as_members (option_and_then (at m.objects) o)) e) ∙ f))

  pub poll_over : IsOver P m (poll_given m k h (option_and_then front (members_named m k h)))
  poll_over =
      let o : Option ℕ = option_and_then front (members_named m k h) in
      over_on P m (slot_named m k h) (λ q. with_given (polled m q o) k o) (λ q e.
      let g = given_quiet (polled m q o) k o in
      over_quiet P m (polled m q o) (with_given (polled m q o) k o) (from_queue q e) g.objects g.next)
