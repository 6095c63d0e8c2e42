-- Enqueueing and polling, as the machine has them.
use Rattle.std.proofs.Common.{◌≡◌, ◌≢◌, ℕ, true, false, cond, List, [], ◌∷◌, ◌++◌, Option, Some, None, option_and_then, is_some, refl, sym}
use Rattle.std.proofs.Common.{subst, ap, ◌∙◌}
use Rattle.std.specs.Prelude.{slice_get, option_map}
use Rattle.std.proofs.lemmas.Bool.{both_ways}
use Rattle.jlr_machine.specs.declared.machine.Machine.{Machine}
use Rattle.jlr_machine.specs.declared.object.Object.{Object}
use Rattle.jlr_machine.specs.declared.object.Object.TheVariants.{Plain, Reference, Queue, Cleaner, Cleanable, Guard}
use Rattle.jlr_machine.specs.declared.object.Reference.{Reference as ReferenceOf}
use Rattle.jlr_machine.specs.declared.object.RefState.TheVariants.{Queued, Removed}
use Rattle.jlr_machine.specs.Objects.{◌∈◌, Heap, at, as_members, as_reference, change_at, queue_ahead, some_and, with_members}
use Rattle.jlr_machine.specs.Objects.{with_reference, is_unqueued}
use Rattle.jlr_machine.specs.Refusals.{is_queue, is_reference}
use Rattle.jlr_machine.specs.Calls.{enqueued, to_queue, unreferred}
use Rattle.jlr_cells.specs.Contents.{in_state, member_in, members_in, next_in, unregistered}
use Rattle.jlr_laws.proofs.Frames.{is_queue_there, is_reference_there, no_some, some_same}
use Rattle.jlr_laws.proofs.Sets.{in_front, nothing}
use Rattle.jlr_barrier.specs.Graphs.{Graph, in_machine, with_objects}
use Rattle.jlr_refs.specs.Parts.{IsPartOfMachine, reference_at}
use Rattle.jlr_refs.proofs.Changing.{apart, change_alike, change_apart, change_twice}

-- ---- What the state of a well-formed machine says

reference_there : (o : Option Object) → some_and is_reference o ≡ true → (r : ReferenceOf) × (option_and_then as_reference o ≡ Some r)
reference_there None h = absurd (both_ways false refl h)
reference_there (Some (Plain fields)) h = absurd (both_ways false refl h)
reference_there (Some (Reference r)) h = (r, refl)
reference_there (Some (Queue members)) h = absurd (both_ways false refl h)
reference_there (Some Cleaner) h = absurd (both_ways false refl h)
reference_there (Some (Cleanable c)) h = absurd (both_ways false refl h)
reference_there (Some (Guard g)) h = absurd (both_ways false refl h)

ahead_is_its_queue : (r : ReferenceOf) (q : ℕ) → queue_ahead r ≡ Some q → r.queue ≡ Some q
ahead_is_its_queue r q e =
    elim (is_unqueued r.state) as (λ b. cond b r.queue None ≡ Some q → r.queue ≡ Some q) [ true ↦ λ e. e | false ↦ λ e. no_some q e ] e

-- the queue that a reference may be added to is one
pub ahead_is_queue : (g : Graph) (s q : ℕ) → IsPartOfMachine g → some_and is_reference (at g.objects s) ≡ true
    → option_and_then queue_ahead (reference_at g.objects s) ≡ Some q → some_and is_queue (at g.objects q) ≡ true
ahead_is_queue g s q fit is_ref ahead =
    let r = reference_there (at g.objects s) is_ref in
    let own : queue_ahead r.0 ≡ Some q = sym (ap (option_and_then queue_ahead) r.1) ∙ ahead in
    let members = fit.1.slots.queues s q r.0 (is_reference_there (at g.objects s) r.0 r.1) (ahead_is_its_queue r.0 q own) in
    ap (some_and is_queue) members.1

front_listed : (members : List ℕ) (s : ℕ) → slice_get members 0 ≡ Some s → s ∈ members
front_listed [] s h = no_some s h
front_listed (x ∷ members) s h = in_front s x members (sym (some_same x s h))

-- a member of a queue is a reference
pub member_is_reference : (g : Graph) (q s : ℕ) → IsPartOfMachine g → some_and is_queue (at g.objects q) ≡ true
    → member_in (at g.objects q) 0 ≡ Some s → some_and is_reference (at g.objects s) ≡ true
member_is_reference g q s fit is_q first =
    elim (option_and_then as_members (at g.objects q)) as (λ o. option_and_then as_members (at g.objects q) ≡ o
    → option_and_then (λ members. slice_get members 0) o ≡ Some s → some_and is_reference (at g.objects s) ≡ true) [
      | None ↦ λ e h. no_some s h
      | Some members ↦ λ e h.
          let there = is_queue_there (at g.objects q) members e in
          let listed = fit.1.references.members q s members there (front_listed members s h) in
          ap (some_and is_reference) listed.1
    ] refl first

no_members : (o : Option Object) → option_and_then as_members o ≡ None → members_in o ≡ []
no_members None e = refl
no_members (Some (Plain fields)) e = refl
no_members (Some (Reference r)) e = refl
no_members (Some (Queue members)) e = no_some members (sym e)
no_members (Some Cleaner) e = refl
no_members (Some (Cleanable c)) e = refl
no_members (Some (Guard g)) e = refl

-- a reference that may be added to a queue is a member of none
pub in_no_queue : (g : Graph) (s q : ℕ) → IsPartOfMachine g → option_and_then queue_ahead (reference_at g.objects s) ≡ Some q → (x : ℕ)
    → s ∈ members_in (at g.objects x) → ⊥
in_no_queue g s q fit ahead x h =
    elim (option_and_then as_members (at g.objects x)) as (λ o. option_and_then as_members (at g.objects x) ≡ o → ⊥) [
      | None ↦ λ e. nothing s (subst (λ l. s ∈ l) (no_members (at g.objects x) e) h)
      | Some members ↦ λ e.
          let there = is_queue_there (at g.objects x) members e in
          let listed = fit.1.references.members x s members there (subst (λ o. s ∈ members_in o) there h) in
          let none = ap (λ o. option_and_then queue_ahead (option_and_then as_reference o)) listed.1
          ∙ ap (λ b. cond b listed.0.queue None) (ap is_unqueued listed.2) in
          no_some q (sym none ∙ ahead)
    ] refl

-- ---- What is ahead of a reference

pub ahead_in : (o : Option Object) → some_and is_reference o ≡ true
    → next_in o ≡ option_and_then queue_ahead (option_and_then as_reference o)
ahead_in None h = refl
ahead_in (Some (Plain fields)) h = refl
ahead_in (Some (Reference r)) h = refl
ahead_in (Some (Queue members)) h = refl
ahead_in (Some Cleaner) h = refl
ahead_in (Some (Cleanable c)) h = refl
ahead_in (Some (Guard g)) h = absurd (both_ways false refl h)

-- nothing is ahead of a member of a queue, in whichever state it comes after it
pub none_ahead_of_member : (g : Graph) (q s : ℕ) → IsPartOfMachine g → some_and is_queue (at g.objects q) ≡ true
    → member_in (at g.objects q) 0 ≡ Some s → next_in (option_map (with_reference (in_state Removed)) (at g.objects s)) ≡ next_in
    (at g.objects s)
none_ahead_of_member g q s fit is_q first =
    elim (option_and_then as_members (at g.objects q)) as (λ o. option_and_then as_members (at g.objects q) ≡ o
    → option_and_then (λ members. slice_get members 0) o ≡ Some s
    → next_in (option_map (with_reference (in_state Removed)) (at g.objects s)) ≡ next_in (at g.objects s)) [
      | None ↦ λ e h. no_some s h
      | Some members ↦ λ e h.
          let there = is_queue_there (at g.objects q) members e in
          let listed = fit.1.references.members q s members there (front_listed members s h) in
          subst (λ o. next_in (option_map (with_reference (in_state Removed)) o) ≡ next_in o) (sym listed.1)
          (ap (λ b. cond b listed.0.queue None) (ap is_unqueued (sym listed.2)))
    ] refl first

-- nothing is ahead of a reference that is registered with no queue, in one state or another
unregistered_alone : (r : ReferenceOf) → queue_ahead (in_state Queued (unregistered r)) ≡ queue_ahead (unregistered r)
unregistered_alone r = elim (is_unqueued r.state) as (λ b. ◌≡◌ {A = Option ℕ} None (cond b None None)) [ true ↦ refl | false ↦ refl ]

pub none_ahead_of_unregistered : (o : Option Object)
    → next_in (option_map (with_reference (in_state Queued)) (option_map (with_reference unregistered) o))
    ≡ next_in (option_map (with_reference unregistered) o)
none_ahead_of_unregistered None = refl
none_ahead_of_unregistered (Some (Plain fields)) = refl
none_ahead_of_unregistered (Some (Reference r)) = unregistered_alone r
none_ahead_of_unregistered (Some (Queue members)) = refl
none_ahead_of_unregistered (Some Cleaner) = refl
none_ahead_of_unregistered (Some (Cleanable c)) = refl
none_ahead_of_unregistered (Some (Guard g)) = refl

pub reference_is_object : (o : Option Object) → some_and is_reference o ≡ true → is_some o ≡ true
reference_is_object None h = h
reference_is_object (Some o) h = refl

pub queue_is_object : (o : Option Object) → some_and is_queue o ≡ true → is_some o ≡ true
queue_is_object None h = h
queue_is_object (Some o) h = refl

-- ---- Enqueueing

same_in_the_end : (o : Object) → with_reference unreferred (with_reference (in_state Queued) (with_reference unregistered o)) ≡
    with_reference (λ r. record r { state = Queued; queue = None }) (with_reference unreferred o)
same_in_the_end (Plain fields) = refl
same_in_the_end (Reference r) = refl
same_in_the_end (Queue members) = refl
same_in_the_end Cleaner = refl
same_in_the_end (Cleanable c) = refl
same_in_the_end (Guard g) = refl

pub enqueued_in_queue :
    (m : Machine) (g a b c d : Graph) (s q : ℕ) → some_and is_reference (at g.objects s) ≡ true → some_and is_queue (at g.objects q) ≡ true
    → option_and_then queue_ahead (reference_at g.objects s) ≡ Some q
    → a ≡ with_objects g (change_at g.objects q (with_members (λ members. members ++ s ∷ [])))
    → b ≡ with_objects a (change_at a.objects s (with_reference unregistered))
    → c ≡ with_objects b (change_at b.objects s (with_reference (in_state Queued)))
    → d ≡ with_objects c (change_at c.objects s (with_reference unreferred))
    → in_machine m d ≡ enqueued (in_machine m g) s
enqueued_in_queue m g a b c d s q is_ref is_q ahead ea eb ec ed =
    let push : Object → Object = with_members (λ members. members ++ s ∷ []) in
    let put : Heap → Machine = λ h. in_machine m (with_objects g h) in
    let ne : q ≢ s = λ e. apart g.objects s q is_ref is_q (sym e) in
    let all : Object → Object = λ o. with_reference unreferred (with_reference (in_state Queued) (with_reference unregistered o)) in
    let last : Object → Object = λ o. with_reference (λ r. record r { state = Queued; queue = None }) (with_reference unreferred o) in
    let H : Heap = change_at g.objects q push in
    ap (in_machine m) (ed ∙ ap (λ (k : Graph). with_objects k (change_at k.objects s (with_reference unreferred)))
    (ec ∙ ap (λ (k : Graph). with_objects k (change_at k.objects s (with_reference (in_state Queued))))
    (eb ∙ ap (λ (k : Graph). with_objects k (change_at k.objects s (with_reference unregistered))) ea)))
    ∙ ap (λ h. put (change_at h s (with_reference unreferred)))
    (change_twice H s (with_reference unregistered) (with_reference (in_state Queued)))
    ∙ ap put (change_twice H s (λ o. with_reference (in_state Queued) (with_reference unregistered o)) (with_reference unreferred))
    ∙ ap put (change_alike H s all last same_in_the_end)
    ∙ ap put (change_apart g.objects q s push last ne)
    ∙ ap (λ h. put (change_at h q push)) (sym (change_twice g.objects s (with_reference unreferred)
    (with_reference (λ r. record r { state = Queued; queue = None }))))
    ∙ ap (to_queue (put (change_at g.objects s (with_reference unreferred))) s) (sym ahead)
