-- What the test of references and queues tells.
use Rattle.std.proofs.Common.{◌≡◌, ◌↔◌, ℕ, true, false, not, ◌||◌, Decides, IsTrue, List, length, refl, sym, ◌∙◌, ap, subst, inl, inr}
use Rattle.std.proofs.Common.{Option, Some, None, nat_eq, is_some}
use Rattle.std.proofs.lemmas.Bool.{both_ways, or_cases, or_left, or_right, eqb-true, eq-eqb, cases_eq, not-true, not_from_false}
use Rattle.std.proofs.lemmas.Bool.{false_from_ne_true}
use Rattle.jlr_machine.specs.declared.object.Object.{Object}
use Rattle.jlr_machine.specs.declared.object.Object.TheVariants.{Plain, Reference, Queue, Cleaner, Cleanable, Guard}
use Rattle.jlr_machine.specs.declared.object.Reference.{Reference as ReferenceOf}
use Rattle.jlr_machine.specs.declared.object.RefState.{RefState}
use Rattle.jlr_machine.specs.declared.object.RefState.TheVariants.{Fresh, Pending, Queued, Removed}
use Rattle.jlr_machine.specs.declared.machine.Machine.{Machine}
use Rattle.jlr_machine.specs.Objects.{Heap, at, some_and, ◌∋◌, ◌∈◌, is_distinct, is_queued}
use Rattle.jlr_machine.specs.WellFormed.{AreReferences, FitsItsState}
use Rattle.jlr_laws.proofs.Sets.{nothing}
use Rattle.jlr_laws.proofs.Frames.{no_some, place_within}
use Rattle.jlr_plain_images.specs.Places.{on_queue}
use Rattle.jlr_plain_images.specs.References.{fits_state, fits_own_state, is_queued_object, members_fit, queue_members, is_disjoint}
use Rattle.jlr_plain_images.specs.References.{shares_nothing, queues_are_apart, references_fit}
use Rattle.jlr_plain_images.proofs.States.{queued_is}
use Rattle.jlr_plain_images.proofs.Everywhere.{Decides-all, Decides-numbers, Decides-references, Decides-queues, Decides-slots}
use Rattle.jlr_plain_images.proofs.Everywhere.{Decides-on_queue, Decides-true, Decides-none, also, turned}

-- ---- States

Decides-state : (r : ReferenceOf) (s : RefState) → Decides (fits_state r s) (FitsItsState r s)
Decides-state r Fresh = ((λ h. tt), (λ u. refl))
Decides-state r Pending = also (Decides-true (is_some r.queue)) (Decides-none r.referent)
Decides-state r Queued = also (Decides-none r.queue) (Decides-none r.referent)
Decides-state r Removed = also (Decides-none r.queue) (Decides-none r.referent)

-- ---- Members

abbrev IsQueued : Option Object → Type 0
IsQueued o = (r : ReferenceOf) × (o ≡ Some (Reference r)) × (r.state ≡ Queued)

queued_there : (o : Object) → is_queued_object o ≡ true → IsQueued (Some o)
queued_there (Reference r) h = (r, refl, queued_is r.state h)
queued_there (Plain x) h = absurd (both_ways false refl h)
queued_there (Queue x) h = absurd (both_ways false refl h)
queued_there Cleaner h = absurd (both_ways false refl h)
queued_there (Cleanable x) h = absurd (both_ways false refl h)
queued_there (Guard x) h = absurd (both_ways false refl h)

Decides-queued : (o : Option Object) → Decides (some_and is_queued_object o) (IsQueued o)
Decides-queued None = ((λ h. absurd (both_ways false refl h)), (λ q. no_some (Reference q.0) q.1))
Decides-queued (Some o) = (queued_there o, (λ q. ap (some_and is_queued_object) q.1 ∙ ap is_queued q.2))

-- ---- Queues apart

members_there : (o : Option Object) (s : ℕ) → s ∈ queue_members o → (members : List ℕ) × (o ≡ Some (Queue members)) × (s ∈ members)
members_there None s h = nothing s h
members_there (Some (Queue members)) s h = (members, refl, h)
members_there (Some _) s h = nothing s h

Decides-disjoint : (xs ys : List ℕ) → Decides (is_disjoint xs ys) ((s : ℕ) → s ∈ xs → s ∈ ys → ⊥)
Decides-disjoint xs ys = Decides-all (λ s. not (ys ∋ s)) (λ s. s ∈ ys → ⊥) xs (λ s. (
  (λ h m. both_ways (ys ∋ s) (not-true (ys ∋ s) h) m),
  (λ h. not_from_false (ys ∋ s) (false_from_ne_true (ys ∋ s) h)),
))

-- the queue at p shares no member with another
abbrev SharesNothing : Heap → ℕ → List ℕ → Type 0
SharesNothing heap p xs = (q s : ℕ) (ys : List ℕ) → at heap q ≡ Some (Queue ys) → s ∈ xs → s ∈ ys → p ≡ q

shares_gives : (heap : Heap) (p : ℕ) (xs : List ℕ) → shares_nothing heap p xs ≡ true → SharesNothing heap p xs
shares_gives heap p xs h q s ys e a b =
    elim (or_cases (nat_eq p q) (is_disjoint (queue_members (at heap q)) xs)
    ((Decides-numbers (length heap) (λ q. nat_eq p q || is_disjoint (queue_members (at heap q)) xs)).0 h q
    (place_within heap q (Queue ys) e))) [
      | inl same ↦ eqb-true p q same
      | inr apart ↦ absurd ((Decides-disjoint (queue_members (at heap q)) xs).0 apart s (subst (λ o. s ∈ queue_members o) (sym e) b) a)
    ]

shares_from : (heap : Heap) (p : ℕ) (xs : List ℕ) → SharesNothing heap p xs → shares_nothing heap p xs ≡ true
shares_from heap p xs w =
    (Decides-numbers (length heap) (λ q. nat_eq p q || is_disjoint (queue_members (at heap q)) xs)).1 (λ q _.
    elim (cases_eq p q) [
      | inl same ↦ or_left (nat_eq p q) (is_disjoint (queue_members (at heap q)) xs) (eq-eqb p q same)
      | inr other ↦ or_right (nat_eq p q) (is_disjoint (queue_members (at heap q)) xs)
          ((Decides-disjoint (queue_members (at heap q)) xs).1 (λ s b a.
          let m = members_there (at heap q) s b in
          other (w q s m.0 m.1 a m.2)))
    ])

abbrev AreApart : Heap → Type 0
AreApart heap = (p q s : ℕ) (xs ys : List ℕ) → at heap p ≡ Some (Queue xs) → at heap q ≡ Some (Queue ys) → s ∈ xs → s ∈ ys → p ≡ q

Decides-queues_apart : (heap : Heap) → Decides (queues_are_apart heap) (AreApart heap)
Decides-queues_apart heap =
    turned (Decides-slots (λ p. on_queue (shares_nothing heap p)) (λ p o. (xs : List ℕ) → o ≡ Queue xs → SharesNothing heap p xs) heap
    (λ p o. Decides-on_queue (shares_nothing heap p) (SharesNothing heap p) o (λ xs. (shares_gives heap p xs, shares_from heap p xs))))
    (λ w p q s xs ys e f a b. w p (Queue xs) e xs refl q s ys f a b)
    (λ w p o e xs k q s ys f a b. w p q s xs ys (e ∙ ap (λ x. Some x) k) f a b)

pub references_decided : (m : Machine) → IsTrue (references_fit m) ↔ AreReferences m
references_decided m =
    let states = Decides-references fits_own_state (λ r. FitsItsState r r.state) m.objects (λ r. Decides-state r r.state) in
    let queues = Decides-queues (members_fit m.objects)
    (λ members. ((s : ℕ) → s ∈ members → IsQueued (at m.objects s)) × IsTrue (is_distinct members)) m.objects
    (λ members. also (Decides-all (λ s. some_and is_queued_object (at m.objects s)) (λ s. IsQueued (at m.objects s)) members
    (λ s. Decides-queued (at m.objects s))) (Decides-true (is_distinct members))) in
    turned (also (also states queues) (Decides-queues_apart m.objects))
    (λ p. record {
      states = p.0.0;
      members = λ q s members e h. (p.0.1 q members e).0 s h;
      once = λ q members e. (p.0.1 q members e).1;
      in_one = p.1;
    })
    (λ w. ((w.states, (λ q members e. ((λ s h. w.members q s members e h), w.once q members e))), w.in_one))
