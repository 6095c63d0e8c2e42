-- What the test of named slots tells.
use Rattle.std.proofs.Common.{◌≡◌, ◌↔◌, ℕ, true, false, Decides, IsTrue, List, [], refl, sym, ap, subst, option_to_list, inl, inr, Option}
use Rattle.std.proofs.Common.{Some, None, is_some}
use Rattle.std.specs.List.{list_all}
use Rattle.std.proofs.lemmas.Bool.{both_ways}
use Rattle.jlr_machine.specs.declared.object.Object.{Object}
use Rattle.jlr_machine.specs.declared.object.Object.TheVariants.{Plain, Reference, Queue, Cleaner, Cleanable, Guard}
use Rattle.jlr_machine.specs.declared.object.Cleanable.{Cleanable as CleanableOf}
use Rattle.jlr_machine.specs.declared.machine.Machine.{Machine}
use Rattle.jlr_machine.specs.declared.machine.Session.{Session}
use Rattle.jlr_machine.specs.Objects.{Heap, at, some_and, ◌∈◌, any_referent, queue_ahead}
use Rattle.jlr_machine.specs.Edges.{edges_from, roots, strong_edges, is_own_root}
use Rattle.jlr_machine.specs.Edges.Chain.{UpToPhantom}
use Rattle.jlr_machine.specs.Refusals.{is_queue, is_cleanable}
use Rattle.jlr_machine.specs.WellFormed.{AreSlotsNamed, IsQueueAt, IsCleanableAt}
use Rattle.jlr_laws.proofs.Sets.{nothing, in_front, in_cons}
use Rattle.jlr_laws.proofs.Clearing.{in_option, edge_gives, edge_from, referent_is, some_kind}
use Rattle.jlr_laws.proofs.Frames.{no_some, root_gives, root_from}
use Rattle.jlr_laws.proofs.Frames.IsRoot.{held, fencing, named, waiting, lining, active}
use Rattle.jlr_plain_images.specs.Places.{none_or}
use Rattle.jlr_plain_images.specs.Slots.{has_object_at, edges_there, session_there, roots_there, queue_there, cleanable_there, slots_fit}
use Rattle.jlr_plain_images.proofs.Everywhere.{Decides-all, Decides-places, Decides-references, Decides-guards, Decides-true, Decides-any}
use Rattle.jlr_plain_images.proofs.Everywhere.{Decides-contents, Decides-bound, also, turned}

-- ---- Edges

abbrev IsThere : Heap → ℕ → Type 0
IsThere heap s = has_object_at heap s ≡ true

Decides-there : (heap : Heap) (s : ℕ) → Decides (has_object_at heap s) (IsThere heap s)
Decides-there heap s = Decides-true (has_object_at heap s)

abbrev Leads : Heap → Object → Type 0
Leads heap o = ((x : ℕ) → x ∈ strong_edges o → IsThere heap x) × ((x : ℕ) → any_referent o ≡ Some x → IsThere heap x)

any_there : (heap : Heap) (o : Option ℕ) → Decides (none_or (has_object_at heap) o) ((x : ℕ) → o ≡ Some x → IsThere heap x)
any_there heap o = Decides-any (has_object_at heap) (IsThere heap) o (Decides-there heap)

all_there : (heap : Heap) (slots : List ℕ) → Decides (list_all (has_object_at heap) slots) ((x : ℕ) → x ∈ slots → IsThere heap x)
all_there heap slots = Decides-all (has_object_at heap) (IsThere heap) slots (Decides-there heap)

listed : (x : ℕ) (o : Option ℕ) → o ≡ Some x → x ∈ option_to_list o
listed x o e = subst (λ o. x ∈ option_to_list o) (sym e) (in_front x x [] refl)

Decides-leads : (heap : Heap) (o : Object) → Decides (edges_there heap o) (Leads heap o)
Decides-leads heap (Plain fields) =
    let d = Decides-contents (has_object_at heap) (IsThere heap) fields (Decides-there heap) in
    ((λ h. (d.0 h, λ x e. no_some x e)), (λ p. d.1 p.0))
Decides-leads heap (Reference r) =
    turned (also (any_there heap (queue_ahead r)) (any_there heap r.referent))
    (λ p. ((λ x h. p.0 x (in_option x (queue_ahead r) h)), p.1))
    (λ p. ((λ x e. p.0 x (listed x (queue_ahead r) e)), p.1))
Decides-leads heap (Queue members) = ((λ h. ((all_there heap members).0 h, λ x e. no_some x e)), (λ p. (all_there heap members).1 p.0))
Decides-leads heap Cleaner = ((λ h. ((λ x m. nothing x m), λ x e. no_some x e)), (λ p. refl))
Decides-leads heap (Cleanable c) =
    ((λ h. ((λ x m. nothing x m), (any_there heap c.referent).0 h)), (λ p. (any_there heap c.referent).1 p.1))
Decides-leads heap (Guard g) = (
  (λ h. ((λ x m. elim (in_cons x g.cleanable [] m) [ inl e ↦ subst (IsThere heap) (sym e) h | inr n ↦ nothing x n ]), λ x e. no_some x e)),
  (λ p. p.0 g.cleanable (in_front g.cleanable g.cleanable [] refl)),
)

abbrev AllLead : Heap → Type 0
AllLead heap = (s : ℕ) (o : Object) → at heap s ≡ Some o → Leads heap o

edges_from_leads : (heap : Heap) → AllLead heap → (s x : ℕ) → x ∈ edges_from UpToPhantom heap s → IsThere heap x
edges_from_leads heap w s x h = elim (edge_gives UpToPhantom heap s x h) [
  | inl e ↦ (w s e.0 e.1).0 x e.2
  | inr e ↦ (w s e.2.0 e.2.1).1 x (referent_is e.0 e.2.0 x e.2.2)
]

leads_from_edges : (heap : Heap) → ((s x : ℕ) → x ∈ edges_from UpToPhantom heap s → IsThere heap x) → AllLead heap
leads_from_edges heap w s o e = (
  (λ x h. w s x (edge_from UpToPhantom heap s x (inl (o, e, h)))),
  (λ x h. let k = some_kind o x h in w s x (edge_from UpToPhantom heap s x (inr (k.0, refl, (o, e, k.1))))),
)

-- ---- Roots

abbrev SessionThere : Heap → Session → Type 0
SessionThere heap s = ((h x : ℕ) → at s.handles h ≡ Some x → IsThere heap x) × ((x : ℕ) → s.fence ≡ Some x → IsThere heap x)

Decides-session : (heap : Heap) (s : Session) → Decides (session_there heap s) (SessionThere heap s)
Decides-session heap s = also (Decides-places (has_object_at heap) (IsThere heap) s.handles (Decides-there heap)) (any_there heap s.fence)

own_root_there : (o : Option Object) → is_own_root o ≡ true → is_some o ≡ true
own_root_there None h = absurd (both_ways false refl h)
own_root_there (Some o) h = refl

Decides-roots : (m : Machine) → Decides (roots_there m) ((s : ℕ) → s ∈ roots m → IsThere m.objects s)
Decides-roots m =
    let sessions = Decides-places (session_there m.objects) (SessionThere m.objects) m.mutators (Decides-session m.objects) in
    let names = Decides-bound (has_object_at m.objects) (IsThere m.objects) m.names (Decides-there m.objects) in
    turned (also (also (also sessions names) (all_there m.objects m.pending)) (all_there m.objects m.line))
    (λ p s h. elim (root_gives m s h) [
      | held k h session e f ↦ (p.0.0.0 k session e).0 h s f
      | fencing k session e f ↦ (p.0.0.0 k session e).1 s f
      | named h ↦ p.0.0.1 s h
      | waiting h ↦ p.0.1 s h
      | lining h ↦ p.1 s h
      | active h ↦ own_root_there (at m.objects s) h
    ])
    (λ w. (
      (
        (
          (λ k session e. ((λ h x f. w x (root_from m x (held k h session e f))), (λ x f. w x (root_from m x (fencing k session e f))))),
          (λ x h. w x (root_from m x (named h))),
        ),
        (λ x h. w x (root_from m x (waiting h))),
      ),
      (λ x h. w x (root_from m x (lining h))),
    ))

-- ---- Kinds

queue_gives : (o : Object) → is_queue o ≡ true → (members : List ℕ) × (o ≡ Queue members)
queue_gives (Queue members) h = (members, refl)
queue_gives (Plain x) h = absurd (both_ways false refl h)
queue_gives (Reference x) h = absurd (both_ways false refl h)
queue_gives Cleaner h = absurd (both_ways false refl h)
queue_gives (Cleanable x) h = absurd (both_ways false refl h)
queue_gives (Guard x) h = absurd (both_ways false refl h)

cleanable_gives : (o : Object) → is_cleanable o ≡ true → (c : CleanableOf) × (o ≡ Cleanable c)
cleanable_gives (Cleanable c) h = (c, refl)
cleanable_gives (Plain x) h = absurd (both_ways false refl h)
cleanable_gives (Reference x) h = absurd (both_ways false refl h)
cleanable_gives (Queue x) h = absurd (both_ways false refl h)
cleanable_gives Cleaner h = absurd (both_ways false refl h)
cleanable_gives (Guard x) h = absurd (both_ways false refl h)

Decides-queue : (o : Option Object) → Decides (some_and is_queue o) ((members : List ℕ) × (o ≡ Some (Queue members)))
Decides-queue None = ((λ h. absurd (both_ways false refl h)), (λ q. no_some (Queue q.0) q.1))
Decides-queue (Some o) = ((λ h. let q = queue_gives o h in (q.0, ap (λ x. Some x) q.1)), (λ q. ap (some_and is_queue) q.1))

Decides-cleanable : (o : Option Object) → Decides (some_and is_cleanable o) ((c : CleanableOf) × (o ≡ Some (Cleanable c)))
Decides-cleanable None = ((λ h. absurd (both_ways false refl h)), (λ q. no_some (Cleanable q.0) q.1))
Decides-cleanable (Some o) = ((λ h. let q = cleanable_gives o h in (q.0, ap (λ x. Some x) q.1)), (λ q. ap (some_and is_cleanable) q.1))

pub slots_decided : (m : Machine) → IsTrue (slots_fit m) ↔ AreSlotsNamed m
slots_decided m =
    let leads = Decides-places (edges_there m.objects) (Leads m.objects) m.objects (Decides-leads m.objects) in
    let queues =
    Decides-references (queue_there m.objects) (λ r. (q : ℕ) → r.queue ≡ Some q → (members : List ℕ) × IsQueueAt m q members) m.objects
    (λ r. Decides-any (λ q. some_and is_queue (at m.objects q)) (λ q. (members : List ℕ) × IsQueueAt m q members) r.queue
    (λ q. Decides-queue (at m.objects q))) in
    let guards = Decides-guards (cleanable_there m.objects) (λ g. (c : CleanableOf) × IsCleanableAt m g.cleanable c) m.objects
    (λ g. Decides-cleanable (at m.objects g.cleanable)) in
    turned (also (also (also leads (Decides-roots m)) queues) guards)
    (λ p. record {
      edges = edges_from_leads m.objects p.0.0.0;
      roots = p.0.0.1;
      queues = λ s q r e f. p.0.1 s r e q f;
      guarded = p.1;
    })
    (λ w. (((leads_from_edges m.objects w.edges, w.roots), (λ s r e q f. w.queues s q r e f)), w.guarded))
