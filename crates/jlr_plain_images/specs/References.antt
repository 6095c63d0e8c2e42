-- The test of references and queues.
use Rattle.std.specs.Prelude.{ℕ, Bool, true, false, not, ◌&&◌, ◌||◌, List, [], Option, Some, length, nat_eq, is_some}
use Rattle.std.specs.Prelude.{is_none}
use Rattle.std.specs.List.{list_all}
use Rattle.jlr_machine.specs.declared.object.Object.{Object}
use Rattle.jlr_machine.specs.declared.object.Object.TheVariants.{Reference, Queue}
use Rattle.jlr_machine.specs.declared.object.Reference.{Reference as ReferenceOf}
use Rattle.jlr_machine.specs.declared.object.RefState.{RefState}
use Rattle.jlr_machine.specs.declared.object.RefState.TheVariants.{Fresh, Pending, Queued, Removed}
use Rattle.jlr_machine.specs.declared.machine.Machine.{Machine}
use Rattle.jlr_machine.specs.Objects.{Heap, at, some_and, ◌∋◌, is_distinct, is_queued}
use Rattle.jlr_plain_images.specs.Places.{none_or, each_number, on_reference, on_queue}

-- Pending references have a queue, Queued and Removed ones none, and all three no referent
abbrev pub fits_state : ReferenceOf → RefState → Bool
fits_state r Fresh = true
fits_state r Pending = is_some r.queue && is_none r.referent
fits_state r Queued = is_none r.queue && is_none r.referent
fits_state r Removed = is_none r.queue && is_none r.referent

-- a reference fits the state that it is in
abbrev pub fits_own_state : ReferenceOf → Bool
fits_own_state r = fits_state r r.state

-- each reference does
abbrev pub states_fit : Heap → Bool
states_fit heap = list_all (none_or (on_reference fits_own_state)) heap

-- a Queued reference
abbrev pub is_queued_object : Object → Bool
is_queued_object (Reference r) = is_queued r.state
is_queued_object _ = false

-- the members are Queued references, each once
abbrev pub members_fit : Heap → List ℕ → Bool
members_fit heap members = list_all (λ s. some_and is_queued_object (at heap s)) members && is_distinct members

-- each queue has fitting members
abbrev pub queues_fit : Heap → Bool
queues_fit heap = list_all (none_or (on_queue (members_fit heap))) heap

-- the members of the queue there, if it is one
abbrev pub queue_members : Option Object → List ℕ
queue_members (Some (Queue members)) = members
queue_members _ = []

-- no member of the one is in the other
abbrev pub is_disjoint : List ℕ → List ℕ → Bool
is_disjoint xs ys = list_all (λ s. not (ys ∋ s)) xs

-- the queue at p, with these members, has none that another queue has
abbrev pub shares_nothing : Heap → ℕ → List ℕ → Bool
shares_nothing heap p members =
    each_number (length heap) (λ q. nat_eq p q || is_disjoint (queue_members (at heap q)) members)

-- no two queues share a member
abbrev pub queues_are_apart : Heap → Bool
queues_are_apart heap = each_number (length heap) (λ p. none_or (on_queue (shares_nothing heap p)) (at heap p))

-- all that is asked of references and queues
abbrev pub references_fit : Machine → Bool
references_fit m = states_fit m.objects && queues_fit m.objects && queues_are_apart m.objects
