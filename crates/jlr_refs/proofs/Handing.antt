-- The handler's step, as the machine has it.
use Rattle.std.proofs.Common.{◌≡◌, ℕ, true, inr, List, [], drop, Option, Some, None, is_some, option_and_then, refl, sym, ◌∙◌, ap, subst}
use Rattle.std.specs.Prelude.{option_map, slice_get}
use Rattle.jlr_machine.specs.declared.machine.Machine.{Machine}
use Rattle.jlr_machine.specs.declared.object.Object.{Object}
use Rattle.jlr_machine.specs.declared.object.Object.TheVariants.{Plain, Reference, Queue, Cleaner, Cleanable, Guard}
use Rattle.jlr_machine.specs.declared.object.Cleanable.{Cleanable as CleanableOf}
use Rattle.jlr_machine.specs.declared.object.RefState.{RefState}
use Rattle.jlr_machine.specs.declared.object.RefState.TheVariants.{Fresh, Pending, Queued, Removed}
use Rattle.jlr_machine.specs.declared.object.CleanState.{CleanState}
use Rattle.jlr_machine.specs.declared.object.CleanState.TheVariants.{Armed, Pending as PendingClean, Lined, Spent}
use Rattle.jlr_machine.specs.declared.ask.Handed.{Handed}
use Rattle.jlr_machine.specs.declared.ask.Handed.TheVariants.{Queued as HandedQueued, Lined as HandedLined, Skipped, Nothing}
use Rattle.jlr_machine.specs.declared.ask.Answer.TheVariants.{Handed as HandedAnswer}
use Rattle.jlr_machine.specs.Objects.{◌∈◌, as_reference, at, queue_ahead, some_and, with_reference}
use Rattle.jlr_machine.specs.Refusals.{is_cleanable}
use Rattle.jlr_machine.specs.Edges.{is_own_root}
use Rattle.jlr_machine.specs.Lookups.{with_object}
use Rattle.jlr_machine.specs.Calls.{delivered, hand_over_answer, handed, handed_cleanable, handed_over, handed_reference, to_queue}
use Rattle.jlr_machine.specs.Calls.{unreferred}
use Rattle.jlr_laws.proofs.Sets.{in_front}
use Rattle.jlr_barrier.specs.Graphs.{Graph, Known, in_machine}
use Rattle.jlr_barrier.specs.Snapshots.{IsInHand}
use Rattle.jlr_barrier.proofs.Held.{by_itself, by_pending}
use Rattle.jlr_barrier.proofs.OwnRoots.{active_from}
use Rattle.jlr_refs.specs.Parts.{DeliversFront, HandsOverReference, IsPartOfMachine, handed_there}
use Rattle.jlr_refs.proofs.Lining.{split}
use Rattle.jlr_refs.proofs.InQueues.{pending_there}

-- ---- What the handler does with an object

lined_no_reference : (state : RefState) → handed_reference state ≡ HandedLined → ⊥
lined_no_reference Fresh e = absurd (cc e)
lined_no_reference Pending e = absurd (cc e)
lined_no_reference Queued e = absurd (cc e)
lined_no_reference Removed e = absurd (cc e)

lined_was_pending : (state : CleanState) → handed_cleanable state ≡ HandedLined → state ≡ PendingClean
lined_was_pending Armed e = absurd (cc e)
lined_was_pending PendingClean e = refl
lined_was_pending Lined e = absurd (cc e)
lined_was_pending Spent e = absurd (cc e)

pub lined_is_cleanable : (o : Option Object) → handed_there o ≡ HandedLined → (c : CleanableOf) × (o ≡ Some (Cleanable c))
    × (c.state ≡ PendingClean)
lined_is_cleanable None e = absurd (cc e)
lined_is_cleanable (Some (Plain fields)) e = absurd (cc e)
lined_is_cleanable (Some (Reference r)) e = absurd (lined_no_reference r.state e)
lined_is_cleanable (Some (Queue members)) e = absurd (cc e)
lined_is_cleanable (Some Cleaner) e = absurd (cc e)
lined_is_cleanable (Some (Cleanable c)) e = (c, refl, lined_was_pending c.state e)
lined_is_cleanable (Some (Guard g)) e = absurd (cc e)

pub cleanable_is_object : (o : Option Object) → some_and is_cleanable o ≡ true → is_some o ≡ true
cleanable_is_object None h = h
cleanable_is_object (Some o) h = refl

-- ---- The pending list meanwhile

queue_apart : (m : Machine) (s : ℕ) (q : Option ℕ) (l : List ℕ)
    → to_queue (record m { pending = l }) s q ≡ record (to_queue m s q) { pending = l }
queue_apart m s None l = refl
queue_apart m s (Some q) l = refl

-- what is delivered is no part of the pending list
delivered_apart : (m : Machine) (s : ℕ) (handed : Handed) (l : List ℕ)
    → delivered (record m { pending = l }) s handed ≡ record (delivered m s handed) { pending = l }
delivered_apart m s HandedQueued l = queue_apart (with_object m s (with_reference unreferred)) s
    (option_and_then queue_ahead (option_and_then as_reference (at m.objects s))) l
delivered_apart m s HandedLined l = refl
delivered_apart m s Skipped l = refl
delivered_apart m s Nothing l = refl

-- what is at the front of the pending list is in hand
pub front_in_hand : (k : Known) (s : ℕ) → slice_get k.graph.pending 0 ≡ Some s → IsInHand k s
front_in_hand k s first = inr (
  s,
  by_pending k.graph s
      (subst (λ l. s ∈ l) (sym (split k.graph.pending s first)) (in_front s s (drop 1 k.graph.pending) refl)),
  ([], refl),
)

-- and so is a cleanable that is Pending
pub own_root_in_hand : (k : Known) (s : ℕ) → is_own_root (at k.graph.objects s) ≡ true → IsInHand k s
own_root_in_hand k s own = inr (s, by_itself k.graph s (active_from k.graph.objects s own), ([], refl))

-- ---- The step

pub hands_over_front : (g k : Graph) (s : ℕ) (did : Handed) → IsPartOfMachine g → slice_get g.pending 0 ≡ Some s → did
    ≡ handed_there (at g.objects s)
    → DeliversFront g s did k → HandsOverReference g did k
hands_over_front g k s did fit first what delivers =
    let list = split g.pending s first in
    let there = pending_there (in_machine fit.0 g) s fit.1 (subst (λ l. s ∈ l) (sym list) (in_front s s (drop 1 g.pending) refl)) in
    let o : Object = there.0 in
    let is : did ≡ handed o = what ∙ ap handed_there there.1 in
    λ m.
    let M : Machine = in_machine m g in
    let rest : List ℕ = drop 1 g.pending in (
      ap (hand_over_answer M) list ∙ ap (option_map (λ o. HandedAnswer (handed o))) there.1 ∙ ap (λ x. Some (HandedAnswer x)) (sym is),
      delivers m
          ∙ sym (delivered_apart M s did rest)
          ∙ ap (λ x. delivered (record M { pending = rest }) s x) is
          ∙ ap (λ o. elim o [ None ↦ record M { pending = rest } | Some p ↦ delivered (record M { pending = rest }) s (handed p) ])
          (sym there.1)
          ∙ ap (handed_over M) (sym list),
    )
