use Rattle.std.proofs.Common.{◌≡◌, ℕ, Option, Some, None, false, true, sym, ◌∙◌, subst, inl, inr}
use Rattle.jlr_machine.specs.declared.object.Object.{Object}
use Rattle.jlr_machine.specs.declared.object.Object.TheVariants.{Plain, Reference, Queue, Cleaner, Cleanable, Guard}
use Rattle.jlr_types.specs.declared.RefKind.TheVariants.{Soft}
use Rattle.jlr_machine.specs.Objects.{at, some_and}
use Rattle.jlr_machine.specs.Refusals.{is_record}
use Rattle.jlr_machine.specs.Edges.{referent}
use Rattle.std.specs.Prelude.{option_and_then}
use Rattle.jlr_barrier.specs.Graphs.{Clock, Graph}
use Rattle.jlr_marks.specs.Marking.{Shaded, place}
use Rattle.jlr_barrier.specs.Parts.{next_at}
use Rattle.jlr_marker.specs.Following.{keeps, soft_at}
use Rattle.jlr_barrier.specs.Snapshots.{IsObject}
use Rattle.jlr_marker.proofs.Following.{followed_is_soft, follows_same, follows_then, scanned_follows, soft_edge}
use Rattle.jlr_marker.proofs.edges.follow.Goals as goal

pub scan-requires-clause-objects : goal.scan-requires-clause-objects
scan-requires-clause-objects c = λ x h. c.requires.objects x (followed_is_soft (λ _. false) c.args.heap.now.graph.objects c.args.slot x h)

pub follow_soft-requires-clause-object : goal.follow_soft-requires-clause-object
follow_soft-requires-clause-object c =
    subst (λ (g : Graph). (x : ℕ) → soft_at g.objects c.args.slot ≡ Some x → IsObject g.objects x) (sym c.scan.ensures.graph)
    (λ x e. c.requires.objects x (soft_edge c.args.heap.now.graph.objects c.args.slot x e))

-- a plain object has no soft referent
no_soft : {P : Type 0} (o : Option Object) (x : ℕ) → some_and is_record o ≡ true → option_and_then (referent Soft) o ≡ Some x → P
no_soft None x plain soft = cc
no_soft (Some (Plain fields)) x plain soft = cc
no_soft (Some (Reference r)) x plain soft = cc
no_soft (Some (Queue members)) x plain soft = cc
no_soft (Some Cleaner) x plain soft = cc
no_soft (Some (Cleanable c)) x plain soft = cc
no_soft (Some (Guard g)) x plain soft = cc

pub returns-then-scan-clause-follows : goal.returns-then-scan-clause-follows
returns-then-scan-clause-follows c =
    let heap = c.args.heap.now.graph.objects in
    let s = c.args.slot in
    let old = c.args.heap.now.marking in
    let new = c.scan.new.self.marking in
    let plain : some_and is_record (at heap s) ≡ true = sym c.scan.ensures.plain ∙ c.if-scan.true in
    follows_same _ _ s (next_at heap (place old s) s) old new (λ x h. inl h)
    (λ x h. elim h [ inl part ↦ part | inr soft ↦ no_soft (at heap s) x plain soft.1 ])
    (scanned_follows heap s old new c.scan.ensures.scanned)

pub returns-clause-follows : goal.returns-clause-follows
returns-clause-follows c =
    let heap = c.args.heap.now.graph.objects in
    let s = c.args.slot in
    let kept = keeps c.args.policy.now c.args.heap.now.clock in
    let old = c.args.heap.now.marking in
    let soft : Shaded (λ x. (kept s ≡ true) × (soft_at heap s ≡ Some x)) c.scan.new.self.marking c.follow_soft.new.heap.marking =
    subst (λ (k : Clock). Shaded (λ x. (keeps c.args.policy.now k s ≡ true) × (soft_at heap s ≡ Some x)) c.scan.new.self.marking
    c.follow_soft.new.heap.marking) c.scan.ensures.clock
    (subst (λ (g : Graph). Shaded (λ x. (keeps c.args.policy.now c.scan.new.self.clock s ≡ true) × (soft_at g.objects s ≡ Some x))
    c.scan.new.self.marking c.follow_soft.new.heap.marking) c.scan.ensures.graph c.follow_soft.ensures.shaded) in
    follows_then _ _ s (next_at heap (place old s) s) old c.scan.new.self.marking c.follow_soft.new.heap.marking
    (scanned_follows heap s old c.scan.new.self.marking c.scan.ensures.scanned) soft
