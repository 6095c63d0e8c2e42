use Rattle.std.proofs.Common.{◌≡◌, ℕ, ◌<◌, List, [], ◌∙◌, ap, arith, length}
use Rattle.jlr_machine.specs.declared.machine.Machine.{Machine}
use Rattle.jlr_machine.specs.Objects.{at, Heap, occupied, ◌∋◌}
use Rattle.jlr_machine.specs.Choices.{Choosing, collecting, pended_by}
use Rattle.jlr_barrier.specs.Graphs.{Graph, in_machine}
use Rattle.jlr_marks.specs.Marking.{Marking}
use Rattle.jlr_process.specs.Settling.{is_losing, kept_if_marked, marked_below, settled}
use Rattle.jlr_process.proofs.Whole.{all_settled, as_parts, kept_counted, same_bool}
use Rattle.jlr_process.proofs.Twice.{all_lost, settled_there}
use Rattle.jlr_process.proofs.Settled.{as_many}
use Rattle.jlr_process.proofs.Gone.{collection, referent_within, whole}
use Rattle.jlr_process.proofs.collection.flip.Goals as goal

pub settle_discovered-requires-clause-within : goal.settle_discovered-requires-clause-within
settle_discovered-requires-clause-within c = λ s x e.
    referent_within (in_machine c.requires.fit.0 c.args.heap.now.graph) c.args.heap.now.marking
    (whole c.requires.fit.0 c.args.heap.now c.requires.fit.1 (c.has_grey.ensures.whole c.requires.no_grey)) s x e

pub returns-clause-flips : goal.returns-clause-flips
returns-clause-flips c =
    λ k rooted.
    let holds = c.has_grey.ensures.whole c.requires.no_grey in
    let w = whole k c.args.heap.now rooted holds in
    let m = c.args.heap.now.marking in
    let old : Heap = c.args.heap.now.graph.objects in
    let machine : Machine = in_machine k c.args.heap.now.graph in
    let lost : List ℕ = c.settle_discovered.ensures.clears.0 in
    let s = c.settle_discovered.ensures.clears.1 in
    let t = c.keep_marked.ensures.keeps in
    let same_marks : c.settle_discovered.new.heap.marking ≡ m = c.settle_discovered.ensures.marking in
    let listed : (x : ℕ) → (lost ∋ x) ≡ is_losing m old x =
    λ x. same_bool (lost ∋ x) (is_losing m old x) (λ h. (s.listed x h).1)
    (λ h. s.all x (all_lost m old m.discovered holds.referents x h) h) in
    let settled_all : (x : ℕ) → x < length old → at c.keep_marked.new.heap.graph.objects x ≡ settled m x (at old x) = λ x l.
    t.objects x (omega (arith, l, s.long))
    ∙ ap (λ (n : Marking). kept_if_marked n x (at c.settle_discovered.new.heap.graph.objects x)) same_marks
    ∙ ap (kept_if_marked m x) (s.objects x)
    ∙ settled_there m old m.discovered holds.referents x in
    let objects = all_settled m old w.long lost listed c.keep_marked.new.heap.graph.objects (t.long ∙ s.long) settled_all in
    let chosen : c.keep_marked.new.choice ≡ collecting c.args.choice.now (marked_below m (length old)) lost =
    t.chosen
    ∙ ap (λ (n : Marking). collecting c.settle_discovered.new.choice (marked_below n (length c.settle_discovered.new.heap.graph.objects))
    (pended_by c.settle_discovered.new.choice)) same_marks
    ∙ ap (λ n. collecting c.settle_discovered.new.choice (marked_below m n) (pended_by c.settle_discovered.new.choice)) s.long
    ∙ ap (λ (x : Choosing). collecting x (marked_below m (length old)) (pended_by x))
    (s.chosen ∙ ap (λ (x : Choosing). collecting x [] lost) c.collect.ensures) in
    record {
      pending = lost;
      chosen = chosen;
      collection = collection machine m w lost s.once listed;
      left =
          ap (in_machine k) c.count_collection.ensures.graph
          ∙ as_parts k c.keep_marked.new.heap.graph _ _ _ _ _ objects (t.mutators ∙ s.mutators) (t.names ∙ s.names) (t.pending ∙ s.pending)
          (t.line ∙ s.line);
      counted = ap (λ (g : Graph). occupied g.objects) c.count_collection.ensures.graph ∙ ap (λ h. occupied h) objects
          ∙ kept_counted m old w.long lost listed w.objects;
    }

pub returns-clause-free : goal.returns-clause-free
returns-clause-free c =
    let s = c.settle_discovered.ensures.clears.1 in
    omega (
      arith,
      as_many _ _ _ _ _ _ _ s,
      c.settle_discovered.ensures.condemned,
      c.keep_marked.ensures.free,
      ap (λ (g : Graph). occupied g.objects) c.count_collection.ensures.graph,
      c.count_collection.ensures.condemned,
    )
