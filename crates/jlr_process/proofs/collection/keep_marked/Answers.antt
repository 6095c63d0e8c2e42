use Rattle.std.proofs.Common.{◌≡◌, ◌∙◌, ap, length}
use Rattle.jlr_machine.specs.Objects.{at, Heap}
use Rattle.jlr_machine.specs.Choices.{collecting, pended_by}
use Rattle.jlr_barrier.specs.Graphs.{Graph}
use Rattle.jlr_cells.specs.Showing.{shown}
use Rattle.jlr_cells.proofs.Showing.{at-shown, length-shown}
use Rattle.jlr_process.proofs.Unmarked.{slots_marked}
use Rattle.jlr_process.proofs.collection.keep_marked.Goals as goal

pub returns-clause-keeps : goal.returns-clause-keeps
returns-clause-keeps c =
    let m = c.args.heap.now.marking in
    let old : Heap = c.args.heap.now.graph.objects in
    let after = c.keep_marked.ensures.graph in
    let objects : c.keep_marked.new.self.graph.objects ≡ shown m.bits old = ap (λ (g : Graph). g.objects) after in
    record {
      long = ap length objects ∙ length-shown m.bits old;
      objects = λ x l. ap (λ (h : Heap). at h x) objects ∙ at-shown m.bits old x;
      pending = ap (λ (g : Graph). g.pending) after;
      line = ap (λ (g : Graph). g.line) after;
      mutators = ap (λ (g : Graph). g.mutators) after;
      names = ap (λ (g : Graph). g.names) after;
      chosen = c.keep_marked.ensures.choice ∙ ap (λ l. collecting c.args.choice.now l (pended_by c.args.choice.now))
          (slots_marked m (length old) c.requires.bits);
    }
