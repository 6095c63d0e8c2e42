use Rattle.jlr_histories.proofs.Added.{adds_edges}
use Rattle.jlr_histories.proofs.cycles.laws.an_ask_adds_edges_to_roots_alone.Goals as goal

pub returns : goal.returns
returns c = adds_edges
