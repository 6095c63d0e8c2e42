use Rattle.std.proofs.Common.{◌≡◌, drop}
use Rattle.std.specs.List.{list_all}
use Rattle.jlr_machine.specs.Edges.{edges_from}
use Rattle.jlr_machine.specs.Edges.Chain.{Strong}
use Rattle.jlr_laws.specs.Deciding.{holds_all}
use Rattle.jlr_plain_collections.proofs.collection.all_edges_held.Given as goal

abbrev pub invariant-loop-slot : goal.invariant-loop-slot
invariant-loop-slot l = list_all (λ x. holds_all l.kept (edges_from Strong l.objects x)) (drop l.slot-index l.slots) ≡ list_all
    (λ x. holds_all l.fn.kept (edges_from Strong l.fn.objects x)) l.fn.slots
