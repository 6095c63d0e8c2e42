use Rattle.jlr_machine.specs.Objects.{at}
use Rattle.jlr_barrier.proofs.Fitting.{object_within}
use Rattle.jlr_refs.proofs.Handing.{cleanable_is_object, own_root_in_hand}
use Rattle.jlr_refs.proofs.handler.line_up.Goals as goal

-- a Pending cleanable is a root by itself
pub add_lined-requires-clause-held : goal.add_lined-requires-clause-held
add_lined-requires-clause-held c = own_root_in_hand c.args.heap.now c.args.slot c.requires.root

pub add_lined-requires-clause-slot : goal.add_lined-requires-clause-slot
add_lined-requires-clause-slot c =
    let heap = c.args.heap.now.graph.objects in
    object_within heap c.args.slot (cleanable_is_object (at heap c.args.slot) c.requires.cleanable)
