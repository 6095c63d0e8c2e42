use Rattle.std.proofs.Common.{arith}
use Rattle.std.proofs.lemmas.Grind.{common_steps}
use Rattle.jlr_state.specs.Machines.{machine_of}
use Rattle.jlr_state.proofs.Clearings.{makes_room, none_chosen}
use Rattle.jlr_state.proofs.state.State.make_room.Goals as goal

pub returns-then-vacant_count-cells-clause-made : goal.returns-then-vacant_count-cells-clause-made
returns-then-vacant_count-cells-clause-made g c =
    makes_room (machine_of c.args.self.now) c.args.cells c.args.self.now.soft_age c.args.self.now.heap.clock c.args.choice.now
    c.collect.new.choice (machine_of c.collect.new.self) c.requires.fit
    (omega (arith, c.if-vacant_count-cells.true, c.vacant_count.ensures)) c.requires.nothing c.collect.ensures.room
    c.collect.ensures.collects

pub returns-then-vacant_count-cells-clause-marks : goal.returns-then-vacant_count-cells-clause-marks
returns-then-vacant_count-cells-clause-marks g c =
    λ none. none_chosen _ _ c.args.choice.now c.collect.new.choice _ c.requires.nothing c.collect.ensures.collects none

pub returns-else-vacant_count-cells-clause-made : goal.returns-else-vacant_count-cells-clause-made
returns-else-vacant_count-cells-clause-made g c = grind (arith, common_steps)
