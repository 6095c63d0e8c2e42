use Rattle.std.proofs.Common.{arith}
use Rattle.jlr_state.specs.Machines.{machine_of}
use Rattle.jlr_state.proofs.Clearings.{makes_room, none_chosen}
use Rattle.jlr_state.proofs.state.State.collect_when_full.Goals as goal

pub returns-clause-made : goal.returns-clause-made
returns-clause-made g c =
    makes_room (machine_of c.args.self.now) 1 c.args.self.now.soft_age c.args.self.now.heap.clock c.args.choice.now
    c.collect.new.choice (machine_of c.collect.new.self) c.requires.fit (omega (arith, c.requires.full)) c.requires.nothing
    c.collect.ensures.room c.collect.ensures.collects

pub returns-clause-marks : goal.returns-clause-marks
returns-clause-marks g c =
    λ none. none_chosen _ _ c.args.choice.now c.collect.new.choice _ c.requires.nothing c.collect.ensures.collects none
