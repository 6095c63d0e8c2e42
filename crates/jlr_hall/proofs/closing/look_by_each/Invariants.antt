use Rattle.std.specs.Prelude.{◌≡◌}
use Rattle.jlr_hall.specs.Closing.{EachKnows}
use Rattle.jlr_hall.proofs.closing.look_by_each.Given as goal

abbrev pub invariant-loop-seat : goal.invariant-loop-seat
invariant-loop-seat g l = record {
  keeper : l.keeper ≡ l.initial.keeper;
  each : EachKnows l.initial.keeper.all l.yielded;
}
