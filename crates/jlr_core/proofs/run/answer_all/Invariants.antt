use Rattle.std.proofs.Common.{◌≡◌, ◌++◌, length}
use Rattle.std.specs.List.Sorted.{IsPermutation}
use Rattle.jlr_resource.specs.Resources.{values}
use Rattle.jlr_core.specs.Runs.{IsRunOf, resources_of_events, resources_of_replies}
use Rattle.jlr_core.proofs.run.answer_all.Given as goal

abbrev pub invariant-loop-event : goal.invariant-loop-event
invariant-loop-event g l = record {
  run : IsRunOf l.fn.limits l.yielded l.replies.items l.core;
  flow : IsPermutation (resources_of_events l.yielded) (resources_of_replies l.replies.items ++ values l.core.table);
  age : l.core.soft_age ≡ l.fn.limits.soft_age;
  cells : length l.core.machine.objects ≡ l.fn.limits.cells;
  room : l.choice.cells ≡ l.fn.limits.cells;
}
