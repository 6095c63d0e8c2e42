use Rattle.std.proofs.Common.{◌≡◌, take}
use Rattle.jlr_machine.proofs.copies.copy_bindings.Given as goal

abbrev pub invariant-loop-binding : goal.invariant-loop-binding
invariant-loop-binding l = l.out.items ≡ take l.binding-index l.bindings
