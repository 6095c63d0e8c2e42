use Rattle.std.proofs.Common.{◌≡◌, ◌++◌, take, map}
use Rattle.jlr_machine.specs.declared.machine.Binding.{Binding}
use Rattle.jlr_plain_collections.proofs.roots.push_names.Given as goal

abbrev pub invariant-loop-binding : goal.invariant-loop-binding
invariant-loop-binding l = l.out.items ≡ l.fn.out.items ++ map (λ (b : Binding). b.slot) (take l.binding-index l.names)
