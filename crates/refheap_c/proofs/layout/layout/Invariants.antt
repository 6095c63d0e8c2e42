use Rattle.std.proofs.Common.{◌≡◌, ◌-◌, ◌++◌, length}
use Rattle.refheap_c.specs.Layouts.{layout_of}
use Rattle.refheap_c.proofs.layout.layout.Given as goal

abbrev pub invariant-loop : goal.invariant-loop
invariant-loop l = record {
  made : l.layout ++ layout_of (l.fields - l.counter) l.bits ≡ layout_of l.fields l.references;
  full : length l.layout ≡ l.counter;
}
