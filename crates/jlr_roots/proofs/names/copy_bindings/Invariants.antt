use Rattle.std.proofs.Common.{◌≡◌, map}
use Rattle.std.specs.Map.Iter.{deref_pair}
use Rattle.jlr_roots.specs.Naming.{bindings_of}
use Rattle.jlr_roots.proofs.names.copy_bindings.Given as goal

-- the entries so far are copied
abbrev pub invariant-loop-name : goal.invariant-loop-name
invariant-loop-name l = l.copies.items ≡ bindings_of (map deref_pair l.yielded)
