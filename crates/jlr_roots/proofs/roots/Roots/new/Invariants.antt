use Rattle.std.proofs.Common.{◌≡◌, replicate}
use Rattle.jlr_roots.specs.Sessions.{absent}
use Rattle.jlr_roots.proofs.roots.Roots.new.Given as goal

-- no member so far is joined
abbrev pub invariant-loop : goal.invariant-loop
invariant-loop l = l.members.items ≡ replicate l.counter absent
