use Rattle.std.proofs.Common.{◌≡◌, take}
use Rattle.jlr_roots.specs.Sessions.{sessions_in}
use Rattle.jlr_roots.proofs.roots.images.Given as goal

abbrev pub invariant-loop-member : goal.invariant-loop-member
invariant-loop-member l = l.mutators.items ≡ sessions_in (take l.member-index l.members)
