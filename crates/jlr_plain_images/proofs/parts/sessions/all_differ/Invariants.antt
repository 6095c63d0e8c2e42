use Rattle.std.proofs.Common.{length, ◌-◌, ◌≡◌, drop}
use Rattle.jlr_plain_images.specs.Sessions.{names_differ}
use Rattle.jlr_plain_images.proofs.parts.sessions.all_differ.Given as goal

abbrev pub invariant-loop-i : goal.invariant-loop-i
invariant-loop-i l = names_differ (drop l.i l.names) ≡ names_differ l.fn.names

abbrev pub decreases-loop-i : goal.decreases-loop-i
decreases-loop-i l = length l.names - l.i
