use Rattle.std.proofs.Common.{length, ◌-◌, ◌≡◌, drop}
use Rattle.jlr_plain_images.specs.Places.{rising_by}
use Rattle.jlr_plain_images.specs.Actions.{action_of}
use Rattle.jlr_plain_images.proofs.parts.actions.jobs_rise.Given as goal

abbrev pub invariant-loop-i : goal.invariant-loop-i
invariant-loop-i l = rising_by action_of (drop l.i l.jobs) ≡ rising_by action_of l.fn.jobs

abbrev pub decreases-loop-i : goal.decreases-loop-i
decreases-loop-i l = length l.jobs - l.i
