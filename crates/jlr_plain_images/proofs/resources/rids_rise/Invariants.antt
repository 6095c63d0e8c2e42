use Rattle.std.proofs.Common.{length, ◌-◌, ◌≡◌, drop}
use Rattle.jlr_plain_images.specs.Places.{rising_by}
use Rattle.jlr_plain_images.specs.Resources.{rid_in}
use Rattle.jlr_plain_images.proofs.resources.rids_rise.Given as goal

abbrev pub invariant-loop-i : goal.invariant-loop-i
invariant-loop-i l = rising_by rid_in (drop l.i l.resources) ≡ rising_by rid_in l.fn.resources

abbrev pub decreases-loop-i : goal.decreases-loop-i
decreases-loop-i l = length l.resources - l.i
