use Rattle.std.proofs.Common.{length, ◌-◌, ◌≡◌, drop}
use Rattle.jlr_plain_images.specs.Places.{rising_by}
use Rattle.jlr_plain_images.specs.Images.{own_number}
use Rattle.jlr_plain_images.proofs.image.slots_rise.Given as goal

abbrev pub invariant-loop-i : goal.invariant-loop-i
invariant-loop-i l = rising_by own_number (drop l.i l.slots) ≡ rising_by own_number l.fn.slots

abbrev pub decreases-loop-i : goal.decreases-loop-i
decreases-loop-i l = length l.slots - l.i
