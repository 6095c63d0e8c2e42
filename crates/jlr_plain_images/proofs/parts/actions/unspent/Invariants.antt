use Rattle.std.proofs.Common.{◌≡◌, ◌≤◌, take, count_by}
use Rattle.jlr_machine.specs.WellFormed.{is_unspent_place}
use Rattle.jlr_plain_images.proofs.parts.actions.unspent.Given as goal

abbrev pub invariant-loop-place : goal.invariant-loop-place
invariant-loop-place l = (l.count ≡ count_by is_unspent_place (take l.place-index l.places)) × (l.count ≤ l.place-index)
