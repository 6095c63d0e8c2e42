use Rattle.std.proofs.Common.{◌≡◌, drop}
use Rattle.jlr_book.specs.Led.{led, LeadsOn}
use Rattle.jlr_book.proofs.image.following.follow_all.Given as goal

abbrev pub invariant-loop-place : goal.invariant-loop-place
invariant-loop-place l = LeadsOn l.machine (drop l.place l.records) × (led l.machine (drop l.place l.records) ≡ led l.fn.machine l.records)
