use Rattle.std.proofs.Common.{◌≡◌, take, replicate, None}
use Rattle.jlr_roots.proofs.handles.empty.Given as goal

-- the places so far hold nothing
abbrev pub invariant-loop-place : goal.invariant-loop-place
invariant-loop-place l = take l.place-index l.places ≡ replicate l.place-index None
