-- Cleanables that are roots by themselves.
use Rattle.std.proofs.Common.{◌≡◌, ℕ, zero, suc, ◌<◌, [], ◌∷◌, length, IsTrue, sym, subst, arith}
use Rattle.jlr_machine.specs.Objects.{Heap, at, ◌∈◌}
use Rattle.jlr_machine.specs.Edges.{active_cleanables, is_own_root}
use Rattle.jlr_laws.proofs.Frames.{from_active, in_active}

root_within : (heap : Heap) (x : ℕ) → IsTrue (is_own_root (at heap x)) → x < length heap
root_within [] x h = cc
root_within (o ∷ heap) zero h = omega arith
root_within (o ∷ heap) (suc x) h = let below : x < length heap = root_within heap x h in omega arith

pub active_gives : (heap : Heap) (x : ℕ) → x ∈ active_cleanables 0 heap → IsTrue (is_own_root (at heap x))
active_gives heap x h =
    let r = in_active 0 heap x h in
    let same : x ≡ r.0 = omega (arith, r.1) in
    subst (λ y. IsTrue (is_own_root (at heap y))) (sym same) r.2

pub active_from : (heap : Heap) (x : ℕ) → IsTrue (is_own_root (at heap x)) → x ∈ active_cleanables 0 heap
active_from heap x h = from_active 0 heap x x (omega arith) h

-- they are in the heap
pub active_within : (heap : Heap) (x : ℕ) → x ∈ active_cleanables 0 heap → x < length heap
active_within heap x h = root_within heap x (active_gives heap x h)
