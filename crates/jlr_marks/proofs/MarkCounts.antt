-- Counts of marked slots.
use Rattle.std.proofs.Common.{ℕ, zero, suc, ◌≡◌, ◌<◌, ◌≤◌, ◌+◌, Bool, true, false, cond, List, length, get_or, set, replicate, refl, arith}
use Rattle.std.proofs.Common.{count_by, length-set}
use Rattle.std.proofs.lemmas.List.Sums.{sum_by-set, count_by-le-length}

-- one more is marked
pub count_marks : (bits : List Bool) (s : ℕ) → s < length bits → get_or bits s false ≡ false
    → count_by (λ b. b) (set bits s true) ≡ count_by (λ b. b) bits + 1
count_marks bits s h e =
    let f : Bool → ℕ = λ b. cond b 1 0 in
    let k = sum_by-set f bits s true false h in
    let k' = rw e at k in
    omega (arith, k')

-- one more is marked, or none
pub count_more : (bits : List Bool) (s : ℕ) → s < length bits → count_by (λ b. b) bits ≤ count_by (λ b. b) (set bits s true)
count_more bits s h =
    let f : Bool → ℕ = λ b. cond b 1 0 in
    let k = sum_by-set f bits s true false h in
    let few : f (get_or bits s false) ≤ 1 =
    elim (get_or bits s false) as (λ b. cond b 1 0 ≤ 1) [ true ↦ omega arith | false ↦ omega arith ] in
    omega (arith, k, few)

-- while a slot is unmarked, fewer slots are marked than there are
pub room_left : (bits : List Bool) (s : ℕ) → s < length bits → get_or bits s false ≡ false → count_by (λ b. b) bits + 1 ≤ length bits
room_left bits s h e =
    omega (arith, count_marks bits s h e, count_by-le-length (λ b. b) (set bits s true), length-set bits s true)

-- where no bit is set, none is marked
pub none_set : (n x : ℕ) → get_or (replicate n false) x false ≡ false
none_set zero x = refl
none_set (suc n) zero = refl
none_set (suc n) (suc x) = none_set n x
