-- What was sent is gone from the front.
use Rattle.std.proofs.Common.{◌≡◌, ℕ, ◌+◌, ◌-◌, ◌≤◌, List, length, take, drop, sym, ◌∙◌, ap, arith}
use Rattle.std.proofs.lemmas.List.{drop-take, drop-drop, length-take}
use Rattle.jlr_client.specs.Passing.{between}

pub gone_on : (bytes : List ℕ) (from to n : ℕ) → from + n ≤ to → between bytes (from + n) to ≡ drop n (between bytes from to)
gone_on bytes from to n h =
    let e : to - from ≡ n + (to - (from + n)) = omega (arith, h) in
    sym (ap {A = ℕ} {B = List ℕ} (λ k. drop n (take k (drop from bytes))) e ∙ drop-take n (to - (from + n)) (drop from bytes)
    ∙ ap {A = List ℕ} {B = List ℕ} (take (to - (from + n))) (drop-drop n from bytes))

-- of what lies between no more goes
pub within : (bytes : List ℕ) (from to n : ℕ) → from ≤ to → n ≤ length (between bytes from to) → from + n ≤ to
within bytes from to n h few = omega (arith, h, few, length-take (to - from) (drop from bytes))
