-- The slots of new objects that are read are at most two.
use Rattle.std.proofs.Common.{◌≡◌, ℕ, zero, suc, List, [], ◌∷◌, length, Ok, refl, ap, subst}
use Rattle.jlr_trace_fields.specs.Reading.{Reader, ◌>>=◌}
use Rattle.jlr_trace_fields.specs.Items.{items_at}
use Rattle.jlr_trace_fields.proofs.Steps.{bind_ok, ok_is}

pub items_counted : {A : Type 0} (read : Reader A) (n : ℕ) (bytes : List ℕ) (xs : List A) (rest : List ℕ)
    → items_at read n bytes ≡ Ok (xs, rest) → length xs ≡ n
unfolding items_at
items_counted {A} read zero bytes xs rest e = subst (λ (y : List A × List ℕ). length y.0 ≡ 0) (ok_is ([], bytes) (xs, rest) e) refl
items_counted {A} read (suc n) bytes xs rest e =
    let a = bind_ok (read bytes) (λ first. items_at read n first.1 >>= λ others. Ok (first.0 ∷ others.0, others.1)) (xs, rest) e in
    let b = bind_ok (items_at read n a.0.1) (λ others. Ok (a.0.0 ∷ others.0, others.1)) (xs, rest) a.2 in
    let made : List A × List ℕ = (a.0.0 ∷ b.0.0, b.0.1) in
    subst (λ (y : List A × List ℕ). length y.0 ≡ suc n) (ok_is made (xs, rest) b.2) (ap suc (items_counted read n a.0.1 b.0.0 b.0.1 b.1))
