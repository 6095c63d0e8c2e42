-- What is written behind what was written.
use Rattle.std.proofs.Common.{◌≡◌, ℕ, List, ◌++◌, Result, Ok, Err, ap, ◌∙◌, append_assoc}
use Rattle.std.specs.Prelude.{OnOk}

-- two parts one behind the other
pub joined : (old middle new a b : List ℕ) → middle ≡ old ++ a → new ≡ middle ++ b → new ≡ old ++ (a ++ b)
joined old middle new a b first second = second ∙ ap (λ (m : List ℕ). m ++ b) first ∙ append_assoc old a b

-- the same, where the second may fail
pub then_written : {T E : Type 0} (r : Result T E) (old middle new a b : List ℕ) → middle ≡ old ++ a → OnOk r (new ≡ middle ++ b)
    → OnOk r (new ≡ old ++ (a ++ b))
then_written (Ok x) old middle new a b first second = joined old middle new a b first second
then_written (Err e) old middle new a b first second = tt
