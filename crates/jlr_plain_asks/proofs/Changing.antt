-- What is taken out, changed, and put back.
use Rattle.std.proofs.Common.{◌≡◌, ℕ, Option, None, option_map, ◌∙◌, ap, slice_set}
use Rattle.std.proofs.lemmas.List.{set-set}
use Rattle.jlr_machine.specs.Objects.{Table, at, change_at}

-- what lay there is put back changed
pub put_back : {A : Type 0} (old between new : Table A) (n : ℕ) (taken put : Option A) (f : A → A)
    → taken ≡ at old n → between ≡ slice_set old n None → new ≡ slice_set between n put → put ≡ option_map f taken → new ≡ change_at old n f
put_back {A} old between new n taken put f was left is changed =
    is ∙ ap {A = Table A} {B = Table A} (λ t. slice_set t n put) left ∙ set-set {A = Option A} old n None put
    ∙ ap {A = Option A} {B = Table A} (λ p. slice_set old n p) (changed ∙ ap {A = Option A} {B = Option A} (option_map f) was)
