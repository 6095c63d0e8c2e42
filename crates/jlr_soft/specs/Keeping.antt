-- How long a soft reference keeps its referent.
use Rattle.std.specs.Prelude.{ℕ, ◌-◌, nat_lt, Bool, false}
use Rattle.jlr_soft.specs.declared.policy.Mode.{Mode}
use Rattle.jlr_soft.specs.declared.policy.Mode.TheVariants.{Policy, ClearAll}

-- fewer collections than the soft age finished since the reference was made or last gave its referent
abbrev pub is_kept : ℕ → ℕ → ℕ → Bool
is_kept soft_age last_get cycle = nat_lt (cycle - last_get) soft_age

-- by its age under the policy; where all are cleared, none
abbrev pub is_kept_in : Mode → ℕ → ℕ → ℕ → Bool
is_kept_in Policy soft_age last_get cycle = is_kept soft_age last_get cycle
is_kept_in ClearAll soft_age last_get cycle = false
