-- A walk over the places of roots.
use Rattle.std.proofs.Common.{◌≡◌, ℕ, zero, suc, ◌+◌, ◌<◌, ◌⊎◌, inl, inr, [], ◌++◌, Some, refl, sym, ap, subst, add-one, arith}
use Rattle.std.specs.Option.{option_to_list}
use Rattle.std.proofs.lemmas.Bool.{cases_eq}
use Rattle.jlr_machine.specs.declared.machine.Session.{Session}
use Rattle.jlr_machine.specs.Objects.{Table, ◌∈◌}
use Rattle.jlr_roots.specs.Walk.{walked, root_at}
use Rattle.jlr_laws.proofs.Sets.{nothing}
use Rattle.jlr_laws.proofs.Clearing.{in_append, in_left, in_right, option_in, in_option}

walked_none : (m : Table Session) → walked m 0 ≡ []
unfolding walked
walked_none m = refl

walked_more : (m : Table Session) (p : ℕ) → walked m (p + 1) ≡ walked m p ++ option_to_list (root_at m p)
unfolding walked
walked_more m p = ap (walked m) (add-one p)

pub no_place : {P : Type 0} (m : Table Session) (x : ℕ) → x ∈ walked m 0 → P
no_place m x h = nothing x (subst (λ l. x ∈ l) (walked_none m) h)

pub place_gives : (m : Table Session) (p x : ℕ) → x ∈ walked m (p + 1) → (x ∈ walked m p) ⊎ (root_at m p ≡ Some x)
place_gives m p x h = elim (in_append x (walked m p) (option_to_list (root_at m p)) (subst (λ l. x ∈ l) (walked_more m p) h)) [
  | inl o ↦ inl o
  | inr n ↦ inr (in_option x (root_at m p) n)
]

pub place_from : (m : Table Session) (p x : ℕ) → (x ∈ walked m p) ⊎ (root_at m p ≡ Some x) → x ∈ walked m (p + 1)
place_from m p x h = subst (λ l. x ∈ l) (sym (walked_more m p)) (elim h [
  | inl o ↦ in_left x (walked m p) (option_to_list (root_at m p)) o
  | inr n ↦ in_right x (walked m p) (option_to_list (root_at m p)) (option_in x (root_at m p) n)
])

-- the root at a place is found by a walk over more places
pub place_in : (m : Table Session) (n p x : ℕ) → p < n → root_at m p ≡ Some x → x ∈ walked m n
place_in m zero p x l e = absurd (omega (arith, l))
place_in m (suc n) p x l e = subst (λ k. x ∈ walked m k) (add-one n) (elim (cases_eq p n) [
  | inl same ↦ place_from m n x (inr (subst (λ k. root_at m k ≡ Some x) same e))
  | inr other ↦ place_from m n x (inl (place_in m n p x (omega (arith, l, other)) e))
])
