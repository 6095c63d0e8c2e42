-- The least set of a policy: what a marker finds that follows some of the soft references.
use Rattle.std.proofs.Common.{◌≡◌, ℕ, Bool, true, false, cond, List, [], ◌∷◌, refl, subst, inl, inr}
use Rattle.std.proofs.lemmas.Bool.{both_ways}
use Rattle.jlr_machine.specs.Objects.{Heap, ◌∈◌}
use Rattle.jlr_machine.specs.Edges.{edges_from}
use Rattle.jlr_machine.specs.Reachable.{IsReached}
use Rattle.jlr_machine.specs.Edges.Chain.{Strong, UpToSoft}
use Rattle.jlr_laws.specs.Laws.{only, followed, IsPathFollowed, IsLeastMarking}
use Rattle.jlr_laws.proofs.Clearing.{HasEdge, edge_gives, edge_from}
use Rattle.jlr_laws.proofs.Agree.{one_edge_more, carried, at_base}
use Rattle.jlr_laws.proofs.Only.{inside_forth}

strong_is_soft : (heap : Heap) (x y : ℕ) → HasEdge Strong heap x y → HasEdge UpToSoft heap x y
strong_is_soft heap x y (inl e) = inl e
strong_is_soft heap x y (inr e) = absurd (both_ways false refl e.1)

followed_softly : (keeps : ℕ → Bool) (heap : Heap) (x y : ℕ) → y ∈ followed keeps heap x → HasEdge UpToSoft heap x y
followed_softly keeps heap x y =
    elim (keeps x) as (λ b. y ∈ edges_from (cond b UpToSoft Strong) heap x → HasEdge UpToSoft heap x y) [
      | true ↦ edge_gives UpToSoft heap x y
      | false ↦ λ h. strong_is_soft heap x y (edge_gives Strong heap x y h)
    ]

strong_followed : (keeps : ℕ → Bool) (heap : Heap) (x y : ℕ) → y ∈ edges_from Strong heap x → y ∈ followed keeps heap x
strong_followed keeps heap x y h =
    elim (keeps x) as (λ b. y ∈ edges_from (cond b UpToSoft Strong) heap x) [
      | true ↦ edge_from UpToSoft heap x y (strong_is_soft heap x y (edge_gives Strong heap x y h))
      | false ↦ h
    ]

module _ (keeps : ℕ → Bool) (heap : Heap) (B kept : List ℕ) (c : IsLeastMarking keeps heap B kept) where
  -- what holds of the base and goes along each followed edge between kept objects holds of all that is kept
  module _ (P : ℕ → Type 0) (step : (x y : ℕ) → P x → x ∈ kept → y ∈ followed keeps heap x → P y) where
    along_followed : (x : ℕ) (path : List ℕ) (y : ℕ) → P x → x ∈ kept → IsPathFollowed keeps heap x path y → P y
    along_followed x [] y p m e = subst P e p
    along_followed x (z ∷ path) y p m h = along_followed z path y (step x z p m h.0) (c.closed x z m h.0) h.1

    carried_over : ((s : ℕ) → s ∈ B → P s) → (s : ℕ) → s ∈ kept → P s
    carried_over base s m = let r = c.least s m in along_followed r.0 r.2 s (base r.0 r.1) (c.holds_base r.0 r.1) r.3

  pub closed_strongly : (x y : ℕ) → x ∈ kept → y ∈ edges_from Strong heap x → y ∈ kept
  closed_strongly x y m e = c.closed x y m (strong_followed keeps heap x y e)

  pub inside_of_least : (s : ℕ) → s ∈ kept → IsReached UpToSoft (only kept heap) B s
  inside_of_least =
      carried_over (IsReached UpToSoft (only kept heap) B)
      (λ x y r m e. one_edge_more UpToSoft (only kept heap) B x y r
      (inside_forth UpToSoft heap kept x y m (followed_softly keeps heap x y e)))
      (at_base UpToSoft (only kept heap) B)

  -- ---- A policy that keeps none

  pub least_is_strong : ((s : ℕ) → keeps s ≡ false) → (s : ℕ) → s ∈ kept → IsReached Strong heap B s
  least_is_strong none =
      carried_over (IsReached Strong heap B)
      (λ x y r m e. one_edge_more Strong heap B x y r
      (edge_gives Strong heap x y (subst (λ b. y ∈ edges_from (cond b UpToSoft Strong) heap x) (none x) e)))
      (at_base Strong heap B)

  pub strong_is_least : (s : ℕ) → IsReached Strong heap B s → s ∈ kept
  strong_is_least s r =
      carried Strong heap B (λ s. s ∈ kept) (λ x y m e. closed_strongly x y m (edge_from Strong heap x y e)) c.holds_base s r
