-- Where slots stand in the lists of a well-formed machine.
use Rattle.std.proofs.Common.{◌≡◌, ℕ, not, List, [], ◌∷◌, drop, IsTrue, Some, option_and_then, sym, ◌∙◌, ap, subst, inl, inr}
use Rattle.std.specs.Prelude.{slice_get}
use Rattle.std.proofs.lemmas.Bool.{and_parts, both_ways, not-true}
use Rattle.jlr_machine.specs.declared.machine.Machine.{Machine}
use Rattle.jlr_machine.specs.declared.object.Object.{Object}
use Rattle.jlr_machine.specs.declared.object.Cleanable.{Cleanable as CleanableOf}
use Rattle.jlr_machine.specs.declared.object.CleanState.TheVariants.{Pending, Lined, Spent}
use Rattle.jlr_machine.specs.Objects.{◌∈◌, ◌∋◌, as_cleanable, at, is_distinct}
use Rattle.jlr_machine.specs.WellFormed.{IsCleanableAt, IsWellFormed, clean_state_at}
use Rattle.jlr_laws.proofs.Allowed.{some_there}
use Rattle.jlr_laws.proofs.Frames.{no_some, root_from, some_same}
use Rattle.jlr_laws.proofs.Frames.IsRoot.{waiting}

pub pending_there : (m : Machine) (s : ℕ) → IsWellFormed m → s ∈ m.pending → (o : Object) × (at m.objects s ≡ Some o)
pending_there m s w h = some_there (at m.objects s) (w.slots.roots s (root_from m s (waiting h)))

-- a cleanable that is Pending is not in the line
pub not_in_line : (m : Machine) (s : ℕ) (c : CleanableOf) → IsWellFormed m → IsCleanableAt m s c → c.state ≡ Pending → s ∈ m.line → ⊥
not_in_line m s c w there waits h =
    let state : clean_state_at m s ≡ Some Pending = ap (λ o. option_and_then (λ c. Some c.state) (option_and_then as_cleanable o)) there
    ∙ ap (λ z. Some z) waits in
    elim (w.lists.line_others s h) [
      | inl f ↦ let both : Pending ≡ Lined = some_same Pending Lined (sym state ∙ f) in absurd (cc both)
      | inr f ↦ let both : Pending ≡ Spent = some_same Pending Spent (sym state ∙ f) in absurd (cc both)
    ]

-- what stood at the front of a list without repeats is not in what is left of it
pub gone_from_front : (l : List ℕ) (s : ℕ) → IsTrue (is_distinct l) → slice_get l 0 ≡ Some s → s ∈ drop 1 l → ⊥
gone_from_front [] s once first h = no_some s first
gone_from_front (x ∷ l) s once first h =
    both_ways (l ∋ x) (not-true (l ∋ x) (and_parts (not (l ∋ x)) (is_distinct l) once).0) (subst (λ y. y ∈ l) (sym (some_same x s first)) h)
