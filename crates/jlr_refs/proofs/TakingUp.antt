-- The first Lined cleanable leaves the line, as the machine has it.
use Rattle.std.proofs.Common.{◌≡◌, ℕ, List, [], ◌∷◌, drop, Some, None, sym, ◌∙◌, ap}
use Rattle.std.specs.Prelude.{slice_get}
use Rattle.jlr_machine.specs.declared.machine.Machine.{Machine}
use Rattle.jlr_machine.specs.declared.object.Cleanable.{Cleanable as CleanableOf}
use Rattle.jlr_machine.specs.Objects.{at}
use Rattle.jlr_machine.specs.Calls.{from_lined}
use Rattle.jlr_machine.specs.Run.{empty}
use Rattle.jlr_barrier.specs.Graphs.{Graph, in_machine, with_line}
use Rattle.jlr_refs.specs.Parts.{HasNoneLined, lined_in}
use Rattle.jlr_refs.proofs.Lining.{cut_at_front, cut_of_none, no_front, none_in_cut}

-- only the line has changed, and it has lost nothing from its first Lined cleanable on
pub record IsShorter (old now : Graph) : Type 0 where
  pub only_line : now ≡ with_line old now.line
  pub cut : (m : Machine) → from_lined (in_machine m old) now.line ≡ from_lined (in_machine m old) old.line

module _ (g now next : Graph) (s : ℕ) (i : IsShorter g now) (first : slice_get now.line 0 ≡ Some s)
    (taken : next ≡ with_line now (drop 1 now.line)) where
  shorter : next ≡ with_line g (drop 1 now.line)
  shorter = taken ∙ ap (λ (k : Graph). with_line k (drop 1 now.line)) i.only_line

  cut_here : (c : CleanableOf) → lined_in (at next.objects s) ≡ Some c → (m : Machine)
      → from_lined (in_machine m g) g.line ≡ s ∷ drop 1 now.line
  cut_here c some m =
      sym (i.cut m) ∙ cut_at_front (in_machine m g) now.line s c first (sym (ap (λ (k : Graph). lined_in (at k.objects s)) shorter) ∙ some)

  pub one_is_lined : (c : CleanableOf) → lined_in (at next.objects s) ≡ Some c → HasNoneLined g.objects g.line → ⊥
  one_is_lined c some none =
      let m = in_machine (empty 0 0 0) g in
      let wrong : ◌≡◌ {A = List ℕ} (s ∷ drop 1 now.line) [] = sym (cut_here c some (empty 0 0 0)) ∙ cut_of_none m g.line none in
      absurd (cc wrong)

module _ (g now next : Graph) (i : IsShorter g now) (none : slice_get now.line 0 ≡ None)
    (taken : next ≡ with_line now (drop 1 now.line)) where
  cut_empty : (m : Machine) → from_lined (in_machine m g) g.line ≡ []
  cut_empty m = sym (i.cut m) ∙ ap (from_lined (in_machine m g)) (no_front now.line none)

  pub none_is_lined : HasNoneLined g.objects g.line
  none_is_lined = none_in_cut (in_machine (empty 0 0 0) g) g.line (cut_empty (empty 0 0 0))
