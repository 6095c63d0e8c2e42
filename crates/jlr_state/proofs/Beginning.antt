-- A cycle begins, and a piece of its marking.
use Rattle.std.proofs.Common.{◌≡◌, ◌-◌, ℕ, Bool, true, false, inl, inr, List, [], ◌∷◌, length, refl, sym, subst, arith}
use Rattle.jlr_types.specs.declared.Progress.{Progress}
use Rattle.jlr_types.specs.declared.Progress.TheVariants.{Idle}
use Rattle.jlr_machine.specs.declared.machine.Machine.{Machine}
use Rattle.jlr_machine.specs.Objects.{Heap, ◌∈◌}
use Rattle.jlr_machine.specs.Edges.{roots}
use Rattle.jlr_machine.specs.Edges.Chain.{UpToSoft}
use Rattle.jlr_machine.specs.Reachable.{IsPath}
use Rattle.jlr_machine.specs.WellFormed.{IsWellFormed}
use Rattle.jlr_laws.specs.Laws.{IsPathFollowed}
use Rattle.jlr_soft.specs.declared.policy.Policy.{Policy}
use Rattle.jlr_soft.specs.declared.policy.Mode.TheVariants.{Policy as PolicyMode}
use Rattle.jlr_marks.specs.Marking.{Marking, IsMarked, Shaded, unmarked}
use Rattle.jlr_barrier.specs.Graphs.{Clock, Graph, held}
use Rattle.jlr_barrier.proofs.Ending.{none_marked}
use Rattle.jlr_marker.specs.Following.{keeps}
use Rattle.jlr_marker.specs.Marks.{Blackening, MarksOn}
use Rattle.jlr_marker.proofs.Following.{followed_is_soft, none_counted}
use Rattle.jlr_sweep.proofs.Kept.{held_root}
use Rattle.jlr_cleaner.specs.Cleanings.{Cleanings}
use Rattle.jlr_state.specs.State.{frame, machine_with}
use Rattle.jlr_state.specs.Marks.{BeginsCycle, MarksPiece, MarksReached, ticks_between}
use Rattle.jlr_state.proofs.Clearings.{same_policy}
use Rattle.jlr_state.proofs.Roots.{rooted}

-- ---- A cycle begins

module _ {R : Type 0} (c : Cleanings R) (g : Graph) (cycle : Bool) (k : Marking) (w : IsWellFormed (machine_with c g cycle))
    (shaded : Shaded (λ x. x ∈ held g) (unmarked (length g.objects)) k) where
  marked_root : (s : ℕ) → IsMarked k s → s ∈ roots (machine_with c g true)
  marked_root s h = elim (shaded.added s h) [
    | inl none ↦ none_marked (length g.objects) s none
    | inr t ↦ held_root (frame c cycle) g (rooted c g cycle w) s t.0
  ]

  pub begins_cycle : BeginsCycle (machine_with c g true) k
  begins_cycle = record {
    begun = λ s. (marked_root s, (λ root. shaded.all s ((rooted c g cycle w).all_held s root)));
    none_black =
        omega (arith, shaded.black_same, none_counted (unmarked (length g.objects)).bits (λ x h. none_marked (length g.objects) x h));
    no_part = shaded.part_same;
  }

  pub begins_reached : (old : Marking) → MarksReached (machine_with c g cycle) old (machine_with c g true) k
  begins_reached old = λ _ s h. inr (marked_root s h)

-- ---- A piece of marking

-- as many ticks as were spent
ticks_are : (keeps : ℕ → Bool) (heap : Heap) (ticks : ℕ) (old new : Marking) → Blackening keeps heap ticks old new
    → ticks ≡ ticks_between heap old new
ticks_are keeps heap ticks old new b = omega (arith, b.spends)

pub piece_in_cycle : (m : Machine) (old new : Marking) (condemned left budget ticks age : ℕ) (clock : Clock) (policy : Policy)
    (progress : Progress) → policy.soft_age ≡ age → policy.mode ≡ PolicyMode → m.cycle_open ≡ true
    → MarksOn (keeps policy clock) m.objects budget ticks progress old new → left ≡ condemned
    → MarksPiece budget age clock m old condemned progress new left
piece_in_cycle m old new condemned left budget ticks age clock policy progress same_age same_mode still marks same =
    let p : Policy = record { soft_age = age; mode = PolicyMode } in
    let by_policy : MarksOn (keeps p clock) m.objects budget ticks progress old new =
    subst (λ (x : Policy). MarksOn (keeps x clock) m.objects budget ticks progress old new) (same_policy policy p same_age same_mode)
    marks in
    subst (λ b. elim b as (λ _. Type 0) [
      | true ↦ MarksOn (keeps p clock) m.objects budget (ticks_between m.objects old new) progress old new
          × (left ≡ condemned)
      | false ↦ (progress ≡ Idle) × (new ≡ old) × (left ≡ condemned - budget)
    ]) (sym still) (
      subst (λ t. MarksOn (keeps p clock) m.objects budget t progress old new)
          (ticks_are (keeps policy clock) m.objects ticks old new marks.blackening) by_policy,
      same,
    )

soft_path : (kept : ℕ → Bool) (heap : Heap) (x : ℕ) (path : List ℕ) (y : ℕ) → IsPathFollowed kept heap x path y
    → IsPath UpToSoft heap x path y
soft_path kept heap x [] y p = p
soft_path kept heap x (z ∷ path) y p = (followed_is_soft kept heap x z p.0, soft_path kept heap z path y p.1)

pub piece_reached : (m : Machine) (old new : Marking) (kept : ℕ → Bool) (budget ticks : ℕ) (progress : Progress)
    → MarksOn kept m.objects budget ticks progress old new → MarksReached m old m new
piece_reached m old new kept budget ticks progress marks = λ _ s h. elim (marks.blackening.reached s h) [
  | inl was ↦ inl (s, inr was, ([], refl))
  | inr f ↦ inl (f.0, inr f.2, (f.3, soft_path kept m.objects f.0 f.3 s f.4))
]
