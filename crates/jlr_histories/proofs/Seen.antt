-- What is seen now: in an open cycle what was seen, and what the roots reach.
use Rattle.std.proofs.Common.{◌≡◌, ℕ, Bool, true, false, ◌||◌, List, [], length, ◌⊎◌, inl, inr, refl, ◌<◌, arith}
use Rattle.std.proofs.lemmas.Bool.{both_ways, or_cases, or_left, or_right}
use Rattle.jlr_machine.specs.declared.machine.Machine.{Machine}
use Rattle.jlr_machine.specs.Objects.{◌∋◌, ◌∈◌}
use Rattle.jlr_machine.specs.Edges.{roots}
use Rattle.jlr_machine.specs.Edges.Chain.{UpToSoft}
use Rattle.jlr_machine.specs.Reachable.{IsReached}
use Rattle.jlr_machine.specs.ReachSet.{reach_set, up_to}
use Rattle.jlr_machine.specs.Run.{seen_with, now_seen}
use Rattle.jlr_laws.specs.Laws.{IsWithinHeap}
use Rattle.jlr_laws.proofs.Sets.{nothing, filter_in, in_filter, up_to_in}
use Rattle.jlr_laws.proofs.Paths.{reached_below}
use Rattle.jlr_laws.proofs.LawProofs.{rounds_find_what_paths_reach}

module _ (n : Machine) where
  abbrev reach : List ℕ
  reach = reach_set UpToSoft n.objects (roots n)

  abbrev Reached : ℕ → Type 0
  Reached s = IsReached UpToSoft n.objects (roots n) s

  -- by whether a cycle is open
  abbrev seen_when : Bool → List ℕ
  seen_when b = elim b as (λ _. List ℕ) [ true ↦ seen_with n.seen reach (length n.objects) | false ↦ [] ]

  gives_when : (b : Bool) (s : ℕ) → s ∈ seen_when b → (b ≡ true) × ((s ∈ n.seen) ⊎ (s ∈ reach))
  gives_when true s h =
      (refl, or_cases (n.seen ∋ s) (reach ∋ s) (in_filter (λ s. (n.seen ∋ s) || (reach ∋ s)) (up_to 0 (length n.objects)) s h).0)
  gives_when false s h = nothing s h

  holds_when : (b : Bool) (s : ℕ) → b ≡ true → ((n.seen ∋ s) || (reach ∋ s)) ≡ true → s < length n.objects → s ∈ seen_when b
  holds_when true s e h below = filter_in (λ s. (n.seen ∋ s) || (reach ∋ s)) (up_to 0 (length n.objects)) s h
      (up_to_in 0 (length n.objects) s (omega arith) (omega (arith, below)))
  holds_when false s e h below = absurd (both_ways false refl e)

  none_when : (b : Bool) → b ≡ false → seen_when b ≡ []
  none_when true e = absurd (both_ways true e refl)
  none_when false e = refl

  pub now_seen_gives : IsWithinHeap n.objects (roots n) → (s : ℕ) → s ∈ now_seen n → (n.cycle_open ≡ true) × ((s ∈ n.seen) ⊎ Reached s)
  now_seen_gives within s h =
      let given = gives_when n.cycle_open s h in (
        given.0,
        elim given.1 [
          | inl before ↦ inl before
          | inr r ↦
              inr ((rounds_find_what_paths_reach UpToSoft n.objects (roots n) within s).0 r)
        ],
      )

  pub reached_is_seen : IsWithinHeap n.objects (roots n) → (s : ℕ) → n.cycle_open ≡ true → Reached s → s ∈ now_seen n
  reached_is_seen within s e r =
      let found = (rounds_find_what_paths_reach UpToSoft n.objects (roots n) within s).1 r in
      holds_when n.cycle_open s e (or_right (n.seen ∋ s) (reach ∋ s) found) (reached_below UpToSoft n.objects (roots n) s found)

  pub seen_is_seen : (s : ℕ) → n.cycle_open ≡ true → s ∈ n.seen → s < length n.objects → s ∈ now_seen n
  seen_is_seen s e h below = holds_when n.cycle_open s e (or_left (n.seen ∋ s) (reach ∋ s) h) below

  pub none_seen : n.cycle_open ≡ false → now_seen n ≡ []
  none_seen e = none_when n.cycle_open e
