-- A marking from its beginning until no cell is grey.
use Rattle.std.proofs.Common.{◌≡◌, ℕ, ◌+◌, ◌*◌, ◌/◌, ◌<◌, ◌≤◌, ◌⊎◌, ◌↔◌, inl, inr, Bool, false, List, [], length, Option, Some, None, arith}
use Rattle.std.proofs.Common.{refl, sym, subst, ap, ◌∙◌}
use Rattle.std.proofs.lemmas.Bool.{both_ways, cases_eq, false_from_ne_true}
use Rattle.jlr_machine.specs.Objects.{Heap, at, ◌∈◌, ◌∋◌}
use Rattle.jlr_laws.specs.Laws.{followed}
use Rattle.jlr_laws.proofs.Frames.{place_within}
use Rattle.jlr_laws.proofs.Sets.{nothing}
use Rattle.jlr_marks.specs.Marking.{Marking, IsMarked, Shaded, is_marked, place, place_in, unmarked, upcoming}
use Rattle.jlr_barrier.specs.Parts.{IsBegun, next_at, ticks_at}
use Rattle.jlr_marker.specs.Following.{IsFollowed, Ticks}
use Rattle.jlr_marker.specs.Spending.{elements_at, so_far, ticks_spent, spent_at, ticks_for}
use Rattle.jlr_marker.specs.Marks.{Blackening, IsPassedIn}
use Rattle.jlr_marker.proofs.Elements.{array_edge, array_no_soft}
use Rattle.jlr_marker.proofs.Following.{along, follows_base, followed_gives, none_in_unmarked}
use Rattle.jlr_marker.proofs.Passing.{GoesOn, goes_on_here, nothing_passed, one_goes_on, one_passed, one_spent, one_within, other_upcoming}
use Rattle.jlr_marker.proofs.Passing.{same_spent, slot_grey}
use Rattle.jlr_marker.proofs.Totals.{by_cases, colour_black, colour_grey, colour_white, total_bounded, total_less, total_nothing, total_one}
use Rattle.jlr_marker.proofs.Totals.{total_within}

module _ (heap : Heap) (B : List ℕ) (n : ℕ) (first : Marking) (s : Shaded (λ x. x ∈ B) (unmarked n) first) where
  -- what is marked at first is grey, and of the base
  at_first : (x : ℕ) → IsMarked first x → (x ∈ B) × (x ∈ first.grey)
  at_first x h = elim (s.added x h) [ inl o ↦ absurd (none_in_unmarked n x o) | inr a ↦ a ]

  no_place : (x : ℕ) → place first x ≡ 0
  no_place x = ap (λ p. place_in p x) s.part_same

  none_followed : (x k : ℕ) → so_far first x k ≡ 0
  none_followed x k =
      by_cases first x (λ white. colour_white first x (place first x) k white)
      (λ on grey. colour_grey first x (place first x) k on grey ∙ no_place x)
      (λ on dark. absurd (both_ways (first.grey ∋ x) dark (at_first x on).1))

  none_spent_at : (x : ℕ) → spent_at heap first x ≡ 0
  none_spent_at x =
      by_cases first x (λ white. colour_white first x (place first x / 64) (ticks_at heap x) white)
      (λ on grey. colour_grey first x (place first x / 64) (ticks_at heap x) on grey ∙ ap (λ p. p / 64) (no_place x))
      (λ on dark. absurd (both_ways (first.grey ∋ x) dark (at_first x on).1))

  pub none_spent : ticks_spent heap first ≡ 0
  none_spent = total_nothing (spent_at heap first) (length heap) none_spent_at

  pub none_spent_within : (x : ℕ) → spent_at heap first x ≤ 64
  none_spent_within x = omega (arith, none_spent_at x)

  module _ (keeps : ℕ → Bool) (ticks : ℕ) (m : Marking) (b : Blackening keeps heap ticks first m) where
    pub sound : (x : ℕ) → IsMarked m x → IsFollowed keeps heap B x
    sound x h = elim (b.reached x h) [
      | inl o ↦ follows_base keeps heap B x (at_first x o).0
      | inr r ↦
          (r.0, (at_first r.0 r.2).0, r.3, r.4)
    ]

    module _ (none : m.grey ≡ []) where
      not_grey : (x : ℕ) → (m.grey ∋ x) ≡ false
      not_grey x = false_from_ne_true (m.grey ∋ x) (λ h. nothing x (subst (λ l. x ∈ l) none h))

      grey_or_white : (x : ℕ) → (x ∈ first.grey) ⊎ (¬ (IsMarked first x))
      grey_or_white x = by_cases first x (λ white. inr (λ on. both_ways (is_marked first x) white on)) (λ on grey. inl grey)
          (λ on dark. absurd (both_ways (first.grey ∋ x) dark (at_first x on).1))

      passed : (o : Option (List (Option ℕ))) (x y : ℕ) → elements_at heap x ≡ o → IsMarked m x → y ∈ followed keeps heap x
          → IsPassedIn o keeps heap first m x y
      passed (Some e) x y there on h = elim (followed_gives keeps heap x y h) [
        | inl strong ↦
            let r = array_edge (at heap x) e y there strong in
            let below = place_within e r.0 y r.1 in (
              r.0,
              omega (arith, none_followed x (length e)),
              omega (arith, below, colour_black m x (place m x) (length e) on (not_grey x)),
              r.1,
            )
        | inr soft ↦ array_no_soft (at heap x) e y there soft.1
      ]
      passed None x y there on h = ((on, (λ g. both_ways (m.grey ∋ x) (not_grey x) g), grey_or_white x), h)

      closed : (x y : ℕ) → IsMarked m x → y ∈ followed keeps heap x → IsMarked m y
      closed x y on h = b.follows x y (passed (elements_at heap x) x y refl on h)

      -- with no grey slot left, exactly what is followed is marked
      pub exactly : (x : ℕ) → IsMarked m x ↔ IsFollowed keeps heap B x
      exactly x = (sound x, (λ f. along keeps heap B (IsMarked m) closed f.0 f.2 x (b.kept f.0 (s.all f.0 f.1)) f.3))

-- ---- Part by part

-- While edges are followed from B, so many ticks at most were spent on each object
pub record IsMarking (keeps : ℕ → Bool) (heap : Heap) (B : List ℕ) (n : ℕ) (m : Marking) : Type 0 where
  pub first : Marking
  pub begun : Shaded (λ x. x ∈ B) (unmarked n) first
  pub ticks : ℕ
  pub blackening : Blackening keeps heap ticks first m
  pub on : GoesOn first m
  pub each : (x : ℕ) → spent_at heap m x ≤ 64

module _ (keeps : ℕ → Bool) (heap : Heap) (B : List ℕ) (n : ℕ) where
  pub marking_begins : (m : Marking) → Shaded (λ x. x ∈ B) (unmarked n) m → IsMarking keeps heap B n m
  marking_begins m s = record {
    first = m;
    begun = s;
    ticks = 0;
    blackening = nothing_passed keeps heap m;
    on = goes_on_here m;
    each = none_spent_within heap B n m s;
  }

  module _ (cur new : Marking) (slot : ℕ) (i : IsMarking keeps heap B n cur) (f : Ticks keeps heap slot cur new)
      (up : upcoming cur ≡ Some slot) (top : IsMarked cur slot) (inside : slot < length heap)
      (begun : IsBegun heap (place cur slot) slot) where
    abbrev more : Option ℕ
    more = next_at heap (place cur slot) slot

    pub marking_goes_on : ticks_at heap slot ≤ 64 → IsMarking keeps heap B n new
    marking_goes_on few = record {
      first = i.first;
      begun = i.begun;
      ticks = i.ticks + 1;
      blackening = one_passed keeps heap i.ticks i.first cur new slot more i.blackening i.on f refl up top inside begun;
      on = one_goes_on keeps heap i.ticks i.first cur new slot more i.blackening i.on f refl up top inside begun;
      each = one_within keeps heap i.ticks i.first cur new slot more i.blackening i.on f refl up top inside begun few i.each;
    }

    pub marking_spends : ticks_spent heap new ≡ ticks_spent heap cur + 1
    marking_spends =
        total_one (spent_at heap cur) (spent_at heap new) (length heap) slot inside
        (same_spent keeps heap i.ticks i.first cur new slot more i.blackening i.on f refl up top inside begun)
        (one_spent keeps heap i.ticks i.first cur new slot more i.blackening i.on f refl up top inside begun)

    pub slot_is_grey : slot ∈ cur.grey
    slot_is_grey = slot_grey keeps heap i.ticks i.first cur new slot more i.blackening i.on f refl up top inside begun

  pub marking_within : (m : Marking) → IsMarking keeps heap B n m → ticks_spent heap m ≤ 64 * length heap
  marking_within m i = total_bounded (spent_at heap m) 64 (length heap) i.each

  -- with no grey slot left, exactly what is followed is marked
  pub marking_ends : (m : Marking) → IsMarking keeps heap B n m → m.grey ≡ [] → (x : ℕ) → IsMarked m x ↔ IsFollowed keeps heap B x
  marking_ends m i none x = exactly heap B n i.first i.begun keeps i.ticks m i.blackening none x

  pub marking_sound : (m : Marking) → IsMarking keeps heap B n m → (x : ℕ) → IsMarked m x → IsFollowed keeps heap B x
  marking_sound m i x h = sound heap B n i.first i.begun keeps i.ticks m i.blackening x h

-- while a slot is grey, fewer ticks were spent than all objects take
pub spent_below : (heap : Heap) (m : Marking) (slot : ℕ) → upcoming m ≡ Some slot → IsMarked m slot → slot ∈ m.grey → slot < length heap
    → IsBegun heap (place m slot) slot → ticks_spent heap m < ticks_for heap
spent_below heap m slot up on grey inside begun =
    let here = colour_grey m slot (place m slot / 64) (ticks_at heap slot) on grey in
    let less : spent_at heap m slot < ticks_at heap slot = omega (arith, here, begun.1, begun.2) in
    total_less (spent_at heap m) (ticks_at heap) (length heap) slot inside
    (λ x. by_cases m x (λ white. omega (arith, colour_white m x (place m x / 64) (ticks_at heap x) white))
    (λ was is_grey. elim (cases_eq x slot) [
      | inl is ↦ subst (λ z. spent_at heap m z ≤ ticks_at heap z) (sym is) (omega (arith, less))
      | inr other ↦ omega (
        arith,
        colour_grey m x (place m x / 64) (ticks_at heap x) was is_grey,
        other_upcoming m.part m.grey slot x up other,
      )
    ])
    (λ was dark. omega (arith, colour_black m x (place m x / 64) (ticks_at heap x) was dark)))
    less

-- with no grey slot left, no more ticks were spent than all objects take
pub spent_within : (heap : Heap) (m : Marking) → m.grey ≡ [] → ticks_spent heap m ≤ ticks_for heap
spent_within heap m none =
    total_within (spent_at heap m) (ticks_at heap) (length heap)
    (λ x. by_cases m x (λ white. omega (arith, colour_white m x (place m x / 64) (ticks_at heap x) white))
    (λ on grey. nothing x (subst (λ l. x ∈ l) none grey))
    (λ on dark. omega (arith, colour_black m x (place m x / 64) (ticks_at heap x) on dark)))
