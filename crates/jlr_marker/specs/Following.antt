-- Which soft references a collector follows, where that leads, and what one tick follows.
use Rattle.std.specs.Prelude.{◌≡◌, ℕ, ◌⊎◌, Bool, true, List, ◌∷◌, Option, Some, None, IsPermutation, option_and_then}
use Rattle.std.specs.Prelude.{slice_index_or}
use Rattle.jlr_machine.specs.Objects.{Heap, at, ◌∈◌}
use Rattle.jlr_types.specs.declared.RefKind.TheVariants.{Soft}
use Rattle.jlr_machine.specs.Edges.{referent}
use Rattle.jlr_laws.specs.Laws.{IsPathFollowed}
use Rattle.jlr_soft.specs.Keeping.{is_kept_in}
use Rattle.jlr_soft.specs.declared.policy.Policy.{Policy}
use Rattle.jlr_marks.specs.declared.part.Part.{Part}
use Rattle.jlr_marks.specs.Marking.{Marking, Shaded, place}
use Rattle.jlr_barrier.specs.Graphs.{Clock}
use Rattle.jlr_barrier.specs.Parts.{next_at, part_at}

-- whether the policy keeps the soft reference at a slot
abbrev pub keeps : Policy → Clock → ℕ → Bool
keeps policy clock s = is_kept_in policy.mode policy.soft_age (slice_index_or clock.last_gets s 0) clock.collections

-- what the object at a slot refers to, if it is a soft reference
abbrev pub soft_at : Heap → ℕ → Option ℕ
soft_at heap s = option_and_then (referent Soft) (at heap s)

-- what one tick at a slot follows, from the place reached on: a part of its strong edges, and the referent of a soft
-- reference that is kept
abbrev pub IsTicked : (ℕ → Bool) → Heap → ℕ → ℕ → ℕ → Type 0
IsTicked kept heap from s y = (y ∈ part_at heap from s) ⊎ ((kept s ≡ true) × (soft_at heap s ≡ Some y))

-- the slot among the others that are grey, where more of it is to be followed, from a place on
abbrev pub grey_still : Option ℕ → ℕ → List ℕ → List ℕ
grey_still (Some p) slot rest = slot ∷ rest
grey_still None slot rest = rest

abbrev pub part_still : Option ℕ → ℕ → Option Part
part_still (Some p) slot = Some (record { slot = slot; place = p })
part_still None slot = None

-- The slot was grey, and the members of T were shaded. Where there is more of it to follow it is grey still, and comes
-- next; else it is grey no more
pub record FollowsSlot (T : ℕ → Type 0) (slot : ℕ) (more : Option ℕ) (old new : Marking) : Type 0 where
  -- the other grey slots, and the marks before T was shaded
  pub rest : List ℕ
  pub off : Marking
  pub same_bits : off.bits ≡ old.bits
  pub taken : IsPermutation old.grey (slot ∷ rest)
  pub gone : ¬ (slot ∈ rest)
  pub grey : off.grey ≡ grey_still more slot rest
  pub part : off.part ≡ part_still more slot
  pub shaded : Shaded T off new

-- one tick at a slot
abbrev pub Ticks : (ℕ → Bool) → Heap → ℕ → Marking → Marking → Type 0
Ticks kept heap slot old new =
    FollowsSlot (λ y. IsTicked kept heap (place old slot) slot y) slot (next_at heap (place old slot) slot) old new

-- s is in B, or the edges that a marker follows lead to it from there
abbrev pub IsFollowed : (ℕ → Bool) → Heap → List ℕ → ℕ → Type 0
IsFollowed kept heap B s = (x : ℕ) × (x ∈ B) × (path : List ℕ) × IsPathFollowed kept heap x path s
