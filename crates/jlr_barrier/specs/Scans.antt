-- What it is to follow a part of the edges of a grey object.
use Rattle.std.specs.Prelude.{◌≡◌, ℕ, Bool, not, cond, [], ◌∷◌, ◌++◌, Option, Some, None, IsPermutation}
use Rattle.jlr_machine.specs.declared.object.Object.{Object}
use Rattle.jlr_machine.specs.Objects.{Heap, any_referent, at, some_and, ◌∈◌}
use Rattle.jlr_marks.specs.Marking.{Marking, Shaded, is_marked, place}
use Rattle.jlr_barrier.specs.Parts.{next_at, part_at}

-- an object that refers to one that is not marked
abbrev pub awaits : Marking → Object → Bool
awaits m o = some_and (λ x. not (is_marked m x)) (any_referent o)

-- The slot was grey, and is taken off the grey ones; then what a part of its edges leads to, from the place reached on,
-- was shaded
pub record FollowedPart (heap : Heap) (slot : ℕ) (old off on : Marking) : Type 0 where
  pub same_bits : off.bits ≡ old.bits
  pub taken : IsPermutation old.grey (slot ∷ off.grey)
  pub gone : ¬ (slot ∈ off.grey)
  pub same_discovered : off.discovered ≡ old.discovered
  pub no_part : off.part ≡ None
  pub shaded : Shaded (λ x. x ∈ part_at heap (place old slot) slot) off on

-- There is more to follow, from the place p on: the slot is grey again, and comes next
pub record ScannedPart (heap : Heap) (slot p : ℕ) (old new : Marking) : Type 0 where
  -- the marks once it is taken off, and once a part of its edges was followed
  pub off : Marking
  pub on : Marking
  pub followed : FollowedPart heap slot old off on
  pub bits : new.bits ≡ on.bits
  pub grey : new.grey ≡ slot ∷ on.grey
  pub discovered : new.discovered ≡ on.discovered
  pub part : new.part ≡ Some (record { slot = slot; place = p })

-- Nothing more is to follow: the slot is black, and it is discovered, if it refers to an object that is not marked then
pub record ScannedLast (heap : Heap) (slot : ℕ) (old new : Marking) : Type 0 where
  pub off : Marking
  pub on : Marking
  pub followed : FollowedPart heap slot old off on
  pub bits : new.bits ≡ on.bits
  pub grey : new.grey ≡ on.grey
  pub discovered : new.discovered ≡ on.discovered ++ cond (some_and (awaits on) (at heap slot)) (slot ∷ []) []
  pub part : new.part ≡ None

abbrev pub ScannedTo : Option ℕ → Heap → ℕ → Marking → Marking → Type 0
ScannedTo None heap slot old new = ScannedLast heap slot old new
ScannedTo (Some p) heap slot old new = ScannedPart heap slot p old new

-- one part of the edges at the slot was followed, from the place reached on
abbrev pub Scanned : Heap → ℕ → Marking → Marking → Type 0
Scanned heap slot old new = ScannedTo (next_at heap (place old slot) slot) heap slot old new
