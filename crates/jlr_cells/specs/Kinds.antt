-- The kinds by slot, and where cleanables and arrays are found.
use Rattle.std.specs.Prelude.{◌≡◌, ℕ, Bool, true, List, Option, Some, None, length, slice_index_or}
use Rattle.jlr_sets.specs.SlotSets.{is_in}
use Rattle.jlr_cells.specs.declared.shape.Kind.{Kind}
use Rattle.jlr_cells.specs.declared.shape.Kind.TheVariants.{Array, Cleanable}
use Rattle.jlr_cells.specs.declared.shape.Kind.TheVariants as kind
use Rattle.jlr_types.specs.declared.RefKind.TheVariants as strength
use Rattle.jlr_cells.specs.declared.kinds.Label.{Label}
use Rattle.jlr_cells.specs.declared.kinds.Label.TheVariants as label

-- the kind that a label stands for, if it stands for one
abbrev pub shown_kind : Label → Option Kind
shown_kind label.Nothing = None
shown_kind label.Plain = Some kind.Plain
shown_kind label.Array = Some kind.Array
shown_kind label.Soft = Some (kind.Reference strength.Soft)
shown_kind label.Weak = Some (kind.Reference strength.Weak)
shown_kind label.Phantom = Some (kind.Reference strength.Phantom)
shown_kind label.Queue = Some kind.Queue
shown_kind label.Cleaner = Some kind.Cleaner
shown_kind label.Cleanable = Some kind.Cleanable
shown_kind label.Guard = Some kind.Guard

-- no cleanable lies at the slot
abbrev pub IsNoCleanable : List (Option Kind) → ℕ → Type 0
IsNoCleanable kinds s = slice_index_or kinds s None ≡ Some Cleanable → ⊥

-- no array lies at the slot
abbrev pub IsNoArray : List (Option Kind) → ℕ → Type 0
IsNoArray kinds s = slice_index_or kinds s None ≡ Some Array → ⊥

-- each cleanable is in the one set, and each array in the other
pub record AreFound (kinds : List (Option Kind)) (cleanables arrays : List Bool) : Type 0 where
  pub places : length cleanables ≡ length kinds
  pub array_places : length arrays ≡ length kinds
  pub found : (s : ℕ) → slice_index_or kinds s None ≡ Some Cleanable → is_in cleanables s ≡ true
  pub array_found : (s : ℕ) → slice_index_or kinds s None ≡ Some Array → is_in arrays s ≡ true
