-- A new guard with its cleanable.
use Rattle.std.specs.Prelude.{◌≡◌, ◌≢◌, ◌<◌, ℕ, None, Some, length}
use Rattle.jlr_types.specs.declared.Work.TheVariants.{Resource as WorkOn}
use Rattle.jlr_machine.specs.declared.object.Object.TheVariants.{Cleanable, Guard}
use Rattle.jlr_machine.specs.declared.object.CleanState.TheVariants.{Armed}
use Rattle.jlr_machine.specs.Objects.{Heap, at, set_at}

-- two slots of the heap, at which there is no object
pub record AreFree (heap : Heap) (s t : ℕ) : Type 0 where
  pub apart : s ≢ t
  pub first_within : s < length heap
  pub second_within : t < length heap
  pub first : at heap s ≡ None
  pub second : at heap t ≡ None

-- a guard at g, and at c its cleanable, which is Armed and waits for it
abbrev pub with_guard : Heap → ℕ → ℕ → ℕ → ℕ → Heap
with_guard heap g c rid action =
    set_at (set_at heap g (Guard (record { rid = rid; cleanable = c }))) c
    (Cleanable (record { referent = Some g; action = action; work = WorkOn rid; state = Armed }))
