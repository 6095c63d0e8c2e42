-- The actions that were not taken up yet: the cleaner keeps each at the slot of its cleanable.
use Rattle.std.specs.Prelude.{◌≡◌, ◌⊎◌, ◌+◌, ◌<◌, ℕ, Some, length}
use Rattle.jlr_machine.specs.declared.machine.Machine.{Machine}
use Rattle.jlr_machine.specs.declared.object.Cleanable.{Cleanable as CleanableOf}
use Rattle.jlr_machine.specs.Objects.{Table, at, empty_at, set_at}
use Rattle.jlr_machine.specs.WellFormed.{IsUnspent}
use Rattle.jlr_cleaner.specs.Cleanings.{Cleanings}

-- there is a place for each cell, and the action of each unspent cleanable waits at its slot
pub record AllWait (m : Machine) (waiting : Table ℕ) : Type 0 where
  pub places : length waiting ≡ length m.objects
  pub actions : (s : ℕ) (c : CleanableOf) → IsUnspent m s c → at waiting s ≡ Some c.action

module _ {R : Type 0} where
  -- nothing is registered, and none waits no more
  abbrev pub WaitAsBefore : Cleanings R → Cleanings R → Type 0
  WaitAsBefore old new = (new.waiting ≡ old.waiting) × (new.next_action ≡ old.next_action)

  -- the next action waits at the slot of its cleanable, which is not spent in n
  pub record Registers (n : Machine) (old new : Cleanings R) : Type 0 where
    pub place : ℕ
    pub inside : place < length old.waiting
    pub cleanable : CleanableOf
    pub unspent : IsUnspent n place cleanable
    pub action : cleanable.action ≡ old.next_action
    pub waits : new.waiting ≡ set_at old.waiting place old.next_action
    pub next : new.next_action ≡ old.next_action + 1

  -- the action at a slot waits no more: no unspent cleanable is there in n
  pub record Releases (n : Machine) (old new : Cleanings R) : Type 0 where
    pub place : ℕ
    pub spent : (c : CleanableOf) → IsUnspent n place c → ⊥
    pub waits : new.waiting ≡ empty_at old.waiting place
    pub next : new.next_action ≡ old.next_action

  -- what becomes of the actions that wait, where an ask leads to n
  abbrev pub WaitsOn : Machine → Cleanings R → Cleanings R → Type 0
  WaitsOn n old new = WaitAsBefore old new ⊎ (Registers n old new ⊎ Releases n old new)
