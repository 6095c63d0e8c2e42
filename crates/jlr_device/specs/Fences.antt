-- Which calls a fence lets through.
use Rattle.std.specs.Prelude.{◌≡◌, ◌⊎◌, ℕ, ◌+◌, Bool, List, length, Result, Err, MatchOption, MatchBool}
use Rattle.jlr_types.specs.declared.Fault.{Fault}
use Rattle.jlr_types.specs.declared.Fault.TheVariants.{Denied}
use Rattle.jlr_device.specs.Paths.{placed_below}
use Rattle.jlr_device.specs.declared.fenced.Fence.{Fence}
use Rattle.jlr_device.specs.declared.fenced.Fence.TheVariants.{Everything, Nothing, Below}
use Rattle.jlr_device.specs.declared.fenced.Fenced.{Fenced}

-- ---- Which path is called

-- Either the call at a path or a denial. Below a folder the call is made at the path joined to it, where the text
-- allows it and the way is told to be straight: the whole path, how many bytes of it are the folder, and what is told.
abbrev pub Lets : (List ℕ → ℕ → Bool → Type 0) → (List ℕ → Type 0) → Type 0 → Fence → List ℕ → Type 0
Lets straight call denial Everything path = call path
Lets straight call denial Nothing path = denial
Lets straight call denial (Below folder) path =
    MatchOption (placed_below folder.now path) denial
    (λ whole. (told : Bool) × straight whole (length folder.now) told × MatchBool told (call whole) denial)

-- The call at a path that is told to be no socket of the program's own, else a denial.
abbrev pub Joins : (List ℕ → Bool → Type 0) → (List ℕ → Type 0) → Type 0 → List ℕ → Type 0
Joins own call denial path = (told : Bool) × own path told × MatchBool told denial (call path)

-- ---- What becomes of the device

-- the device below attends, which may do so much, and nothing else
abbrev pub IsAttended : {D P : Type 0} → (D → D → Type 0) → Fenced D P → Fenced D P → Type 0
IsAttended may old new = ((new.device ≡ old.device) ⊎ may old.device new.device)
    × (new ≡ record old { device = new.device })

module _ {D P R : Type 0} where
  -- no call below, and one failure more
  abbrev pub IsDenied : Fenced D P → Result R Fault → Fenced D P → Type 0
  IsDenied old result new = (result ≡ Err Denied) × (new ≡ record old { denied = old.denied + 1 })

  -- one call below, which may do so much, and nothing else
  abbrev pub IsCalled : (D → List ℕ → Result R Fault → D → Type 0) → Fenced D P → List ℕ → Result R Fault → Fenced D P
      → Type 0
  IsCalled may old path result new = may old.device path result new.device × (new ≡ record old { device = new.device })
