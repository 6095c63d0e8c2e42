-- Lists: a count, and that many items; of some the keys rise.
use Rattle.std.specs.Prelude.{ℕ, zero, suc, ◌*◌, ◌<◌, ◌^◌, Bool, true, IsTrue, List, [], ◌∷◌, ◌++◌, length, Option}
use Rattle.std.specs.Prelude.{Some, None, Ok, Err, nat_lt, if◌then◌else◌}
use Rattle.std.specs.Int.{w32}
use Rattle.std.specs.List.{flat_map, AllByRecursion}
use Rattle.jlr_trace_fields.specs.declared.fault.Fault.TheVariants.{Short}
use Rattle.jlr_trace_fields.specs.Spelling.{spelled_32}
use Rattle.jlr_trace_fields.specs.Reading.{Reader, ◌>>=◌, number_at}

-- so many items, one after the other
unfoldable pub items_at : {A : Type 0} → Reader A → ℕ → Reader (List A)
items_at read zero bytes = Ok ([], bytes)
items_at read (suc n) bytes = do
  first ← read bytes
  others ← items_at read n first.1
  Ok (first.0 ∷ others.0, others.1)

-- a list whose items, each at its smallest size, cannot fit in the bytes that are left is short
unfoldable pub list_at : {A : Type 0} → ℕ → Reader A → Reader (List A)
list_at least read bytes = do
  count ← number_at w32 bytes
  if nat_lt (length count.1) (count.0 * least) then Err Short else items_at read count.0 count.1

abbrev pub spelled_list : {A : Type 0} → (A → List ℕ) → List A → List ℕ
spelled_list spelled items = spelled_32 (length items) ++ flat_map spelled items

-- a list has a spelling where its items have, and its count does
pub record IsListed {A : Type 0} (Fits : A → Type 0) (xs : List A) : Type 0 where
  pub count : length xs < 2 ^ 32
  pub each : AllByRecursion Fits xs

-- ---- Lists whose keys rise

-- whether a key may follow the one before it
abbrev pub may_follow : Option ℕ → ℕ → Bool
may_follow None key = true
may_follow (Some before) key = nat_lt before key

-- so many items, each read with the key before it in hand
unfoldable pub rising_items_at : {A : Type 0} → (Option ℕ → Reader A) → (A → ℕ) → ℕ → Option ℕ → Reader (List A)
rising_items_at read key zero before bytes = Ok ([], bytes)
rising_items_at read key (suc n) before bytes = do
  first ← read before bytes
  others ← rising_items_at read key n (Some (key first.0)) first.1
  Ok (first.0 ∷ others.0, others.1)

unfoldable pub rising_at : {A : Type 0} → ℕ → (Option ℕ → Reader A) → (A → ℕ) → Reader (List A)
rising_at least read key bytes = do
  count ← number_at w32 bytes
  if nat_lt (length count.1) (count.0 * least) then Err Short else rising_items_at read key count.0 None count.1

-- each key is above the one before it
abbrev pub Rises : {A : Type 0} → (A → ℕ) → Option ℕ → List A → Type 0
Rises key before [] = Unit {0}
Rises key before (x ∷ xs) = IsTrue (may_follow before (key x)) × Rises key (Some (key x)) xs

pub record IsRising {A : Type 0} (Fits : A → Type 0) (key : A → ℕ) (xs : List A) : Type 0 where
  pub listed : IsListed Fits xs
  pub rises : Rises key None xs
