-- How what was chosen in an entry is spelled and read, and which has a spelling.
use Rattle.std.specs.Prelude.{ℕ, ◌<◌, ◌≤◌, ◌^◌, ◌%◌, ◌==◌, Bool, true, false, List, [], ◌∷◌, ◌++◌, length, Option, Some}
use Rattle.std.specs.Prelude.{None, Ok, nat_le}
use Rattle.std.specs.List.{flat_map, AllByRecursion}
use Rattle.std.specs.Int.{w32}
use Rattle.jlr_machine.specs.declared.entry.Collected.{Collected}
use Rattle.jlr_machine.specs.Chosen.{Chosen}
use Rattle.jlr_trace_fields.specs.Spelling.{spelled_32}
use Rattle.jlr_trace_fields.specs.Reading.{Reader, ◌>>=◌, one_field, two_fields, number_at, byte_within_at}
use Rattle.jlr_trace_fields.specs.Items.{items_at, list_at, rising_at, spelled_list, IsListed, IsRising}
use Rattle.jlr_trace_fields.specs.Records.{slot_after}

abbrev pub itself : ℕ → ℕ
itself s = s

abbrev pub SlotIs : ℕ → Type 0
SlotIs s = s < 2 ^ 32

-- ---- What a collection did

abbrev pub spelled_collected : Collected → List ℕ
spelled_collected c = spelled_list spelled_32 c.kept ++ spelled_list spelled_32 c.pending

pub record CollectedFits (c : Collected) : Type 0 where
  pub kept : IsRising SlotIs itself c.kept
  pub pending : IsListed SlotIs c.pending

unfoldable pub collected_read : Reader Collected
collected_read = two_fields (rising_at 4 slot_after itself) (list_at 4 (number_at w32))
    (λ kept pending. record { kept = kept; pending = pending })

abbrev pub spelled_collection : Option Collected → List ℕ
spelled_collection None = []
spelled_collection (Some c) = spelled_collected c

abbrev pub CollectionFits : Option Collected → Type 0
CollectionFits None = Unit {0}
CollectionFits (Some c) = CollectedFits c

abbrev pub CollectionCounts : Option Collected → Type 0
CollectionCounts None = Unit {0}
CollectionCounts (Some c) = (length c.kept < 2 ^ 32) × (length c.pending < 2 ^ 32)

-- where a collection was run
abbrev pub collection_read : Bool → Reader (Option Collected)
collection_read false bytes = Ok (None, bytes)
collection_read true bytes = one_field collected_read Some bytes

-- ---- The slots of new objects

abbrev pub spelled_fresh : List ℕ → List ℕ
spelled_fresh [] = []
spelled_fresh (s ∷ slots) = length (s ∷ slots) ∷ flat_map spelled_32 (s ∷ slots)

pub record FreshFits (slots : List ℕ) : Type 0 where
  pub few : length slots ≤ 2
  pub each : AllByRecursion SlotIs slots

-- where objects were made
abbrev pub fresh_read : Bool → Reader (List ℕ)
fresh_read false bytes = Ok ([], bytes)
fresh_read true bytes = byte_within_at 1 2 bytes >>= λ count. items_at (number_at w32) count.0 count.1

-- ---- The choice: bit 0 tells of a collection, bit 1 of fresh slots

abbrev pub flags_of : Option Collected → List ℕ → ℕ
flags_of None [] = 0
flags_of (Some c) [] = 1
flags_of None (s ∷ slots) = 2
flags_of (Some c) (s ∷ slots) = 3

abbrev pub spelled_choice : Chosen → List ℕ
spelled_choice c = flags_of c.collected c.fresh ∷ spelled_collection c.collected ++ spelled_fresh c.fresh

pub record ChoiceFits (c : Chosen) : Type 0 where
  pub collected : CollectionFits c.collected
  pub fresh : FreshFits c.fresh

-- its lists are short enough for their counts
pub record ChoiceCounts (c : Chosen) : Type 0 where
  pub collected : CollectionCounts c.collected
  pub fresh : length c.fresh < 256

abbrev pub made_choice : Option Collected → List ℕ → Chosen
made_choice collected fresh = record { collected = collected; fresh = fresh }

unfoldable pub choice_read : Reader Chosen
choice_read bytes = byte_within_at 0 3 bytes >>= λ flags. two_fields (collection_read (flags.0 % 2 == 1))
    (fresh_read (nat_le 2 flags.0)) made_choice flags.1
