-- Words as places: a bit for each.
use Rattle.std.specs.Prelude.{◌≡◌, ℕ, ◌-◌, ◌*◌, ◌/◌, ◌%◌, ◌<◌, ◌≤◌, Bool, true, List, length, map, ◌==◌, bit_and}
use Rattle.std.specs.Prelude.{slice_index, slice_index_or}
use Rattle.std.specs.List.{range_with_len}
use Rattle.std.specs.Int.{bit_at, bit_not, w64}

-- whether the bit of a word is set
abbrev pub is_bit : ℕ → ℕ → Bool
is_bit word i = bit_at word i == 1

-- bit n of the words, counted from the lowest bit of the first
abbrev pub bit_of : List ℕ → ℕ → Bool
bit_of words n = is_bit (slice_index words (n / 64)) (n % 64)

-- all the bits of the words
unfoldable pub bits_of : List ℕ → List Bool
bits_of words = map (bit_of words) (range_with_len 0 (64 * length words))

-- how many words are left where the zeros at the end are cut off
pub record IsTrimmedLen (words : List ℕ) (len : ℕ) : Type 0 where
  pub within : len ≤ length words
  pub zeros : (k : ℕ) → len ≤ k → slice_index words k ≡ 0
  pub last : 0 < len → (j : ℕ) × (j < 64) × (is_bit (slice_index words (len - 1)) j ≡ true)

-- what a word has and the word at the same place of others has not; there are zeros behind the last
abbrev pub word_beyond : List ℕ → List ℕ → ℕ → ℕ
word_beyond words others at = bit_and (slice_index_or words at 0) (bit_not w64 (slice_index_or others at 0))

-- what a word has not
abbrev pub word_absent : List ℕ → ℕ → ℕ
word_absent words at = bit_not w64 (slice_index_or words at 0)
