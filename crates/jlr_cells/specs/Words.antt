-- What the words of a plain object's fields stand for.
use Rattle.std.specs.Prelude.{◌≡◌, ℕ, ℤ, pos, negsuc, ◌^◌, ◌<◌, nat_lt, if◌then◌else◌, Bool, true, false, List, [], ◌∷◌}
use Rattle.std.specs.Prelude.{Option, Some, None, length, slice_index_or, slice_set, IsTrue}
use Rattle.jlr_types.specs.declared.FieldValue.{FieldValue}
use Rattle.jlr_types.specs.declared.FieldValue.TheVariants.{Int, Ref}
use Rattle.jlr_cells.specs.declared.fields.Place.{Place}
use Rattle.jlr_cells.specs.declared.fields.Place.TheVariants.{Absent, Int as IntPlace, Ref as RefPlace}

-- a slot by its number, and null by any other word
abbrev pub slot_of : ℤ → Option ℕ
slot_of (pos n) = if nat_lt n (2 ^ 32) then Some n else None
slot_of (negsuc n) = None

-- what a word stands for at such a place, if there is a field
abbrev pub value_in : Place → ℤ → Option FieldValue
value_in Absent word = None
value_in IntPlace word = Some (Int word)
value_in RefPlace word = Some (Ref (slot_of word))

-- a field and those behind it; none behind an absent one
abbrev pub before : Option FieldValue → List FieldValue → List FieldValue
before None fields = []
before (Some value) fields = value ∷ fields

-- the fields up to the first that is absent
abbrev pub fields_of : List Place → List ℤ → List FieldValue
fields_of [] words = []
fields_of (place ∷ places) [] = []
fields_of (place ∷ places) (word ∷ words) = before (value_in place word) (fields_of places words)

abbrev pub is_present : Place → Bool
is_present Absent = false
is_present IntPlace = true
is_present RefPlace = true

-- no field comes behind one that is absent
abbrev pub AreInFront : List Place → List ℤ → Type 0
AreInFront places words = (i : ℕ) → IsTrue (is_present (slice_index_or places i Absent))
    → i < length (fields_of places words)

-- eight places and eight words, with the fields in front
pub record AreFields (places : List Place) (words : List ℤ) : Type 0 where
  pub eight_places : length places ≡ 8
  pub eight_words : length words ≡ 8
  pub in_front : AreInFront places words

-- a word that stands for the value is written at this place
pub record IsWritten (places : List Place) (words : List ℤ) (field : ℕ) (value : FieldValue) (new_places : List Place)
    (new_words : List ℤ) : Type 0 where
  pub place : Place
  pub word : ℤ
  pub stands_for : value_in place word ≡ Some value
  pub placed : new_places ≡ slice_set places field place
  pub worded : new_words ≡ slice_set words field word
