-- Fields that are read from words and written into them.
use Rattle.std.proofs.Common.{◌≡◌, ℕ, zero, suc, ◌+◌, ◌<◌, ◌≤◌, List, [], ◌∷◌, ◌++◌, Option, Some, None, ℤ, pos, length, set, get_or, refl}
use Rattle.std.proofs.Common.{sym, ap, ◌∙◌, arith, subst, inl, inr, length-set, length-append, get_or-set_other}
use Rattle.std.specs.Prelude.{slice_get, IsTrue}
use Rattle.std.proofs.lemmas.Bool.{cases_eq, cases_lt}
use Rattle.std.proofs.lemmas.Option.{slice_get_past}
use Rattle.jlr_types.specs.declared.FieldValue.{FieldValue}
use Rattle.jlr_types.specs.declared.FieldValue.TheVariants as field
use Rattle.jlr_cells.specs.declared.fields.Place.{Place}
use Rattle.jlr_cells.specs.declared.fields.Place.TheVariants.{Absent, Int, Ref}
use Rattle.jlr_cells.specs.Words.{AreFields, AreInFront, IsWritten, before, fields_of, is_present, slot_of, value_in}

-- ---- Reading

-- what a word stands for, by its place
abbrev at_place : List Place → List ℤ → ℕ → Option FieldValue
at_place places words i = value_in (get_or places i Absent) (get_or words i (pos 0))

field_within : (places : List Place) (words : List ℤ) (i : ℕ) → i < length (fields_of places words)
    → at_place places words i ≡ slice_get (fields_of places words) i
field_within [] words i h = absurd (omega arith)
field_within (q ∷ places) [] i h = absurd (omega arith)
field_within (Absent ∷ places) (v ∷ words) i h = absurd (omega arith)
field_within (Int ∷ places) (v ∷ words) zero h = refl
field_within (Int ∷ places) (v ∷ words) (suc i) h = field_within places words i (omega arith)
field_within (Ref ∷ places) (v ∷ words) zero h = refl
field_within (Ref ∷ places) (v ∷ words) (suc i) h = field_within places words i (omega arith)

absent_value : (p : Place) (w : ℤ) → ¬ (IsTrue (is_present p)) → value_in p w ≡ None
absent_value Absent w h = refl
absent_value Int w h = absurd (h refl)
absent_value Ref w h = absurd (h refl)

pub field_at_place : (places : List Place) (words : List ℤ) (i : ℕ) → AreFields places words → i < length places
    → at_place places words i ≡ slice_get (fields_of places words) i
field_at_place places words i all within =
    elim (cases_lt i (length (fields_of places words))) [
      | inl inside ↦ field_within places words i inside
      | inr past ↦ absent_value (get_or places i Absent) (get_or words i (pos 0))
          (λ h. let inside = all.in_front i h in absurd (omega arith)) ∙ sym (slice_get_past (fields_of places words) i past)
    ]

few_fields : (places : List Place) (words : List ℤ) → length (fields_of places words) ≤ length places
few_fields [] words = omega arith
few_fields (p ∷ places) [] = omega arith
few_fields (Absent ∷ places) (w ∷ words) = omega arith
few_fields (Int ∷ places) (w ∷ words) = omega (arith, few_fields places words)
few_fields (Ref ∷ places) (w ∷ words) = omega (arith, few_fields places words)

pub at_most_eight : (places : List Place) (words : List ℤ) → AreFields places words → length (fields_of places words) ≤ 8
at_most_eight places words all = omega (arith, few_fields places words, all.eight_places)

-- ---- Writing

-- a field takes another value
set_within :
    (places : List Place) (words : List ℤ) (i : ℕ) (p : Place) (w : ℤ) (value : FieldValue) → value_in p w ≡ Some value
    → i < length (fields_of places words) → fields_of (set places i p) (set words i w) ≡ set (fields_of places words) i value
set_within [] words i p w value e h = absurd (omega arith)
set_within (q ∷ places) [] i p w value e h = absurd (omega arith)
set_within (Absent ∷ places) (v ∷ words) i p w value e h = absurd (omega arith)
set_within (Int ∷ places) (v ∷ words) zero p w value e h = ap (λ o. before o (fields_of places words)) e
set_within (Int ∷ places) (v ∷ words) (suc i) p w value e h =
    ap (λ l. field.Int v ∷ l) (set_within places words i p w value e (omega arith))
set_within (Ref ∷ places) (v ∷ words) zero p w value e h = ap (λ o. before o (fields_of places words)) e
set_within (Ref ∷ places) (v ∷ words) (suc i) p w value e h =
    ap (λ l. field.Ref (slot_of v) ∷ l) (set_within places words i p w value e (omega arith))

-- where all places are absent, there are no fields
none_in_front : (places : List Place) (words : List ℤ) → ((i : ℕ) → ¬ (IsTrue (is_present (get_or places i Absent))))
    → fields_of places words ≡ []
none_in_front [] words none = refl
none_in_front (p ∷ places) [] none = refl
none_in_front (p ∷ places) (w ∷ words) none = ap (λ o. before o (fields_of places words)) (absent_value p w (none 0))

-- a field is added behind the others
set_behind :
    (places : List Place) (words : List ℤ) (p : Place) (w : ℤ) (value : FieldValue) → value_in p w ≡ Some value → AreInFront places words
    → length (fields_of places words) < length places → length (fields_of places words) < length words
    → fields_of (set places (length (fields_of places words)) p) (set words (length (fields_of places words)) w) ≡ fields_of places words
    ++ value ∷ []
set_behind [] words p w value e front h k = absurd (omega arith)
set_behind (q ∷ places) [] p w value e front h k = absurd (omega arith)
set_behind (Absent ∷ places) (v ∷ words) p w value e front h k =
    ap (λ o. before o (fields_of places words)) e ∙ ap (λ l. value ∷ l)
    (none_in_front places words (λ i present. let below = front (suc i) present in absurd (omega arith)))
set_behind (Int ∷ places) (v ∷ words) p w value e front h k =
    ap (λ l. field.Int v ∷ l) (set_behind places words p w value e (λ i present. let below = front (suc i) present in omega arith)
    (omega arith) (omega arith))
set_behind (Ref ∷ places) (v ∷ words) p w value e front h k =
    ap (λ l. field.Ref (slot_of v) ∷ l) (set_behind places words p w value e (λ i present. let below = front (suc i) present in omega arith)
    (omega arith) (omega arith))

-- no field comes behind an absent one, where one is written within or right behind the fields
still_in_front :
    (places places' : List Place) (words words' : List ℤ) (i : ℕ) (p : Place) → AreInFront places words → places' ≡ set places i p
    → i < length (fields_of places' words') → length (fields_of places words) ≤ length (fields_of places' words')
    → AreInFront places' words'
still_in_front places places' words words' i p front e within longer = λ j present.
    elim (cases_eq j i) [
      | inl same ↦ rw same within
      | inr other ↦ let below = front j (subst (λ q. IsTrue (is_present q))
          (ap (λ l. get_or l j Absent) e ∙ get_or-set_other places i j p Absent other) present) in omega (arith, below, longer)
    ]

both_written :
    (places places' : List Place) (words words' : List ℤ) (i : ℕ) (value : FieldValue) (s : IsWritten places words i value places' words')
    → fields_of places' words' ≡ fields_of (set places i s.place) (set words i s.word)
both_written places places' words words' i value s = ap (λ l. fields_of l words') s.placed ∙ ap (fields_of (set places i s.place)) s.worded

pub written_fields :
    (places places' : List Place) (words words' : List ℤ) (i : ℕ) (value : FieldValue) → IsWritten places words i value places' words'
    → i < length (fields_of places words) → fields_of places' words' ≡ set (fields_of places words) i value
written_fields places places' words words' i value s h =
    both_written places places' words words' i value s ∙ set_within places words i s.place s.word value s.stands_for h

pub written_are_fields :
    (places places' : List Place) (words words' : List ℤ) (i : ℕ) (value : FieldValue) → AreFields places words
    → IsWritten places words i value places' words'
    → i < length (fields_of places words) → AreFields places' words'
written_are_fields places places' words words' i value all s h =
    let same : length (fields_of places' words') ≡ length (fields_of places words) =
    ap length (written_fields places places' words words' i value s h) ∙ length-set (fields_of places words) i value in
    record {
      eight_places = ap length s.placed ∙ length-set places i s.place ∙ all.eight_places;
      eight_words = ap length s.worded ∙ length-set words i s.word ∙ all.eight_words;
      in_front = still_in_front places places' words words' i s.place all.in_front s.placed (omega (arith, h, same)) (omega (arith, same));
    }

pub added_fields :
    (places places' : List Place) (words words' : List ℤ) (i : ℕ) (value : FieldValue) → AreFields places words
    → IsWritten places words i value places' words'
    → length (fields_of places words) ≡ i → i < 8 → fields_of places' words' ≡ fields_of places words ++ value ∷ []
added_fields places places' words words' i value all s here room =
    both_written places places' words words' i value s
    ∙ subst (λ n. fields_of (set places n s.place) (set words n s.word) ≡ fields_of places words ++ value ∷ []) here
    (set_behind places words s.place s.word value s.stands_for all.in_front (omega (arith, here, room, all.eight_places))
    (omega (arith, here, room, all.eight_words)))

pub added_are_fields :
    (places places' : List Place) (words words' : List ℤ) (i : ℕ) (value : FieldValue) → AreFields places words
    → IsWritten places words i value places' words'
    → length (fields_of places words) ≡ i → i < 8 → AreFields places' words'
added_are_fields places places' words words' i value all s here room =
    let longer : length (fields_of places' words') ≡ length (fields_of places words) + 1 =
    ap length (added_fields places places' words words' i value all s here room) ∙ length-append (fields_of places words) (value ∷ []) in
    record {
      eight_places = ap length s.placed ∙ length-set places i s.place ∙ all.eight_places;
      eight_words = ap length s.worded ∙ length-set words i s.word ∙ all.eight_words;
      in_front = still_in_front places places' words words' i s.place all.in_front s.placed (omega (arith, here, longer))
          (omega (arith, longer));
    }
