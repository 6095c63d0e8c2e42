-- The lowest free handle is found, or there is none.
use Rattle.std.proofs.Common.{◌≡◌, ℕ, suc, ◌+◌, ◌-◌, ◌<◌, ◌≤◌, Bool, cond, not, List, [], ◌∷◌, Option, Some, None, length, take, drop}
use Rattle.std.proofs.Common.{length-drop, sym, arith, lt-ltb, le-ltb, inl, inr}
use Rattle.std.specs.Prelude.{is_some, is_none, position}
use Rattle.std.specs.List.{prefix_len}
use Rattle.std.proofs.lemmas.Bool.{cases_lt}
use Rattle.std.proofs.lemmas.List.{take_all}
use Rattle.std.proofs.lemmas.List.Sums.{sum_by-cons}
use Rattle.jlr_machine.specs.Objects.{occupied, first_free}
use Rattle.jlr_roots.specs.HandleTable.{IsHandleTable, has_handle_room, lowest_free}

-- a place is taken
abbrev pub is_taken : Option ℕ → Bool
is_taken o = not (is_none o)

first_free-from : (places : List (Option ℕ)) (n : ℕ) → first_free n places ≡ n + prefix_len is_taken places
first_free-from [] n = omega arith
first_free-from (None ∷ places) n = omega arith
first_free-from (Some s ∷ places) n = omega (arith, first_free-from places (suc n))

one_more : (s : ℕ) (places : List (Option ℕ)) → occupied (Some s ∷ places) ≡ occupied places + 1
one_more s places = omega (arith, sum_by-cons (λ (o : Option ℕ). cond (is_some o) 1 0) (Some s) places)

-- where a place is free, not all are taken, and where none is, all are
occupied-below : (places : List (Option ℕ)) → occupied places ≤ length places
occupied-below [] = omega arith
occupied-below (None ∷ places) = omega (arith, occupied-below places)
occupied-below (Some s ∷ places) = omega (arith, one_more s places, occupied-below places)

some_free : (places : List (Option ℕ)) → prefix_len is_taken places < length places → occupied places < length places
some_free [] h = omega arith
some_free (None ∷ places) h = omega (arith, occupied-below places)
some_free (Some s ∷ places) h = omega (arith, one_more s places, some_free places (omega (arith, h)))

all_taken : (places : List (Option ℕ)) → length places ≤ prefix_len is_taken places → occupied places ≡ length places
all_taken [] h = omega arith
all_taken (None ∷ places) h = absurd (omega (arith, h))
all_taken (Some s ∷ places) h = omega (arith, one_more s places, all_taken places (omega (arith, h)))

-- what a search behind null says of the handles
pub record Finds (handles : List (Option ℕ)) (found : Option ℕ) : Type 0 where
  pub room : is_some found ≡ has_handle_room handles
  pub lowest : (i : ℕ) → found ≡ Some i → (i + 1 ≡ lowest_free handles) × (i < 250)

finds_none : (rest : List (Option ℕ)) → length rest ≡ 250 → length rest ≤ prefix_len is_taken rest → Finds (None ∷ rest) None
finds_none rest len past =
    let all = all_taken rest past in
    record {
      room = sym (le-ltb (occupied rest) 250 (omega (arith, all, len)));
      lowest = λ i e. cc;
    }

finds_some : (rest : List (Option ℕ)) → length rest ≡ 250 → prefix_len is_taken rest < length rest
    → Finds (None ∷ rest) (Some (prefix_len is_taken rest))
finds_some rest len within =
    let some = some_free rest within in
    record {
      room = sym (lt-ltb (occupied rest) 250 (omega (arith, some, len)));
      lowest = λ i e. (let same : prefix_len is_taken rest ≡ i = cc in
          (omega (arith, same, first_free-from rest 1), omega (arith, same, within, len)));
    }

pub finds : (handles : List (Option ℕ)) → IsHandleTable handles → Finds handles (position is_none (drop 1 handles))
finds [] table = absurd (omega (arith, table.place_count))
finds (Some s ∷ rest) table = absurd (let null : Some s ≡ None = table.null in cc)
finds (None ∷ rest) table =
    let len : length rest ≡ 250 = omega (arith, table.place_count) in
    elim (cases_lt (prefix_len is_taken rest) (length rest)) [
      | inl within ↦ rw (lt-ltb (prefix_len is_taken rest) (length rest) within) (finds_some rest len within)
      | inr past ↦ rw (le-ltb (prefix_len is_taken rest) (length rest) past) (finds_none rest len past)
    ]

-- the slice behind null
pub behind_null : (places : List (Option ℕ)) → take (length places - 1) (drop 1 places) ≡ drop 1 places
behind_null places = take_all (length places - 1) (drop 1 places) (omega (arith, length-drop 1 places))
