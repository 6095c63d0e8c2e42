-- A set that takes over the slots of another, and a set of fewer places with the same slots.
use Rattle.std.proofs.Common.{◌≡◌, ℕ, ◌*◌, ◌/◌, ◌%◌, ◌<◌, ◌≤◌, Bool, true, false, List, length, get_or, take, eqb, sym, ◌∙◌, ap, inl}
use Rattle.std.proofs.Common.{inr, arith}
use Rattle.std.proofs.lemmas.Bool.{cases_Bool, cases_lt}
use Rattle.std.proofs.lemmas.List.{get_or-take, get_or_past, length-take-le}
use Rattle.std.proofs.lemmas.Nat.Bits.{bit_at-zero}
use Rattle.jlr_sets.specs.Bits.{bits_of, is_bit}
use Rattle.jlr_sets.specs.SlotSets.{is_in, slots_of}
use Rattle.jlr_sets.proofs.Bits.{place_is, bit_of_past}
use Rattle.jlr_sets.proofs.Below.{slots_below_agree, slots_below_same}

-- the same slots, with no fewer places
pub same_slots : (a b : List Bool) → length b ≤ length a → ((k : ℕ) → is_in a k ≡ is_in b k) → slots_of a ≡ slots_of b
same_slots a b le each =
    slots_below_same (length b) (length a) a le (λ k low high. each k ∙ get_or_past b k false low)
    ∙ slots_below_agree (length b) a b (λ k h. each k)

-- the same slots, whatever places there are
pub slots_alike : (a b : List Bool) → ((k : ℕ) → is_in a k ≡ is_in b k) → slots_of a ≡ slots_of b
slots_alike a b each = elim (cases_lt (length a) (length b)) [
  | inl less ↦ sym (same_slots b a (omega arith) (λ k. sym (each k)))
  | inr more ↦ same_slots a b more each
]

module _ (old first new : List ℕ)
    (front : (k : ℕ) → k < length first → k < length old → get_or new k 0 ≡ get_or first k 0)
    (rest : (k : ℕ) → length first ≤ k → get_or new k 0 ≡ get_or old k 0)
    (long : length new ≡ length old)
    (zeros : (k : ℕ) → get_or old k 0 ≡ 0)
    (room : (slot : ℕ) → is_in (bits_of first) slot ≡ true → slot < 64 * length old) where
  none_beyond : (k : ℕ) → 64 * length old ≤ k → is_in (bits_of first) k ≡ false
  none_beyond k past = elim (cases_Bool (is_in (bits_of first) k)) [ inl set ↦ absurd (omega (arith, room k set)) | inr clear ↦ clear ]

  pub each : (k : ℕ) → is_in (bits_of new) k ≡ is_in (bits_of first) k
  each k = elim (cases_lt (k / 64) (length old)) [
    | inl here ↦ place_is new k ∙ (elim (cases_lt (k / 64) (length first)) [
      | inl copied ↦ ap (λ w. is_bit w (k % 64)) (front (k / 64) copied here) ∙ sym (place_is first k)
      | inr beyond ↦
          ap (λ w. is_bit w (k % 64)) (rest (k / 64) beyond ∙ zeros (k / 64))
          ∙ ap (λ b. eqb b 1) (bit_at-zero (k % 64))
          ∙ sym (place_is first k ∙ bit_of_past first k (omega arith))
    ])
    | inr past ↦ place_is new k ∙ bit_of_past new k (omega (arith, long)) ∙ sym (none_beyond k (omega arith))
  ]

  pub assigned : slots_of (bits_of new) ≡ slots_of (bits_of first)
  assigned = slots_alike (bits_of new) (bits_of first) each

-- ---- A set of which only the first places are shown

module _ (n : ℕ) (places : List Bool) (within : n ≤ length places) (low : (slot : ℕ) → is_in places slot ≡ true → slot < n) where
  pub shown_place : (k : ℕ) → is_in (take n places) k ≡ is_in places k
  shown_place k = elim (cases_lt k n) [
    | inl h ↦ get_or-take n places k false h
    | inr past ↦
        get_or_past (take n places) k false (omega (arith, length-take-le n places within))
        ∙ (elim (cases_Bool (is_in places k)) as (λ _. false ≡ is_in places k) [
          | inl set ↦ absurd (omega (arith, low k set))
          | inr clear ↦
              sym clear
        ])
  ]

  pub shown_slots : slots_of (take n places) ≡ slots_of places
  shown_slots = slots_alike (take n places) places shown_place
