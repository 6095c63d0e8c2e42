-- What becomes of the cells in use.
use Rattle.std.proofs.Common.{◌≡◌, ℕ, ◌+◌, ◌-◌, ◌<◌, ◌≤◌, ◌^◌, Bool, true, false, List, length, replicate, set, refl, sym, ◌∙◌, ap, inl}
use Rattle.std.proofs.Common.{inr, arith, length-set, get_or-set_same, get_or-set_other}
use Rattle.std.proofs.lemmas.Bool.{cases_Bool, cases_eq, both_ways}
use Rattle.std.proofs.lemmas.List.{length-replicate}
use Rattle.jlr_sets.specs.SlotSets.{is_in, slots_of}
use Rattle.jlr_sets.proofs.Counts.{count_none, count_within, in_none, not_all, one_less, one_more}
use Rattle.jlr_sets.proofs.Below.{within_places}
use Rattle.jlr_cells.specs.Occupying.{AreUsed, Occupied}

pub none_used : (n : ℕ) (used occupied : List Bool) → n < 2 ^ 32 → used ≡ replicate n false → occupied ≡ replicate n false
    → AreUsed (record { places = occupied; used = used; condemned = 0 }) n
none_used n used occupied few e e' =
    rw (e, e') (record {
      places = refl;
      objects = λ s h. absurd (both_ways (is_in (replicate n false) s) (in_none n s) h);
      counted = omega (arith, count_none n);
      left = omega (arith, count_none n, length-replicate {A = Bool} n false);
      few = omega (arith, few, length-replicate {A = Bool} n false);
    })

module _ (o : Occupied) (free : ℕ) (are : AreUsed o free) where
  abbrev used : List Bool
  used = o.used

  -- a free cell holds no object
  pub free_is_vacant : (s : ℕ) → is_in used s ≡ false → is_in o.places s ≡ false
  free_is_vacant s off = elim (cases_Bool (is_in o.places s)) [
    | inl on ↦ absurd (both_ways (is_in used s) off (are.objects s on))
    | inr clear ↦ clear
  ]

  -- a free cell is taken
  pub taken_one : (s : ℕ) → s < length used → is_in used s ≡ false
      → AreUsed (record { places = set o.places s true; used = set used s true; condemned = o.condemned }) (free - 1)
  taken_one s within off =
      let here : s < length o.places = omega (arith, within, are.places) in
      let vacant = free_is_vacant s off in
      record {
        places = length-set used s true ∙ are.places ∙ sym (length-set o.places s true);
        objects = λ k h. elim (cases_eq k s) [
          | inl same ↦ ap (is_in (set used s true)) same ∙ get_or-set_same used s true false within
          | inr d ↦ get_or-set_other used s k true false d ∙ are.objects k (sym (get_or-set_other o.places s k true false d) ∙ h)
        ];
        counted = omega (arith, are.counted, one_more used s within off, one_more o.places s here vacant);
        left = omega (arith, are.left, one_more used s within off, length-set used s true, not_all used s within off);
        few = omega (arith, are.few, length-set used s true);
      }

  pub kept_count : (kept : List Bool) → length kept ≡ length o.places → ((s : ℕ) → is_in kept s ≡ true → is_in o.places s ≡ true)
      → length (slots_of kept) + free ≤ length used
  kept_count kept long within =
      omega (arith, are.left, are.places, count_within kept used (omega (arith, long, are.places)) (λ s h. are.objects s (within s h)))

  -- fewer cells hold an object
  pub kept_used : (kept : List Bool) → length kept ≡ length o.places → ((s : ℕ) → is_in kept s ≡ true → is_in o.places s ≡ true)
      → AreUsed (record { places = kept; used = used; condemned = length used - free - length (slots_of kept) }) free
  kept_used kept long within = record {
    places = are.places ∙ sym long;
    objects = λ s h. are.objects s (within s h);
    counted = omega (arith, are.left, kept_count kept long within);
    left = are.left;
    few = are.few;
  }

  -- all condemned cells become free
  pub swept_all : AreUsed (record { places = o.places; used = o.places; condemned = 0 }) (free + o.condemned)
  swept_all = record {
    places = refl;
    objects = λ s h. h;
    counted = omega arith;
    left = omega (arith, are.left, are.counted, are.places);
    few = omega (arith, are.few, are.places);
  }

  -- a condemned cell becomes free
  pub swept_one : (s : ℕ) → is_in used s ≡ true → is_in o.places s ≡ false
      → AreUsed (record { places = o.places; used = set used s false; condemned = o.condemned - 1 }) (free + 1)
  swept_one s on off =
      let within = within_places used s on in
      let less = one_less used s within on in
      let still : (k : ℕ) → is_in o.places k ≡ true → is_in (set used s false) k ≡ true = λ k h. elim (cases_eq k s) [
        | inl same ↦ absurd (both_ways (is_in o.places s) off (sym (ap (is_in o.places) same) ∙ h))
        | inr d ↦ get_or-set_other used s k false false d ∙ are.objects k h
      ] in
      let fewer = count_within o.places (set used s false) (omega (arith, are.places, length-set used s false)) still in
      record {
        places = length-set used s false ∙ are.places;
        objects = still;
        counted = omega (arith, are.counted, less, fewer);
        left = omega (arith, are.left, less, length-set used s false);
        few = omega (arith, are.few, length-set used s false);
      }
