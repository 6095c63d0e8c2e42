-- Grey cells are followed, part by part, one after another.
use Rattle.std.proofs.Common.{◌≡◌, ◌+◌, ◌*◌, ◌/◌, ◌<◌, ◌≤◌, ◌∷◌, ◌++◌, [], ℕ, ◌⊎◌, inl, inr, Bool, true, false, cond, get_or, count_by}
use Rattle.std.proofs.Common.{List, length, Option, Some, None, arith, refl, sym, subst, ap, ◌∙◌}
use Rattle.std.specs.Prelude.{nat_eq}
use Rattle.std.proofs.lemmas.Bool.{both_ways, cases_eq, cases_lt, eq-eqb, false_from_ne_true, ne_eqb}
use Rattle.std.proofs.lemmas.List.Sorted.{length_permutation, list_any-IsPermutation}
use Rattle.jlr_machine.specs.Objects.{Heap, at, ◌∈◌, ◌∋◌}
use Rattle.jlr_laws.specs.Laws.{followed}
use Rattle.jlr_laws.proofs.Frames.{no_some, place_within, some_same}
use Rattle.jlr_laws.proofs.Sets.{in_front, in_rest, in_cons}
use Rattle.jlr_marks.specs.declared.part.Part.{Part}
use Rattle.jlr_marks.specs.Marking.{Marking, IsMarked, is_marked, marked, grey_next, place, place_in, upcoming}
use Rattle.jlr_barrier.specs.Parts.{IsBegun, next_at, ticks_at}
use Rattle.jlr_marker.specs.Following.{FollowsSlot, IsTicked, grey_still, part_still}
use Rattle.jlr_marker.specs.Spending.{by_colour, elements_at, so_far, spent_at}
use Rattle.jlr_marker.specs.Marks.{Blackening, Blackens, IsBlackened, IsPassed, IsPassedIn}
use Rattle.jlr_marker.proofs.Elements.{array_from, array_gives, array_no_soft, last_part, next_below, next_is, none_next, other_next}
use Rattle.jlr_marker.proofs.Elements.{other_part, part_is_edge}
use Rattle.jlr_marker.proofs.Following.{followed_from, followed_gives, one_more, strong_is_followed}
use Rattle.jlr_marker.proofs.Totals.{by_cases, colour_black, colour_grey, colour_white, total_one}

-- ---- Places

still_in : (more : Option ℕ) (slot z : ℕ) (rest : List ℕ) → z ∈ rest → z ∈ grey_still more slot rest
still_in None slot z rest h = h
still_in (Some p) slot z rest h = in_rest z slot rest h

still_gives : (more : Option ℕ) (slot z : ℕ) (rest : List ℕ) → z ∈ grey_still more slot rest → z ∈ (slot ∷ rest)
still_gives None slot z rest h = in_rest z slot rest h
still_gives (Some p) slot z rest h = h

apart : (x z p : ℕ) → ¬ (z ≡ x) → cond (nat_eq x z) p 0 ≡ 0
apart x z p other = ap (λ b. cond b p 0) (ne_eqb x z (λ e. other (sym e)))

other_place : (more : Option ℕ) (slot z : ℕ) → ¬ (z ≡ slot) → place_in (part_still more slot) z ≡ 0
other_place None slot z other = refl
other_place (Some p) slot z other = apart slot z p other

pub other_upcoming : (part : Option Part) (grey : List ℕ) (slot z : ℕ) → grey_next part grey ≡ Some slot → ¬ (z ≡ slot) → place_in part z
    ≡ 0
other_upcoming None grey slot z e other = refl
other_upcoming (Some p) grey slot z e other = apart p.slot z p.place (λ same. other (same ∙ some_same p.slot slot e))

one_part_more : (a : ℕ) → (a + 64) / 64 ≡ a / 64 + 1
one_part_more a = omega arith

-- ---- Nothing was followed

-- what a cell was followed to goes on only
abbrev pub GoesOn : Marking → Marking → Type 0
GoesOn old new = (x : ℕ) → IsMarked old x → x ∈ old.grey → x ∈ new.grey → place old x ≤ place new x

pub goes_on_here : (m : Marking) → GoesOn m m
goes_on_here m x on was still = omega arith

module _ (keeps : ℕ → Bool) (heap : Heap) where
  none_passed : (o : Option (List (Option ℕ))) (m : Marking) (x y : ℕ) → IsPassedIn o keeps heap m m x y → IsMarked m y
  none_passed (Some e) m x y p = absurd (omega (arith, p.1, p.2))
  none_passed None m x y p = elim p.0.2 [ inl grey ↦ absurd (p.0.1 grey) | inr white ↦ absurd (white p.0.0) ]

  pub nothing_passed : (m : Marking) → Blackening keeps heap 0 m m
  nothing_passed m =
      record {
        spends = omega arith;
        black = (0, omega arith, omega arith);
        kept = λ x h. h;
        fresh = λ x h. inl h;
        follows = λ x y p. none_passed (elements_at heap x) m x y p;
        no_more = λ y h. inl h;
        reached = λ y h. inl h;
      }

-- ---- A part is followed

module _ (keeps : ℕ → Bool) (heap : Heap) (ticks : ℕ) (old cur new : Marking) (slot : ℕ) (more : Option ℕ)
    (i : Blackening keeps heap ticks old cur) (on : GoesOn old cur)
    (f : FollowsSlot (λ y. IsTicked keeps heap (place cur slot) slot y) slot more cur new) (is_more : next_at heap (place cur slot) slot
    ≡ more)
    (up : upcoming cur ≡ Some slot) (top : IsMarked cur slot) (inside : slot < length heap)
    (begun : IsBegun heap (place cur slot) slot) where
  abbrev from : ℕ
  from = place cur slot

  same : (z : ℕ) → (cur.grey ∋ z) ≡ ((slot ∷ f.rest) ∋ z)
  same z = list_any-IsPermutation (nat_eq z) cur.grey (slot ∷ f.rest) f.taken

  as_off : (z : ℕ) → IsMarked cur z → IsMarked f.off z
  as_off z h = subst (λ b. get_or b z false ≡ true) (sym f.same_bits) h

  as_cur : (z : ℕ) → IsMarked f.off z → IsMarked cur z
  as_cur z h = subst (λ b. get_or b z false ≡ true) f.same_bits h

  still_marked : (z : ℕ) → IsMarked cur z → IsMarked new z
  still_marked z h = f.shaded.kept z (as_off z h)

  pub slot_grey : slot ∈ cur.grey
  slot_grey = same slot ∙ in_front slot slot f.rest refl

  was_grey : (z : ℕ) → z ∈ f.off.grey → z ∈ cur.grey
  was_grey z h = same z ∙ still_gives more slot z f.rest (subst (λ l. z ∈ l) f.grey h)

  slot_or_off : (z : ℕ) → z ∈ cur.grey → (z ≡ slot) ⊎ (z ∈ f.off.grey)
  slot_or_off z h = elim (in_cons z slot f.rest (sym (same z) ∙ h)) [
    | inl e ↦ inl e
    | inr r ↦
        inr (subst (λ l. z ∈ l) (sym f.grey) (still_in more slot z f.rest r))
  ]

  stays_fresh : (z : ℕ) → z ∈ new.grey → (z ∈ cur.grey) ⊎ (¬ (IsMarked cur z))
  stays_fresh z h = elim (f.shaded.fresh z h) [ inl o ↦ inl (was_grey z o) | inr white ↦ inr (λ was. white (as_off z was)) ]

  still_black : (x : ℕ) → IsBlackened old cur x → IsBlackened old new x
  still_black x b = (still_marked x b.0, (λ h. elim (stays_fresh x h) [ inl o ↦ b.1 o | inr white ↦ white b.0 ]), b.2)

  slot_or_before : (x : ℕ) → IsBlackened old new x → (x ≡ slot) ⊎ IsBlackened old cur x
  slot_or_before x b = elim (f.shaded.added x b.0) [
    | inr n ↦ absurd (b.1 n.1)
    | inl o ↦ elim (cases_eq x slot) [
      | inl e ↦ inl e
      | inr d ↦ inr (as_cur x o, (λ g. elim (slot_or_off x g) [ inl e ↦ d e | inr r ↦ b.1 (f.shaded.grey_kept x r) ]), b.2)
    ]
  ]

  -- ---- The slot itself

  grey_then : (p : ℕ) → more ≡ Some p → slot ∈ new.grey
  grey_then p e =
      f.shaded.grey_kept slot (subst (λ l. slot ∈ l) (sym (f.grey ∙ ap (λ m. grey_still m slot f.rest) e)) (in_front slot slot f.rest refl))

  black_then : more ≡ None → ¬ (slot ∈ new.grey)
  black_then e = λ h. elim (f.shaded.fresh slot h) [
    | inl o ↦ f.gone (subst (λ l. slot ∈ l) (f.grey ∙ ap (λ m. grey_still m slot f.rest) e) o)
    | inr white ↦ white (as_off slot top)
  ]

  slot_black : more ≡ None → IsBlackened old new slot
  slot_black e = (still_marked slot top, black_then e, i.fresh slot slot_grey)

  came_to : place new slot ≡ place_in (part_still more slot) slot
  came_to = ap (λ p. place_in p slot) (f.shaded.part_same ∙ f.part)

  place_then : (p : ℕ) → more ≡ Some p → place new slot ≡ from + 64
  place_then p e =
      came_to ∙ ap (λ m. place_in (part_still m slot) slot) e ∙ ap (λ b. cond b p 0) (eq-eqb slot slot refl)
      ∙ next_is (at heap slot) from p (is_more ∙ e)

  colour_before : (grey black : ℕ) → by_colour cur slot grey black ≡ grey
  colour_before grey black = colour_grey cur slot grey black top slot_grey

  -- how far an array came by this tick
  came_so_far : (e : List (Option ℕ)) → elements_at heap slot ≡ Some e → (so_far new slot (length e) ≡ from + 64)
      ⊎ ((so_far new slot (length e) ≡ length e) × (length e ≤ from + 64))
  came_so_far e there =
      elim more as (λ m. more ≡ m → (so_far new slot (length e) ≡ from + 64)
      ⊎ ((so_far new slot (length e) ≡ length e) × (length e ≤ from + 64))) [
        | Some p ↦ λ k. inl (colour_grey new slot (place new slot) (length e) (still_marked slot top) (grey_then p k) ∙ place_then p k)
        | None ↦ λ k. inr (
          colour_black new slot (place new slot) (length e) (still_marked slot top)
              (false_from_ne_true (new.grey ∋ slot) (black_then k)),
          none_next (at heap slot) e from there (is_more ∙ k),
        )
      ] refl

  pub one_spent : spent_at heap new slot ≡ spent_at heap cur slot + 1
  one_spent =
      elim more as (λ m. more ≡ m → spent_at heap new slot ≡ spent_at heap cur slot + 1) [
        | Some p ↦ λ k.
            colour_grey new slot (place new slot / 64) (ticks_at heap slot) (still_marked slot top) (grey_then p k)
            ∙ ap (λ n. n / 64) (place_then p k) ∙ one_part_more from
            ∙ ap (λ n. n + 1) (sym (colour_before (from / 64) (ticks_at heap slot)))
        | None ↦ λ k.
            colour_black new slot (place new slot / 64) (ticks_at heap slot) (still_marked slot top)
            (false_from_ne_true (new.grey ∋ slot) (black_then k)) ∙ last_part (at heap slot) from begun.0 begun.1 begun.2 (is_more ∙ k)
            ∙ ap (λ n. n + 1) (sym (colour_before (from / 64) (ticks_at heap slot)))
      ] refl

  -- ---- All others

  place_before : (z : ℕ) → ¬ (z ≡ slot) → place cur z ≡ 0
  place_before z other = other_upcoming cur.part cur.grey slot z up other

  place_after : (z : ℕ) → ¬ (z ≡ slot) → place new z ≡ 0
  place_after z other = ap (λ p. place_in p z) (f.shaded.part_same ∙ f.part) ∙ other_place more slot z other

  same_colour : (z black : ℕ) → ¬ (z ≡ slot) → by_colour new z 0 black ≡ by_colour cur z 0 black
  same_colour z black other =
      by_cases cur z
      (λ white. (elim (is_marked new z) as (λ b. is_marked new z ≡ b → by_colour new z 0 black ≡ 0) [
        | false ↦ λ off. colour_white new z 0 black off
        | true ↦ λ now. elim (f.shaded.added z now) [
          | inl o ↦ absurd (both_ways (is_marked cur z) white (as_cur z o))
          | inr n ↦
              colour_grey new z 0 black now n.1
        ]
      ] refl) ∙ sym (colour_white cur z 0 black white))
      (λ was grey. elim (slot_or_off z grey) [
        | inl e ↦ absurd (other e)
        | inr o ↦ colour_grey new z 0 black (still_marked z was) (f.shaded.grey_kept z o) ∙ sym (colour_grey cur z 0 black was grey)
      ])
      (λ was dark.
      colour_black new z 0 black (still_marked z was)
      (false_from_ne_true (new.grey ∋ z)
      (λ h. elim (stays_fresh z h) [ inl o ↦ both_ways (cur.grey ∋ z) dark o | inr white ↦ white was ]))
      ∙ sym (colour_black cur z 0 black was dark))

  same_so_far : (z n : ℕ) → ¬ (z ≡ slot) → so_far new z n ≡ so_far cur z n
  same_so_far z n other = ap (λ p. by_colour new z p n) (place_after z other) ∙ same_colour z n other
      ∙ sym (ap (λ p. by_colour cur z p n) (place_before z other))

  pub same_spent : (z : ℕ) → (z ≡ slot → ⊥) → spent_at heap new z ≡ spent_at heap cur z
  same_spent z other =
      ap (λ p. by_colour new z (p / 64) (ticks_at heap z)) (place_after z other) ∙ same_colour z (ticks_at heap z) other
      ∙ sym (ap (λ p. by_colour cur z (p / 64) (ticks_at heap z)) (place_before z other))

  -- ---- What was followed

  -- no element of it was followed before that the place does not tell
  before_it : (n : ℕ) → so_far old slot n ≤ from
  before_it n =
      by_cases old slot
      (λ white. omega (arith, colour_white old slot (place old slot) n white))
      (λ was grey. omega (arith, colour_grey old slot (place old slot) n was grey, on slot was grey slot_grey))
      (λ was dark.
      elim (i.fresh slot slot_grey) [ inl grey ↦ absurd (both_ways (old.grey ∋ slot) dark grey) | inr white ↦ absurd (white was) ])

  passed_of : (o : Option (List (Option ℕ))) (a b : Marking) (x y : ℕ) → elements_at heap x ≡ o → IsPassedIn o keeps heap a b x y
      → IsPassed keeps heap a b x y
  passed_of o a b x y e p = subst (λ k. IsPassedIn k keeps heap a b x y) (sym e) p

  ticked_in : (o : Option (List (Option ℕ))) (y : ℕ) → elements_at heap slot ≡ o → IsTicked keeps heap from slot y
      → IsPassedIn o keeps heap old new slot y
  ticked_in (Some e) y there t = elim t [
    | inl part ↦
        let r = array_gives (at heap slot) e from y there part in
        let below = place_within e r.0 y r.3 in
        let upto : r.0 < so_far new slot (length e) =
        elim (came_so_far e there) [ inl k ↦ omega (arith, k, r.2) | inr k ↦ omega (arith, k.0, below) ] in
        let behind = before_it (length e) in (
          r.0,
          omega (arith, behind, r.1),
          upto,
          r.3,
        )
    | inr soft ↦ array_no_soft (at heap slot) e y there soft.1
  ]
  ticked_in None y there t = (
    slot_black (sym is_more ∙ other_next (at heap slot) from there),
    elim t [
      | inl part ↦ strong_is_followed keeps heap slot y (subst (λ l. y ∈ l) (other_part (at heap slot) from there) part)
      | inr soft ↦
          followed_from keeps heap slot y (inr soft)
    ],
  )

  ticked_passed : (y : ℕ) → IsTicked keeps heap from slot y → IsPassed keeps heap old new slot y
  ticked_passed y t = passed_of (elements_at heap slot) old new slot y refl (ticked_in (elements_at heap slot) y refl t)

  passes_on : (o : Option (List (Option ℕ))) (x y : ℕ) → elements_at heap x ≡ o → IsPassedIn o keeps heap old cur x y
      → IsPassedIn o keeps heap old new x y
  passes_on (Some e) x y there p =
      let below = place_within e p.0 y p.3 in
      let upto : p.0 < so_far new x (length e) = elim (cases_eq x slot) [
        | inl is ↦
            let here = subst (λ z. elements_at heap z ≡ Some e) is there in
            let now : p.0 < so_far cur slot (length e) = subst (λ z. p.0 < so_far cur z (length e)) is p.2 in
            let past : p.0 < from = omega (arith, now, colour_before from (length e)) in
            subst (λ z. p.0 < so_far new z (length e)) (sym is)
            (elim (came_so_far e here) [ inl k ↦ omega (arith, k, past) | inr k ↦ omega (arith, k.0, below) ])
        | inr other ↦ omega (arith, p.2, same_so_far x (length e) other)
      ] in (
        p.0,
        p.1,
        upto,
        p.3,
      )
  passes_on None x y there p = (still_black x p.0, p.1)

  reaches : (o : Option (List (Option ℕ))) (x y : ℕ) → elements_at heap x ≡ o → IsPassedIn o keeps heap old new x y → IsMarked new y
  reaches (Some e) x y there p = elim (cases_eq x slot) [
    | inl is ↦
        let here = subst (λ z. elements_at heap z ≡ Some e) is there in
        let below = place_within e p.0 y p.3 in
        elim (cases_lt p.0 from) [
          | inl past ↦ still_marked y (i.follows x y (passed_of (Some e) old cur x y there (
            p.0,
            p.1,
            subst (λ z. p.0 < so_far cur z (length e)) (sym is) (omega (arith, past, colour_before from (length e))),
            p.3,
          )))
          | inr ahead ↦
              let now : p.0 < so_far new slot (length e) = subst (λ z. p.0 < so_far new z (length e)) is p.2 in
              let near : p.0 < from + 64 =
              elim (came_so_far e here) [ inl k ↦ omega (arith, k, now) | inr k ↦ omega (arith, k.1, below) ] in
              f.shaded.all y (inl (array_from (at heap slot) e from p.0 y here ahead near p.3))
        ]
    | inr other ↦
        let same = same_so_far x (length e) other in
        still_marked y (i.follows x y (passed_of (Some e) old cur x y there (
          p.0,
          p.1,
          omega (arith, p.2, same),
          p.3,
        )))
  ]
  reaches None x y there p = elim (slot_or_before x p.0) [
    | inr before ↦ still_marked y (i.follows x y (passed_of None old cur x y there (before, p.1)))
    | inl is ↦
        let here = subst (λ z. elements_at heap z ≡ None) is there in
        elim (followed_gives keeps heap slot y (subst (λ z. y ∈ followed keeps heap z) is p.1)) [
          | inl strong ↦ f.shaded.all y (inl (subst (λ l. y ∈ l) (sym (other_part (at heap slot) from here)) strong))
          | inr soft ↦ f.shaded.all y (inr soft)
        ]
  ]

  -- what a tick follows is followed
  ticked_followed : (y : ℕ) → IsTicked keeps heap from slot y → y ∈ followed keeps heap slot
  ticked_followed y t = elim t [
    | inl part ↦ strong_is_followed keeps heap slot y (part_is_edge (at heap slot) from y part)
    | inr soft ↦
        followed_from keeps heap slot y (inr soft)
  ]

  so_many_black : (n : ℕ) × (n ≤ ticks + 1) × Blackens n old new
  so_many_black =
      let bits : marked f.off ≡ marked cur = ap (count_by (λ b. b)) f.same_bits in
      let less = length_permutation cur.grey (slot ∷ f.rest) f.taken in
      elim more as (λ m. f.off.grey ≡ grey_still m slot f.rest → (n : ℕ) × (n ≤ ticks + 1) × Blackens n old new) [
        | Some p ↦ λ e. (i.black.0, omega (arith, i.black.1), omega (arith, i.black.2, f.shaded.black_same, bits, less, ap length e))
        | None ↦ λ e. (i.black.0 + 1, omega (arith, i.black.1), omega (arith, i.black.2, f.shaded.black_same, bits, less, ap length e))
      ] f.grey

  -- where an object takes at most 64 ticks
  pub one_within : ticks_at heap slot ≤ 64 → ((x : ℕ) → spent_at heap cur x ≤ 64) → (x : ℕ) → spent_at heap new x ≤ 64
  one_within few each x = elim (cases_eq x slot) [
    | inl is ↦
        let left : from / 64 + 1 ≤ ticks_at heap slot = omega (arith, begun.1, begun.2) in
        subst (λ z. spent_at heap new z ≤ 64) (sym is) (omega (arith, one_spent, colour_before (from / 64) (ticks_at heap slot), left, few))
    | inr other ↦ omega (arith, same_spent x other, each x)
  ]

  -- what is blackened takes at most 64 ticks, and an array in progress ends after the place that was reached
  pub one_each : ticks_at heap slot ≤ 64 → ((x : ℕ) → IsBlackened old cur x → ticks_at heap x ≤ 64) → (x : ℕ) → IsBlackened old new x
      → ticks_at heap x ≤ 64
  one_each few each x b = elim (slot_or_before x b) [ inl is ↦ subst (λ z. ticks_at heap z ≤ 64) (sym is) few | inr before ↦ each x before ]

  pub one_part : (p : Part) → new.part ≡ Some p → (old.part ≡ Some p) ⊎ (p.place < 64 * ticks_at heap p.slot)
  one_part p e =
      elim more as (λ m. more ≡ m → part_still m slot ≡ Some p → (old.part ≡ Some p) ⊎ (p.place < 64 * ticks_at heap p.slot)) [
        | Some q ↦ λ k h. inr (subst (λ (z : Part). z.place < 64 * ticks_at heap z.slot) (some_same (record { slot = slot; place = q }) p h)
            (next_below (at heap slot) from q (is_more ∙ k)))
        | None ↦ λ k h. no_some p h
      ] refl (sym (f.shaded.part_same ∙ f.part) ∙ e)

  pub one_goes_on : GoesOn old new
  one_goes_on x was before now =
      elim (cases_eq x slot) [
        | inl is ↦
            elim more as (λ m. more ≡ m → place old x ≤ place new x) [
              | Some p ↦ λ k.
                  let here : place old slot ≤ from =
                  on slot (subst (IsMarked old) is was) (subst (λ z. z ∈ old.grey) is before) slot_grey in
                  subst (λ z. place old z ≤ place new z) (sym is) (omega (arith, here, place_then p k))
              | None ↦ λ k. absurd (black_then k (subst (λ z. z ∈ new.grey) is now))
            ] refl
        | inr other ↦ elim (stays_fresh x now) [
          | inl grey ↦ omega (arith, on x was before grey, place_before x other)
          | inr white ↦ absurd (white (i.kept x was))
        ]
      ]

  pub one_passed : Blackening keeps heap (ticks + 1) old new
  one_passed =
      record {
        spends = omega (arith, i.spends, total_one (spent_at heap cur) (spent_at heap new) (length heap) slot inside same_spent one_spent);
        black = so_many_black;
        kept = λ x h. still_marked x (i.kept x h);
        fresh = λ x h. elim (stays_fresh x h) [ inl o ↦ i.fresh x o | inr white ↦ inr (λ was. white (i.kept x was)) ];
        follows = λ x y p. reaches (elements_at heap x) x y refl p;
        no_more = λ y h. elim (f.shaded.added y h) [
          | inl o ↦ elim (i.no_more y (as_cur y o)) [
            | inl z ↦ inl z
            | inr by ↦ inr (by.0, still_marked by.0 by.1, passes_on (elements_at heap by.0) by.0 y refl by.2)
          ]
          | inr n ↦ inr (slot, still_marked slot top, ticked_passed y n.0)
        ];
        reached = λ y h. elim (f.shaded.added y h) [
          | inl o ↦ i.reached y (as_cur y o)
          | inr n ↦ elim (i.reached slot top) [
            | inl was ↦ elim (i.fresh slot slot_grey) [
              | inl grey ↦ inr (slot, grey, was, y ∷ [], (ticked_followed y n.0, refl))
              | inr white ↦ absurd (white was)
            ]
            | inr p ↦ inr (p.0, p.1, p.2, p.3 ++ y ∷ [], one_more keeps heap old.grey p.0 p.3 slot y p.4 (ticked_followed y n.0))
          ]
        ];
      }
