-- What callers see of what lies in the cells.
use Rattle.std.proofs.Common.{◌≡◌, ℕ, zero, suc, ◌+◌, ◌<◌, Bool, true, false, cond, List, [], ◌∷◌, Option, Some, None, length, map, set}
use Rattle.std.proofs.Common.{replicate, refl, sym, ap, ◌∙◌, arith}
use Rattle.std.specs.Prelude.{count_by, is_some, option_map}
use Rattle.std.proofs.lemmas.Bool.{both_ways}
use Rattle.std.proofs.lemmas.List.Sums.{sum_by-cons}
use Rattle.jlr_machine.specs.declared.object.Object.{Object}
use Rattle.jlr_machine.specs.Objects.{Heap, at, change_at, occupied}
use Rattle.jlr_sets.specs.SlotSets.{is_in, slots_of}
use Rattle.jlr_sets.proofs.Counts.{count_all}
use Rattle.jlr_cells.specs.Showing.{shown}

-- ---- What is shown

same_none : (b : Bool) → at {A = Object} [] 0 ≡ cond b None None
same_none true = refl
same_none false = refl

pub at-shown : (kept : List Bool) (heap : Heap) (s : ℕ) → at (shown kept heap) s ≡ cond (is_in kept s) (at heap s) None
at-shown kept [] s = same_none (is_in kept s)
at-shown [] (o ∷ heap) zero = refl
at-shown [] (o ∷ heap) (suc s) = at-shown [] heap s
at-shown (b ∷ kept) (o ∷ heap) zero = refl
at-shown (b ∷ kept) (o ∷ heap) (suc s) = at-shown kept heap s

pub length-shown : (kept : List Bool) (heap : Heap) → length (shown kept heap) ≡ length heap
length-shown kept [] = refl
length-shown [] (o ∷ heap) = ap suc (length-shown [] heap)
length-shown (b ∷ kept) (o ∷ heap) = ap suc (length-shown kept heap)

pub shown-set : (kept : List Bool) (heap : Heap) (s : ℕ) (o : Option Object)
    → shown kept (set heap s o) ≡ set (shown kept heap) s (cond (is_in kept s) o None)
shown-set kept [] s o = refl
shown-set [] (x ∷ heap) zero o = refl
shown-set [] (x ∷ heap) (suc s) o = ap (λ l. None ∷ l) (shown-set [] heap s o)
shown-set (b ∷ kept) (x ∷ heap) zero o = refl
shown-set (b ∷ kept) (x ∷ heap) (suc s) o = ap (λ l. cond b x None ∷ l) (shown-set kept heap s o)

set_alike : (heap : Heap) (s : ℕ) (o : Option Object) → o ≡ at heap s → set heap s o ≡ heap
set_alike [] s o e = refl
set_alike (x ∷ heap) zero o e = ap (λ y. y ∷ heap) e
set_alike (x ∷ heap) (suc s) o e = ap (λ l. x ∷ l) (set_alike heap s o e)

-- what is not kept may change
pub shown_hidden : (kept : List Bool) (heap : Heap) (s : ℕ) (o : Option Object) → is_in kept s ≡ false
    → shown kept (set heap s o) ≡ shown kept heap
shown_hidden kept heap s o off =
    shown-set kept heap s o
    ∙ set_alike (shown kept heap) s (cond (is_in kept s) o None)
    (ap (λ b. cond b o None) off ∙ sym (at-shown kept heap s ∙ ap (λ b. cond b (at heap s) None) off))

-- what is kept changes
pub shown_changed : (kept : List Bool) (heap : Heap) (s : ℕ) (o : Option Object) → is_in kept s ≡ true
    → shown kept (set heap s o) ≡ set (shown kept heap) s o
shown_changed kept heap s o on = shown-set kept heap s o ∙ ap (λ b. set (shown kept heap) s (cond b o None)) on

-- one more is kept
pub shown_more : (kept : List Bool) (heap : Heap) (s : ℕ) (o : Option Object) → s < length kept
    → shown (set kept s true) (set heap s o) ≡ set (shown kept heap) s o
shown_more kept [] s o h = refl
shown_more [] (x ∷ heap) s o h = absurd (omega (arith, h))
shown_more (b ∷ kept) (x ∷ heap) zero o h = refl
shown_more (b ∷ kept) (x ∷ heap) (suc s) o h = ap (λ l. cond b x None ∷ l) (shown_more kept heap s o (omega (arith, h)))

-- of what is shown of the one, less is shown
pub shown_twice : (kept occ : List Bool) (heap : Heap) → ((s : ℕ) → is_in kept s ≡ true → is_in occ s ≡ true)
    → shown kept (shown occ heap) ≡ shown kept heap
shown_twice kept occ [] within = refl
shown_twice [] [] (o ∷ heap) within = ap (λ l. None ∷ l) (shown_twice [] [] heap within)
shown_twice [] (c ∷ occ) (o ∷ heap) within = ap (λ l. None ∷ l) (shown_twice [] occ heap (λ s h. absurd (both_ways false refl h)))
shown_twice (true ∷ kept) [] (o ∷ heap) within = absurd (both_ways false refl (within 0 refl))
shown_twice (false ∷ kept) [] (o ∷ heap) within = ap (λ l. None ∷ l) (shown_twice kept [] heap (λ s h. within (suc s) h))
shown_twice (true ∷ kept) (true ∷ occ) (o ∷ heap) within = ap (λ l. o ∷ l) (shown_twice kept occ heap (λ s h. within (suc s) h))
shown_twice (true ∷ kept) (false ∷ occ) (o ∷ heap) within = absurd (both_ways false refl (within 0 refl))
shown_twice (false ∷ kept) (c ∷ occ) (o ∷ heap) within = ap (λ l. None ∷ l) (shown_twice kept occ heap (λ s h. within (suc s) h))

-- where all that lies anywhere is kept, all is shown
pub shown_all : (kept : List Bool) (heap : Heap) → ((s : ℕ) → is_some (at heap s) ≡ true → is_in kept s ≡ true) → shown kept heap ≡ heap
shown_all kept [] all = refl
shown_all [] (None ∷ heap) all = ap (λ l. None ∷ l) (shown_all [] heap (λ s h. all (suc s) h))
shown_all [] (Some o ∷ heap) all = absurd (both_ways false refl (all 0 refl))
shown_all (true ∷ kept) (o ∷ heap) all = ap (λ l. o ∷ l) (shown_all kept heap (λ s h. all (suc s) h))
shown_all (false ∷ kept) (None ∷ heap) all = ap (λ l. None ∷ l) (shown_all kept heap (λ s h. all (suc s) h))
shown_all (false ∷ kept) (Some o ∷ heap) all = absurd (both_ways false refl (all 0 refl))

pub shown_none : (n : ℕ) (kept : List Bool) → shown kept (replicate n None) ≡ replicate n None
shown_none zero kept = refl
shown_none (suc n) [] = ap (λ l. None ∷ l) (shown_none n [])
shown_none (suc n) (true ∷ kept) = ap (λ l. None ∷ l) (shown_none n kept)
shown_none (suc n) (false ∷ kept) = ap (λ l. None ∷ l) (shown_none n kept)

-- ---- How many are shown

one_shown : (b : Bool) (o : Option Object) → (b ≡ true → is_some o ≡ true) → is_some (cond b o None) ≡ b
one_shown true o h = h refl
one_shown false o h = refl

counted : (kept : List Bool) (heap : Heap) → length kept ≡ length heap → ((s : ℕ) → is_in kept s ≡ true → is_some (at heap s) ≡ true)
    → occupied (shown kept heap) ≡ count_by (λ b. b) kept
counted [] [] e h = refl
counted [] (o ∷ heap) e h = absurd (omega (arith, e))
counted (b ∷ kept) [] e h = absurd (omega (arith, e))
counted (b ∷ kept) (o ∷ heap) e h =
    sum_by-cons (λ x. cond (is_some x) 1 0) (cond b o None) (shown kept heap)
    ∙ ap (λ x. cond x 1 0 + occupied (shown kept heap)) (one_shown b o (h 0))
    ∙ ap (λ n. cond b 1 0 + n) (counted kept heap (omega (arith, e)) (λ s. h (suc s)))
    ∙ sym (sum_by-cons (λ x. cond x 1 0) b kept)

pub occupied-shown : (kept : List Bool) (heap : Heap) → length kept ≡ length heap
    → ((s : ℕ) → is_in kept s ≡ true → is_some (at heap s) ≡ true)
    → occupied (shown kept heap) ≡ length (slots_of kept)
occupied-shown kept heap long all = counted kept heap long all ∙ sym (count_all kept)

-- ---- Changes

pub used_at : (heap : Heap) (s : ℕ) → is_in (map is_some heap) s ≡ is_some (at heap s)
used_at [] s = refl
used_at (o ∷ heap) zero = refl
used_at (o ∷ heap) (suc s) = used_at heap s

still_some : (o : Option Object) (f : Object → Object) → is_some (option_map f o) ≡ is_some o
still_some None f = refl
still_some (Some o) f = refl

pub used_changed : (store : Heap) (s : ℕ) (f : Object → Object) → map is_some (change_at store s f) ≡ map is_some store
used_changed [] s f = refl
used_changed (o ∷ store) zero f = ap (λ b. b ∷ map is_some store) (still_some o f)
used_changed (o ∷ store) (suc s) f = ap (λ l. is_some o ∷ l) (used_changed store s f)

-- whether an object is shown
pub is_shown : (kept : List Bool) (heap : Heap) (s : ℕ) → ((k : ℕ) → is_in kept k ≡ true → is_some (at heap k) ≡ true)
    → is_in kept s ≡ is_some (at (shown kept heap) s)
is_shown kept heap s all = sym (ap is_some (at-shown kept heap s) ∙ one_shown (is_in kept s) (at heap s) (all s))

-- whether there is an object does not change where an object does
pub changed_some : (store : Heap) (s k : ℕ) (f : Object → Object) → is_some (at (change_at store s f) k) ≡ is_some (at store k)
changed_some store s k f = sym (used_at (change_at store s f) k) ∙ ap (λ l. is_in l k) (used_changed store s f) ∙ used_at store k
