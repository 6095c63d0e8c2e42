-- A list, one place after another.
use Rattle.std.proofs.Common.{◌≡◌, ℕ, zero, suc, ◌+◌, ◌<◌, List, [], ◌∷◌, ◌++◌, Option, Some, None, length, take, slice_index_or, refl, sym}
use Rattle.std.proofs.Common.{◌∙◌, ap, subst, add-one, arith}
use Rattle.std.proofs.Math.Seq.{take-suc}
use Rattle.std.specs.Prelude.{slice_get}
use Rattle.std.proofs.lemmas.Option.{same_Some, slice_get_within, slice_get-get_or, get_or_from_slice_get}
use Rattle.jlr_machine.specs.Objects.{◌∈◌}
use Rattle.jlr_laws.proofs.Frames.{no_some}
use Rattle.jlr_laws.proofs.Sets.{in_front}
use Rattle.jlr_laws.proofs.Clearing.{in_right}

pub took : (items : List ℕ) (i d : ℕ) → i < length items → take (i + 1) items ≡ take i items ++ slice_index_or items i d ∷ []
took items i d l = ap (λ n. take n items) (add-one i) ∙ take-suc items i d l

-- an item is in the whole list
pub member_in : (items : List ℕ) (i d : ℕ) → i < length items → slice_index_or items i d ∈ items
member_in [] i d l = absurd (omega (arith, l))
member_in (y ∷ items) zero d l = in_front y y items refl
member_in (y ∷ items) (suc i) d l = in_right (slice_index_or items i d) (y ∷ []) items (member_in items i d (omega (arith, l)))

pub member_in_list : (items : List ℕ) (i d x : ℕ) → slice_get items i ≡ Some d → Some d ≡ Some x → x ∈ items
member_in_list items i d x here e =
    let within = slice_get_within items i d here in
    let read = get_or_from_slice_get items i d d here in
    subst (λ y. y ∈ items) (read ∙ same_Some d x e) (member_in items i d within)

-- one place more
pub took_one : (items : List ℕ) (i d : ℕ) → slice_get items i ≡ Some d → take (i + 1) items ≡ take i items ++ d ∷ []
took_one items i d here = took items i d (slice_get_within items i d here)
    ∙ ap (λ y. take i items ++ y ∷ []) (get_or_from_slice_get items i d d here)

-- within a list there is one at each place
pub one_there : {P : Type 0} (items : List ℕ) (i : ℕ) → slice_get items i ≡ None → i < length items → P
one_there items i none within = no_some (slice_index_or items i 0) (sym none ∙ slice_get-get_or items i 0 within)

-- what comes after the one at a place, wherever the list is parted by it, is at the next place
following : (items : List ℕ) (i d : ℕ) (next : Option ℕ) → slice_get items i ≡ Some d
    → ((before after : List ℕ) → items ≡ before ++ d ∷ after → next ≡ slice_get after 0) → next ≡ slice_get items (suc i)
following [] i d next here parts = no_some d here
following (y ∷ items) zero d next here parts = parts [] items (ap (λ z. z ∷ items) (same_Some y d here))
following (y ∷ items) (suc i) d next here parts =
    following items i d next here (λ before after e. parts (y ∷ before) after (ap (λ l. y ∷ l) e))

pub comes_next : (items : List ℕ) (i d : ℕ) (next : Option ℕ) → slice_get items i ≡ Some d
    → ((before after : List ℕ) → items ≡ before ++ d ∷ after → next ≡ slice_get after 0) → next ≡ slice_get items (i + 1)
comes_next items i d next here parts = following items i d next here parts ∙ ap (slice_get items) (sym (add-one i))
