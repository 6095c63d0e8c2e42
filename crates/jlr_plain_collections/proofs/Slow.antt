-- Lemmas on lists for the code that computes the definitions.
use Rattle.std.proofs.Common.{◌≡◌, ℕ, zero, suc, ◌+◌, ◌<◌, ◌≤◌, Bool, true, false, ◌&&◌, List, [], ◌∷◌, ◌++◌, length, take, drop, refl, sym}
use Rattle.std.proofs.Common.{◌∙◌, ap, subst, arith, nat_lt, slice_index_or, Option, Some, None, option_to_list, filter_map}
use Rattle.std.proofs.lemmas.List.{append_assoc, take_more}
use Rattle.std.proofs.lemmas.List.Elements.{filter_map-append}
use Rattle.std.proofs.lemmas.Grind.{flat_map-append}
use Rattle.std.specs.List.{flat_map}
use Rattle.jlr_machine.specs.declared.machine.Session.{Session}
use Rattle.jlr_machine.specs.declared.object.Object.{Object}
use Rattle.jlr_machine.specs.Objects.{Heap, is_above, is_rising}
use Rattle.jlr_machine.specs.Edges.{is_own_root, active_cleanables, slot_in}
use Rattle.std.proofs.Common.{cond}
use Rattle.std.specs.List.{cons_option}
use Rattle.std.proofs.lemmas.Bool.{and_parts, and_from, ltb-true, lt-ltb}
use Rattle.jlr_types.specs.declared.FieldValue.{FieldValue}

above_further : (a b : ℕ) (xs : List ℕ) → nat_lt a b ≡ true → is_above b xs ≡ true → is_above a xs ≡ true
above_further a b [] h k = refl
above_further a b (x ∷ xs) h k =
    let p = and_parts (nat_lt b x) (is_above b xs) k in
    and_from (nat_lt a x) (is_above a xs) (lt-ltb a x (let l = ltb-true a b h in let m = ltb-true b x p.0 in omega (arith, l, m)))
    (above_further a b xs h p.1)

pub same_bools : (a b : Bool) → (a ≡ true → b ≡ true) → (b ≡ true → a ≡ true) → a ≡ b
same_bools true b h k = sym (h refl)
same_bools false true h k = k refl
same_bools false false h k = refl

neighbours : (a b : ℕ) (xs : List ℕ) → is_rising (a ∷ b ∷ xs) ≡ (nat_lt a b && is_rising (b ∷ xs))
neighbours a b xs =
    same_bools (is_rising (a ∷ b ∷ xs)) (nat_lt a b && is_rising (b ∷ xs))
    (λ h.
    let p = and_parts (is_above a (b ∷ xs)) (is_rising (b ∷ xs)) h in
    let q = and_parts (nat_lt a b) (is_above a xs) p.0 in
    and_from (nat_lt a b) (is_rising (b ∷ xs)) q.0 p.1)
    (λ h.
    let p = and_parts (nat_lt a b) (is_rising (b ∷ xs)) h in
    let q = and_parts (is_above b xs) (is_rising xs) p.1 in
    and_from (is_above a (b ∷ xs)) (is_rising (b ∷ xs)) (and_from (nat_lt a b) (is_above a xs) p.0 (above_further a b xs p.0 q.0)) p.1)

pub pair_at : (xs : List ℕ) (j : ℕ) → suc j < length xs → (x y : ℕ) → x ≡ slice_index_or xs j x → y ≡ slice_index_or xs (suc j) y
    → is_rising (drop j xs) ≡ (nat_lt x y && is_rising (drop (suc j) xs))
pair_at [] j h x y e f = absurd (omega (arith, h))
pair_at (a ∷ []) j h x y e f = absurd (omega (arith, h))
pair_at (a ∷ b ∷ xs) zero h x y e f =
    neighbours a b xs ∙ ap (λ n. nat_lt n b && is_rising (b ∷ xs)) (sym e) ∙ ap (λ n. nat_lt x n && is_rising (b ∷ xs)) (sym f)
pair_at (a ∷ b ∷ xs) (suc j) h x y e f = pair_at (b ∷ xs) j (omega (arith, h)) x y e f

pub rising_step : (xs : List ℕ) (i : ℕ) → i + 1 < length xs → (x y : ℕ) → x ≡ slice_index_or xs i x → y ≡ slice_index_or xs (i + 1) y
    → x < y → (r : Bool) → is_rising (drop i xs) ≡ r → is_rising (drop (i + 1) xs) ≡ r
rising_step xs i h x y e f l r k =
    let next : suc i ≡ i + 1 = omega arith in
    sym (subst (λ n. is_rising (drop i xs) ≡ (nat_lt x y && is_rising (drop n xs))) next
    (pair_at xs i (omega (arith, h)) x y e (subst (λ n. y ≡ slice_index_or xs n y) (sym next) f))
    ∙ ap (λ b. b && is_rising (drop (i + 1) xs)) (lt-ltb x y l)) ∙ k

rising_end : (xs : List ℕ) (j : ℕ) → length xs ≤ suc j → is_rising (drop j xs) ≡ true
rising_end [] zero h = refl
rising_end [] (suc j) h = refl
rising_end (a ∷ []) zero h = refl
rising_end (a ∷ b ∷ xs) zero h = absurd (omega (arith, h))
rising_end (a ∷ xs) (suc j) h = rising_end xs j (omega (arith, h))

pub rising_all : (xs : List ℕ) (i : ℕ) → length xs ≤ i + 1 → (r : Bool) → is_rising (drop i xs) ≡ r → true ≡ r
rising_all xs i h r k = sym (rising_end xs i (omega (arith, h))) ∙ k

pub one_field : (o : Option ℕ) → cons_option o [] ≡ option_to_list o
one_field None = refl
one_field (Some s) = refl

front : (o : Option ℕ) (xs ys zs : List ℕ) → xs ≡ ys ++ zs → cons_option o xs ≡ cons_option o ys ++ zs
front None xs ys zs r = r
front (Some s) xs ys zs r = ap (λ l. s ∷ l) r

fields_next : (xs : List FieldValue) (i : ℕ) (x : FieldValue) → i < length xs → x ≡ slice_index_or xs i x
    → filter_map slot_in (take (suc i) xs) ≡ filter_map slot_in (take i xs) ++ option_to_list (slot_in x)
fields_next [] i x h e = absurd (omega (arith, h))
fields_next (a ∷ xs) zero x h e = one_field (slot_in a) ∙ ap (λ y. option_to_list (slot_in y)) (sym e)
fields_next (a ∷ xs) (suc i) x h e = front (slot_in a) (filter_map slot_in (take (suc i) xs)) (filter_map slot_in (take i xs))
    (option_to_list (slot_in x)) (fields_next xs i x (omega (arith, h)) e)

pub fields_more : (xs : List FieldValue) (i : ℕ) (x : FieldValue) → i < length xs → x ≡ slice_index_or xs i x
    → filter_map slot_in (take (i + 1) xs) ≡ filter_map slot_in (take i xs) ++ option_to_list (slot_in x)
fields_more xs i x h e = let next : suc i ≡ i + 1 = omega arith in
    subst (λ n. filter_map slot_in (take n xs) ≡ filter_map slot_in (take i xs) ++ option_to_list (slot_in x)) next (fields_next xs i x h e)

pub one_more_field : (xs : List FieldValue) (i : ℕ) (x : FieldValue) (o : Option ℕ) (before now all : List ℕ) → i < length xs
    → x ≡ slice_index_or xs i x → o ≡ slot_in x → now ≡ before ++ filter_map slot_in (take i xs) → all ≡ now ++ option_to_list o
    → all ≡ before ++ filter_map slot_in (take (i + 1) xs)
one_more_field xs i x o before now all h e f n a =
    a ∙ ap (λ l. l ++ option_to_list o) n ∙ ap (λ q. (before ++ filter_map slot_in (take i xs)) ++ option_to_list q) f
    ∙ append_assoc before (filter_map slot_in (take i xs)) (option_to_list (slot_in x))
    ∙ ap (λ l. before ++ l) (sym (fields_more xs i x h e))

-- one step of a loop that appends what f gives of each element
pub loop_more : {A B : Type 0} (f : List A → List B) → ((xs ys : List A) → f (xs ++ ys) ≡ f xs ++ f ys)
    → (xs : List A) (i : ℕ) (x : A) (before now new : List B) → i < length xs → x ≡ slice_index_or xs i x → now ≡ before ++ f (take i xs)
    → new ≡ now ++ f (x ∷ []) → new ≡ before ++ f (take (i + 1) xs)
loop_more f append xs i x before now new h e n a =
    a ∙ ap (λ l. l ++ f (x ∷ [])) n ∙ append_assoc before (f (take i xs)) (f (x ∷ []))
    ∙ ap (λ l. before ++ l) (sym (append (take i xs) (x ∷ []))
    ∙ ap f (sym (take_more xs i x h ∙ ap (λ y. take i xs ++ y ∷ []) (sym e))))

pub handles_append : (xs ys : List (Option ℕ)) → filter_map (λ h. h) (xs ++ ys) ≡ filter_map (λ h. h) xs ++ filter_map (λ h. h) ys
handles_append = filter_map-append (λ h. h)

pub sessions_append : {B : Type 0} (g : Session → List B) (xs ys : List (Option Session))
    → flat_map g (filter_map (λ s. s) (xs ++ ys)) ≡ flat_map g (filter_map (λ s. s) xs) ++ flat_map g (filter_map (λ s. s) ys)
sessions_append g xs ys = ap (flat_map g) (filter_map-append (λ s. s) xs ys)
    ∙ flat_map-append g (filter_map (λ s. s) xs) (filter_map (λ s. s) ys)

cleanables_next : (n : ℕ) (xs : Heap) (i k : ℕ) (x : Option Object) → i < length xs → x ≡ slice_index_or xs i x → k ≡ n + i
    → active_cleanables n (take (suc i) xs) ≡ active_cleanables n (take i xs) ++ cond (is_own_root x) (k ∷ []) []
cleanables_next n [] i k x h e f = absurd (omega (arith, h))
cleanables_next n (o ∷ xs) zero k x h e f =
    let same : n ≡ k = omega (arith, f) in
    elim (is_own_root o) as (λ b. cond b (n ∷ []) [] ++ [] ≡ cond b (n ∷ []) []) [ true ↦ refl | false ↦ refl ]
    ∙ ap (λ p. cond (is_own_root p) (n ∷ []) []) (sym e) ∙ ap (λ m. cond (is_own_root x) (m ∷ []) []) same
cleanables_next n (o ∷ xs) (suc i) k x h e f =
    ap (λ l. cond (is_own_root o) (n ∷ []) [] ++ l) (cleanables_next (suc n) xs i k x (omega (arith, h)) e (omega (arith, f)))
    ∙ sym (append_assoc (cond (is_own_root o) (n ∷ []) []) (active_cleanables (suc n) (take i xs)) (cond (is_own_root x) (k ∷ []) []))

pub cleanables_more : (xs : Heap) (i : ℕ) (x : Option Object) (before now new : List ℕ) → i < length xs → x ≡ slice_index_or xs i x
    → now ≡ before ++ active_cleanables 0 (take i xs) → new ≡ now ++ cond (is_own_root x) (i ∷ []) [] → new ≡ before
    ++ active_cleanables 0 (take (i + 1) xs)
cleanables_more xs i x before now new h e n a =
    let next : suc i ≡ i + 1 = omega arith in
    a ∙ ap (λ l. l ++ cond (is_own_root x) (i ∷ []) []) n
    ∙ append_assoc before (active_cleanables 0 (take i xs)) (cond (is_own_root x) (i ∷ []) [])
    ∙ ap (λ l. before ++ l) (subst (λ m. active_cleanables 0 (take i xs)
    ++ cond (is_own_root x) (i ∷ []) [] ≡ active_cleanables 0 (take m xs)) next (sym (cleanables_next 0 xs i i x h e (omega arith))))
