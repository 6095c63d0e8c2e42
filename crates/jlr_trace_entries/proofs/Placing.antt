-- Tables that are made of lists: what is added behind a table's last place.
use Rattle.std.proofs.Common.{◌≡◌, ℕ, zero, suc, ◌+◌, ◌-◌, ◌<◌, ◌≤◌, ◌*◌, ltb, ◌||◌, inl, inr, Bool, true, false, cond, IsTrue, List, []}
use Rattle.std.proofs.Common.{◌∷◌, ◌++◌, length, take, drop, get_or, Option, Some, None, Result, Ok, Err, refl, sym, ap, subst, ◌∙◌}
use Rattle.std.proofs.Common.{append_assoc, arith}
use Rattle.std.specs.Prelude.{replicate}
use Rattle.std.specs.List.{list_any}
use Rattle.std.proofs.lemmas.Bool.{ltb-true, lt-ltb, le-ltb, cases_lt}
use Rattle.std.proofs.Math.Bool.{or-true, or-false}
use Rattle.std.proofs.lemmas.List.Folds.{list_any_more}
use Rattle.std.proofs.lemmas.List.{append-nil, length-append, length-replicate, nil_from_length}
use Rattle.std.proofs.lemmas.Grind.{replicate_next}
use Rattle.std.proofs.Math.Seq.{take-suc, drop-cons}
use Rattle.jlr_machine.specs.declared.object.Object.{Object}
use Rattle.std.specs.Int.{w32}
use Rattle.jlr_trace_fields.specs.declared.fault.Fault.TheVariants.{Short, Range}
use Rattle.jlr_trace_fields.specs.declared.version.Version.{Version}
use Rattle.jlr_trace_fields.specs.Reading.{◌>>=◌, byte_at, number_at}
use Rattle.jlr_trace_fields.specs.Items.{may_follow, rising_items_at, rising_at, Rises}
use Rattle.jlr_trace_fields.specs.declared.fault.Fault.{Fault}
use Rattle.jlr_trace_fields.proofs.Steps.{bind_ok, ok_is}
use Rattle.jlr_trace_fields.proofs.Lists.{guard_not}
use Rattle.jlr_trace_fields.specs.Objects.{object_read}
use Rattle.jlr_trace_fields.specs.Records.{held_behind, held_after, placed_behind, placed_after}
use Rattle.jlr_trace_fields.specs.declared.parts.record.Placed.{Placed}
use Rattle.jlr_trace_fields.specs.declared.parts.record.Held.{Held}
use Rattle.jlr_trace_entries.specs.Images.{listed_from, placed, handle_held}

-- a test that did not fail
tested : {A : Type 0} (b : Bool) (d : Fault) (r : Result A Fault) (y : A) → cond b r (Err d) ≡ Ok y → (b ≡ true) × (r ≡ Ok y)
tested true d r y e = (refl, e)
tested false d r y e = absurd cc

listed-append : {A B : Type 0} (make : ℕ → A → B) (n : ℕ) (xs ys : List (Option A)) → listed_from make n (xs ++ ys) ≡ listed_from make n xs
    ++ listed_from make (n + length xs) ys
listed-append make n [] ys = ap (λ k. listed_from make k ys) (omega arith)
listed-append make n (None ∷ xs) ys = listed-append make (suc n) xs ys
    ∙ ap (λ k. listed_from make (suc n) xs ++ listed_from make k ys) (omega arith)
listed-append {A} {B} make n (Some x ∷ xs) ys = ap (λ (l : List B). make n x ∷ l)
    (listed-append make (suc n) xs ys ∙ ap (λ k. listed_from make (suc n) xs ++ listed_from make k ys) (omega arith))

nothing-more : {A B : Type 0} (make : ℕ → A → B) (n k : ℕ) → listed_from make n (replicate k None) ≡ []
nothing-more make n zero = refl
nothing-more make n (suc k) = nothing-more make (suc n) k

-- places with nothing change nothing
pub padded : {A B : Type 0} (make : ℕ → A → B) (xs : List (Option A)) (k : ℕ)
    → listed_from make 0 (xs ++ replicate k None) ≡ listed_from make 0 xs
padded {A} {B} make xs k = listed-append make 0 xs (replicate k None)
    ∙ ap (λ (l : List B). listed_from make 0 xs ++ l) (nothing-more make (0 + length xs) k) ∙ append-nil (listed_from make 0 xs)

padded-length : {A : Type 0} (xs : List (Option A)) (n : ℕ) → length xs ≤ n → length (xs ++ replicate (n - length xs) None) ≡ n
padded-length {A} xs n le =
    let none : Option A = None in
    omega (arith, length-append xs (replicate (n - length xs) none), length-replicate (n - length xs) none)

-- and something at a place above them is listed behind
pub put-behind : {A B : Type 0} (make : ℕ → A → B) (xs : List (Option A)) (n : ℕ) (x : A) → length xs ≤ n
    → listed_from make 0 ((xs ++ replicate (n - length xs) None) ++ Some x ∷ []) ≡ listed_from make 0 xs ++ make n x ∷ []
put-behind {A} {B} make xs n x le =
    let ys : List (Option A) = xs ++ replicate (n - length xs) None in
    let at : 0 + length ys ≡ n = omega (arith, padded-length xs n le) in
    listed-append make 0 ys (Some x ∷ []) ∙ ap (λ k. listed_from make 0 ys ++ make k x ∷ []) at ∙ ap (λ (l : List B). l ++ make n x ∷ [])
    (padded make xs (n - length xs))

pub put-length : {A : Type 0} (xs : List (Option A)) (n : ℕ) (x : A) → length xs ≤ n
    → length ((xs ++ replicate (n - length xs) None) ++ Some x ∷ []) ≡ suc n
put-length {A} xs n x le = length-append (xs ++ replicate (n - length xs) None) (Some x ∷ []) ∙ omega (arith, padded-length xs n le)

pub pad-next : {A : Type 0} (xs : List (Option A)) (k : ℕ) → length xs ≤ k → (xs ++ replicate (k - length xs) None) ++ None ∷ [] ≡ xs
    ++ replicate (k + 1 - length xs) None
pad-next {A} xs k le =
    let more : k + 1 - length xs ≡ (k - length xs) + 1 = omega arith in
    let none : Option A = None in
    append_assoc xs (replicate (k - length xs) none) (none ∷ [])
    ∙ ap (λ (l : List (Option A)). xs ++ l) (sym (replicate_next (k - length xs) none)) ∙ ap (λ n. xs ++ replicate n none) (sym more)

pub pad-more : {A : Type 0} (xs ys zs : List (Option A)) (k : ℕ) → zs ≡ ys ++ None ∷ [] → ys ≡ xs ++ replicate (k - length xs) None
    → length xs ≤ k → zs ≡ xs ++ replicate (k + 1 - length xs) None
pad-more {A} xs ys zs k last before le = last ∙ ap (λ (l : List (Option A)). l ++ None ∷ []) before ∙ pad-next xs k le

pub pad-done : {A : Type 0} (xs zs : List (Option A)) (k upto : ℕ) → zs ≡ xs ++ replicate (k - length xs) None
    → k - length xs ≡ upto - length xs → zs ≡ xs ++ replicate (upto - length xs) None
pad-done {A} xs zs k upto e same = e ∙ ap (λ n. xs ++ replicate n None) same

-- ---- Keys that rise are above what was placed

-- the key before a place
abbrev pub before_of : ℕ → Option ℕ
before_of zero = None
before_of (suc n) = Some n

pub above-before : (n key : ℕ) → IsTrue (may_follow (before_of n) key) → n ≤ key
above-before zero key h = omega arith
above-before (suc n) key h = let lt : n < key = ltb-true n key h in omega arith

-- the place behind a key
abbrev pub next_of : Option ℕ → ℕ
next_of None = 0
next_of (Some key) = suc key

pub above-next : (before : Option ℕ) (key : ℕ) → IsTrue (may_follow before key) → next_of before ≤ key
above-next None key h = omega arith
above-next (Some b) key h = let lt : b < key = ltb-true b key h in omega arith

held_follows : (before : Option ℕ) (bytes : List ℕ) (x : Held) (rest : List ℕ) → held_after before bytes ≡ Ok (x, rest)
    → IsTrue (may_follow before x.handle)
unfolding held_after
held_follows before bytes x rest e =
    let a = bind_ok (byte_at bytes) (λ k. cond (may_follow before k.0) (held_behind k.0 k.1) (Err Range)) (x, rest) e in
    let g = tested (may_follow before a.0.0) Range (held_behind a.0.0 a.0.1) (x, rest) a.2 in
    let b = bind_ok (number_at w32 a.0.1) (λ s. Ok (handle_held a.0.0 s.0, s.1)) (x, rest) g.1 in
    let made : Held × List ℕ = (handle_held a.0.0 b.0.0, b.0.1) in
    subst (λ (y : Held × List ℕ). IsTrue (may_follow before y.0.handle)) (ok_is made (x, rest) b.2) g.0

pub placed_follows : (version : Version) (before : Option ℕ) (bytes : List ℕ) (x : Placed) (rest : List ℕ)
    → placed_after version before bytes ≡ Ok (x, rest) → IsTrue (may_follow before x.slot)
unfolding placed_after
placed_follows version before bytes x rest e =
    let a = bind_ok (number_at w32 bytes) (λ k. cond (may_follow before k.0) (placed_behind version k.0 k.1) (Err Range)) (x, rest) e in
    let g = tested (may_follow before a.0.0) Range (placed_behind version a.0.0 a.0.1) (x, rest) a.2 in
    let b = bind_ok (object_read version a.0.1) (λ o. Ok (placed a.0.0 o.0, o.1)) (x, rest) g.1 in
    let made : Placed × List ℕ = (placed a.0.0 b.0.0, b.0.1) in
    subst (λ (y : Placed × List ℕ). IsTrue (may_follow before y.0.slot)) (ok_is made (x, rest) b.2) g.0

held_rises : (n : ℕ) (before : Option ℕ) (bytes : List ℕ) (xs : List Held) (rest : List ℕ)
    → rising_items_at held_after (λ h. h.handle) n before bytes ≡ Ok (xs, rest) → Rises (λ h. h.handle) before xs
unfolding rising_items_at
held_rises zero before bytes xs rest e =
    let nothing : List Held × List ℕ = ([], bytes) in
    subst (λ (y : List Held × List ℕ). Rises (λ h. h.handle) before y.0) (ok_is nothing (xs, rest) e) tt
held_rises (suc n) before bytes xs rest e =
    let a = bind_ok (held_after before bytes) (λ first. rising_items_at held_after (λ h. h.handle) n (Some first.0.handle) first.1 >>=
    λ others. Ok (first.0 ∷ others.0, others.1)) (xs, rest) e in
    let b = bind_ok (rising_items_at held_after (λ h. h.handle) n (Some a.0.0.handle) a.0.1) (λ others. Ok (a.0.0 ∷ others.0, others.1))
    (xs, rest) a.2 in
    let made : List Held × List ℕ = (a.0.0 ∷ b.0.0, b.0.1) in
    subst (λ (y : List Held × List ℕ). Rises (λ h. h.handle) before y.0) (ok_is made (xs, rest) b.2)
    (held_follows before bytes a.0.0 a.0.1 a.1, held_rises n (Some a.0.0.handle) a.0.1 b.0.0 b.0.1 b.1)

-- handles that are read rise
pub held_list_rises : (bytes : List ℕ) (xs : List Held) (rest : List ℕ) → rising_at 5 held_after (λ h. h.handle) bytes ≡ Ok (xs, rest)
    → Rises (λ h. h.handle) None xs
unfolding rising_at
held_list_rises bytes xs rest e =
    let a = bind_ok (number_at w32 bytes) (λ count. cond (ltb (length count.1) (count.0 * 5)) (Err Short)
    (rising_items_at held_after (λ h. h.handle) count.0 None count.1)) (xs, rest) e in
    let g = guard_not (ltb (length a.0.1) (a.0.0 * 5)) Short (rising_items_at held_after (λ h. h.handle) a.0.0 None a.0.1) (xs, rest) a.2 in
    held_rises a.0.0 None a.0.1 xs rest g.1

-- ---- Handles, one after the other

take_all : {A : Type 0} (xs : List A) (i : ℕ) → length xs ≤ i → take i xs ≡ xs
take_all [] zero le = refl
take_all [] (suc i) le = refl
take_all (x ∷ xs) zero le = absurd (omega arith)
take_all {A} (x ∷ xs) (suc i) le = ap (λ (l : List A). x ∷ l) (take_all xs i (omega arith))

abbrev is_high : Held → Bool
is_high h = ltb 250 h.handle

-- what holds after one more handle
pub record HeldSoFar (items : List Held) (i : ℕ) (places : List (Option ℕ)) : Type 0 where
  pub listed : listed_from handle_held 0 places ≡ take i items
  pub rises : Rises (λ h. h.handle) (before_of (length places)) (drop i items)
  -- a handle above 250 was met just where there are more than 251 places
  pub high : list_any (λ h. ltb 250 h.handle) (take i items) ≡ ltb 251 (length places)
  pub within : length places ≤ 256

high_next : (n handle : ℕ) (b : Bool) → b ≡ ltb 251 n → n ≤ handle → (b || ltb 250 handle) ≡ ltb 251 (suc handle)
high_next n handle b e le = elim (cases_lt 250 handle) [
  | inl above ↦
      let more : 251 < suc handle = omega arith in
      ap (λ t. b || t) (lt-ltb 250 handle above) ∙ or-true b ∙ sym (lt-ltb 251 (suc handle) more)
  | inr below ↦
      let few : n ≤ 251 = omega arith in
      let last : suc handle ≤ 251 = omega arith in
      ap (λ t. b || t) (le-ltb 250 handle below) ∙ or-false b ∙ e ∙ le-ltb 251 n few ∙ sym (le-ltb 251 (suc handle) last)
]

pub held_step : (items : List Held) (i : ℕ) (item : Held) (places padded_places new : List (Option ℕ)) → i < length items
    → item ≡ get_or items i item → item.handle < 256 → HeldSoFar items i places
    → padded_places ≡ places ++ replicate (item.handle - length places) None → new ≡ padded_places ++ Some item.slot ∷ []
    → HeldSoFar items (i + 1) new
held_step items i item places padded_places new lt is byte so_far p q =
    let cut : drop i items ≡ item ∷ drop (suc i) items = drop-cons items i item lt ∙ ap (λ (x : Held). x ∷ drop (suc i) items) (sym is) in
    let rising : Rises (λ h. h.handle) (before_of (length places)) (item ∷ drop (suc i) items) =
    subst (λ (l : List Held). Rises (λ h. h.handle) (before_of (length places)) l) cut so_far.rises in
    let above : length places ≤ item.handle = above-before (length places) item.handle rising.0 in
    let new_is : new ≡ (places ++ replicate (item.handle - length places) None) ++ Some item.slot ∷ [] = q
    ∙ ap (λ (l : List (Option ℕ)). l ++ Some item.slot ∷ []) p in
    let longer : take (suc i) items ≡ take i items ++ item ∷ [] = take-suc items i item lt
    ∙ ap (λ (x : Held). take i items ++ x ∷ []) (sym is) in
    let listed_new : listed_from handle_held 0 new ≡ take (suc i) items = ap (listed_from handle_held 0) new_is
    ∙ put-behind handle_held places item.handle item.slot above ∙ ap (λ (l : List Held). l ++ item ∷ []) so_far.listed ∙ sym longer in
    let size : length new ≡ suc item.handle = ap length new_is ∙ put-length places item.handle item.slot above in
    let one : suc i ≡ i + 1 = omega arith in
    record {
      listed = subst (λ k. listed_from handle_held 0 new ≡ take k items) one listed_new;
      rises = subst (λ k. Rises (λ h. h.handle) (before_of (length new)) (drop k items)) one
          (subst (λ k. Rises (λ h. h.handle) (before_of k) (drop (suc i) items)) (sym size) rising.1);
      high =
          list_any_more is_high items i item lt ∙ ap (λ (x : Held). list_any is_high (take i items) || is_high x) (sym is)
          ∙ high_next (length places) item.handle (list_any is_high (take i items)) so_far.high above ∙ ap (ltb 251) (sym size);
      within = omega (arith, size, byte);
    }

pub held_end : (items : List Held) (i k : ℕ) (places new : List (Option ℕ)) → length items ≤ i → HeldSoFar items i places → new ≡ places
    ++ replicate k None → listed_from handle_held 0 new ≡ items
held_end items i k places new le so_far p = ap (listed_from handle_held 0) p ∙ padded handle_held places k ∙ so_far.listed
    ∙ take_all items i le

-- ---- Objects, one after the other

pub stray-behind : (front : List Placed) (strays new : List Placed) (item : Placed) → new ≡ strays ++ item ∷ [] → front
    ++ new ≡ (front ++ strays) ++ item ∷ []
stray-behind front strays new item e = ap (λ (l : List Placed). front ++ l) e ∙ sym (append_assoc front strays (item ∷ []))

pub object-behind : (places padded_places new : List (Option Object)) (strays : List Placed) (slot : ℕ) (object : Object)
    → length strays ≡ 0 → length places ≤ slot → padded_places ≡ places ++ replicate (slot - length places) None → new ≡ padded_places
    ++ Some object ∷ []
    → listed_from placed 0 new ++ strays ≡ (listed_from placed 0 places ++ strays) ++ placed slot object ∷ []
object-behind places padded_places new strays slot object none le p q =
    let nothing : strays ≡ [] = nil_from_length strays none in
    let new_is : new ≡ (places ++ replicate (slot - length places) None) ++ Some object ∷ [] = q
    ∙ ap (λ (l : List (Option Object)). l ++ Some object ∷ []) p in
    let listed : listed_from placed 0 new ≡ listed_from placed 0 places ++ placed slot object ∷ [] = ap (listed_from placed 0) new_is
    ∙ put-behind placed places slot object le in
    ap (λ (l : List Placed). listed_from placed 0 new ++ l) nothing ∙ append-nil (listed_from placed 0 new) ∙ listed
    ∙ ap (λ (l : List Placed). l ++ placed slot object ∷ [])
    (sym (append-nil (listed_from placed 0 places)) ∙ ap (λ (l : List Placed). listed_from placed 0 places ++ l) (sym nothing))
