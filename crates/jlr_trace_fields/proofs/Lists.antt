-- A list that is read is the list that was written, and what was written is read again.
use Rattle.std.proofs.Common.{◌≡◌, ℕ, zero, suc, ◌*◌, ◌+◌, ◌≤◌, ltb, Bool, true, false, cond, List, [], ◌∷◌, ◌++◌, length, Ok, Err, Result}
use Rattle.std.proofs.Common.{refl, sym, ap, subst, ◌∙◌, append_assoc, arith}
use Rattle.std.specs.List.{flat_map, AllByRecursion}
use Rattle.std.specs.Int.{w32}
use Rattle.std.proofs.lemmas.Bool.{le-ltb}
use Rattle.std.proofs.lemmas.List.{length-append}
use Rattle.std.proofs.lemmas.List.Concat.{flat_map-cons}
use Rattle.jlr_trace_fields.specs.declared.fault.Fault.{Fault}
use Rattle.jlr_trace_fields.specs.declared.fault.Fault.TheVariants.{Short}
use Rattle.jlr_trace_fields.specs.Reading.{Reader, ◌>>=◌, number_at}
use Rattle.jlr_trace_fields.specs.Spelling.{spelled_32, IsBytes}
use Rattle.jlr_trace_fields.specs.Items.{items_at, list_at, spelled_list, IsListed}
use Rattle.jlr_trace_fields.specs.Laws.{Takes, TakesSpelled, ReadsAgain, IsField, IsShortest}
use Rattle.jlr_trace_fields.proofs.Steps.{bind_ok, ok_is, Takes-then}
use Rattle.jlr_trace_fields.proofs.Numbers.{four_bytes}

pub items_take : {A : Type 0} (read : Reader A) (spelled : A → List ℕ) (Fits : A → Type 0) → TakesSpelled read spelled Fits
    → (n : ℕ) (bytes : List ℕ) (xs : List A) (rest : List ℕ) → IsBytes bytes → items_at read n bytes ≡ Ok (xs, rest)
    → Takes bytes (flat_map spelled xs) rest × (length xs ≡ n) × AllByRecursion Fits xs
unfolding items_at
items_take {A} read spelled Fits law zero bytes xs rest fits e =
    subst (λ (y : List A × List ℕ). Takes bytes (flat_map spelled y.0) y.1 × (length y.0 ≡ 0) × AllByRecursion Fits y.0)
    (ok_is ([], bytes) (xs, rest) e) (record { parts = refl; rest_fits = fits }, refl, tt)
items_take {A} read spelled Fits law (suc n) bytes xs rest fits e =
    let a = bind_ok (read bytes) (λ first. items_at read n first.1 >>= λ others. Ok (first.0 ∷ others.0, others.1)) (xs, rest) e in
    let b = bind_ok (items_at read n a.0.1) (λ others. Ok (a.0.0 ∷ others.0, others.1)) (xs, rest) a.2 in
    let first = law bytes a.0.0 a.0.1 fits a.1 in
    let second = items_take read spelled Fits law n a.0.1 b.0.0 b.0.1 first.0.rest_fits b.1 in
    let both = Takes-then bytes (spelled a.0.0) a.0.1 (flat_map spelled b.0.0) b.0.1 first.0 second.0 in
    let made : List A × List ℕ = (a.0.0 ∷ b.0.0, b.0.1) in
    subst (λ (y : List A × List ℕ). Takes bytes (flat_map spelled y.0) y.1 × (length y.0 ≡ suc n) × AllByRecursion Fits y.0)
    (ok_is made (xs, rest) b.2) (rw flat_map-cons both, ap suc second.1, (first.1, second.2))

-- as many as were asked for
pub items_counted : {A : Type 0} (read : Reader A) (n : ℕ) (bytes : List ℕ) (xs : List A) (rest : List ℕ)
    → items_at read n bytes ≡ Ok (xs, rest) → length xs ≡ n
unfolding items_at
items_counted {A} read zero bytes xs rest e = subst (λ (y : List A × List ℕ). length y.0 ≡ 0) (ok_is ([], bytes) (xs, rest) e) refl
items_counted {A} read (suc n) bytes xs rest e =
    let a = bind_ok (read bytes) (λ first. items_at read n first.1 >>= λ others. Ok (first.0 ∷ others.0, others.1)) (xs, rest) e in
    let b = bind_ok (items_at read n a.0.1) (λ others. Ok (a.0.0 ∷ others.0, others.1)) (xs, rest) a.2 in
    let made : List A × List ℕ = (a.0.0 ∷ b.0.0, b.0.1) in
    subst (λ (y : List A × List ℕ). length y.0 ≡ suc n) (ok_is made (xs, rest) b.2) (ap suc (items_counted read n a.0.1 b.0.0 b.0.1 b.1))

pub items_again : {A : Type 0} (read : Reader A) (spelled : A → List ℕ) (Fits : A → Type 0) → ReadsAgain read spelled Fits
    → (xs : List A) (rest : List ℕ) → AllByRecursion Fits xs → items_at read (length xs) (flat_map spelled xs ++ rest) ≡ Ok (xs, rest)
unfolding items_at
items_again read spelled Fits law [] rest fits = refl
items_again read spelled Fits law (x ∷ xs) rest fits =
    let regrouped : flat_map spelled (x ∷ xs) ++ rest ≡ spelled x ++ (flat_map spelled xs ++ rest) =
    ap (λ (y : List ℕ). y ++ rest) (flat_map-cons spelled x xs) ∙ append_assoc (spelled x) (flat_map spelled xs) rest in
    ap (items_at read (suc (length xs))) regrouped ∙
    rw (law x (flat_map spelled xs ++ rest) fits.0, items_again read spelled Fits law xs rest fits.1) refl

-- the items of a list take at least so many bytes
pub items_long : {A : Type 0} (least : ℕ) (spelled : A → List ℕ) (Fits : A → Type 0) → IsShortest least spelled Fits
    → (xs : List A) → AllByRecursion Fits xs → length xs * least ≤ length (flat_map spelled xs)
items_long least spelled Fits law [] fits = omega arith
items_long least spelled Fits law (x ∷ xs) fits =
    let more = items_long least spelled Fits law xs fits.1 in
    let one : least ≤ length (spelled x) = law x fits.0 in
    let split : length (flat_map spelled (x ∷ xs)) ≡ length (spelled x) + length (flat_map spelled xs) =
    ap length (flat_map-cons spelled x xs) ∙ length-append (spelled x) (flat_map spelled xs) in
    omega arith

pub guard_not : {A : Type 0} (b : Bool) (d : Fault) (r : Result A Fault) (y : A) → cond b (Err d) r ≡ Ok y → (b ≡ false) × (r ≡ Ok y)
guard_not true d r y e = absurd cc
guard_not false d r y e = (refl, e)

pub list_takes : {A : Type 0} (least : ℕ) (read : Reader A) (spelled : A → List ℕ) (Fits : A → Type 0) → TakesSpelled read spelled Fits
    → TakesSpelled (list_at least read) (spelled_list spelled) (IsListed Fits)
unfolding list_at
list_takes {A} least read spelled Fits law bytes xs rest fits e =
    let a = bind_ok (number_at w32 bytes) (λ count. cond (ltb (length count.1) (count.0 * least)) (Err Short)
    (items_at read count.0 count.1)) (xs, rest) e in
    let g = guard_not (ltb (length a.0.1) (a.0.0 * least)) Short (items_at read a.0.0 a.0.1) (xs, rest) a.2 in
    let first = four_bytes.takes bytes a.0.0 a.0.1 fits a.1 in
    let second = items_take read spelled Fits law a.0.0 a.0.1 xs rest first.0.rest_fits g.1 in
    let both = Takes-then bytes (spelled_32 a.0.0) a.0.1 (flat_map spelled xs) rest first.0 second.0 in
    let whole : Takes bytes (spelled_32 (length xs) ++ flat_map spelled xs) rest =
    subst (λ (k : ℕ). Takes bytes (spelled_32 k ++ flat_map spelled xs) rest) (sym second.1) both in
    (whole, record { count = omega (arith, second.1, first.1); each = second.2 })

pub list_again : {A : Type 0} (least : ℕ) (read : Reader A) (spelled : A → List ℕ) (Fits : A → Type 0) → IsShortest least spelled Fits
    → ReadsAgain read spelled Fits
    → ReadsAgain (list_at least read) (spelled_list spelled) (IsListed Fits)
unfolding list_at
list_again {A} least read spelled Fits least_law law xs rest fits =
    let long = items_long least spelled Fits least_law xs fits.each in
    let enough : ltb (length (flat_map spelled xs ++ rest)) (length xs * least) ≡ false =
    le-ltb _ _ (omega (arith, length-append (flat_map spelled xs) rest)) in
    let regrouped : spelled_list spelled xs ++ rest ≡ spelled_32 (length xs) ++ (flat_map spelled xs ++ rest) =
    append_assoc (spelled_32 (length xs)) (flat_map spelled xs) rest in
    ap (list_at least read) regrouped ∙ rw (
      four_bytes.again (length xs) (flat_map spelled xs ++ rest) fits.count,
      enough,
      items_again read spelled Fits law xs rest fits.each,
    ) refl

pub list_field : {A : Type 0} {least : ℕ} {read : Reader A} {spelled : A → List ℕ} {Fits : A → Type 0} → IsField read spelled Fits
    → IsShortest least spelled Fits → IsField (list_at least read) (spelled_list spelled) (IsListed Fits)
list_field {A} {least} {read} {spelled} {Fits} field few =
    record { takes = list_takes least read spelled Fits field.takes; again = list_again least read spelled Fits few field.again }
