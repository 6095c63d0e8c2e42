-- A list whose keys rise that is read is the list that was written, and what was written is read again.
use Rattle.std.proofs.Common.{◌≡◌, ℕ, zero, suc, ◌*◌, ltb, false, cond, List, [], ◌∷◌, ◌++◌, length, Option, Some, None, Ok, Err, refl, sym}
use Rattle.std.proofs.Common.{ap, subst, ◌∙◌, append_assoc, arith}
use Rattle.std.specs.List.{flat_map, AllByRecursion}
use Rattle.std.specs.Int.{w32}
use Rattle.std.proofs.lemmas.Bool.{le-ltb}
use Rattle.std.proofs.lemmas.List.{length-append}
use Rattle.std.proofs.lemmas.List.Concat.{flat_map-cons}
use Rattle.jlr_trace_fields.specs.declared.fault.Fault.TheVariants.{Short}
use Rattle.jlr_trace_fields.specs.Reading.{Reader, ◌>>=◌, number_at}
use Rattle.jlr_trace_fields.specs.Spelling.{spelled_32, IsBytes}
use Rattle.jlr_trace_fields.specs.Items.{rising_items_at, rising_at, spelled_list, Rises, IsRising}
use Rattle.jlr_trace_fields.specs.Laws.{Takes, TakesSpelled, ReadsAgain, IsField, IsRisingField, IsShortest}
use Rattle.jlr_trace_fields.proofs.Steps.{bind_ok, ok_is, Takes-then}
use Rattle.jlr_trace_fields.proofs.Numbers.{four_bytes}
use Rattle.jlr_trace_fields.proofs.Lists.{guard_not, items_long}

pub rising_items_take : {A : Type 0} (read : Option ℕ → Reader A) (spelled : A → List ℕ) (Fits : A → Type 0) (key : A → ℕ)
    → IsRisingField read spelled Fits key
    → (n : ℕ) (before : Option ℕ) (bytes : List ℕ) (xs : List A) (rest : List ℕ) → IsBytes bytes
    → rising_items_at read key n before bytes ≡ Ok (xs, rest)
    → Takes bytes (flat_map spelled xs) rest × (length xs ≡ n) × AllByRecursion Fits xs × Rises key before xs
unfolding rising_items_at
rising_items_take {A} read spelled Fits key law zero before bytes xs rest fits e =
    subst (λ (y : List A × List ℕ). Takes bytes (flat_map spelled y.0) y.1 × (length y.0 ≡ 0) × AllByRecursion Fits y.0
    × Rises key before y.0) (ok_is ([], bytes) (xs, rest) e) (record { parts = refl; rest_fits = fits }, refl, tt, tt)
rising_items_take {A} read spelled Fits key law (suc n) before bytes xs rest fits e =
    let a = bind_ok (read before bytes) (λ first. rising_items_at read key n (Some (key first.0)) first.1 >>= λ others. Ok
    (first.0 ∷ others.0, others.1)) (xs, rest) e in
    let b = bind_ok (rising_items_at read key n (Some (key a.0.0)) a.0.1) (λ others. Ok (a.0.0 ∷ others.0, others.1)) (xs, rest) a.2 in
    let first = (law.field before).takes bytes a.0.0 a.0.1 fits a.1 in
    let second = rising_items_take read spelled Fits key law n (Some (key a.0.0)) a.0.1 b.0.0 b.0.1 first.0.rest_fits b.1 in
    let both = Takes-then bytes (spelled a.0.0) a.0.1 (flat_map spelled b.0.0) b.0.1 first.0 second.0 in
    let made : List A × List ℕ = (a.0.0 ∷ b.0.0, b.0.1) in
    subst (λ (y : List A × List ℕ). Takes bytes (flat_map spelled y.0) y.1 × (length y.0 ≡ suc n) × AllByRecursion Fits y.0
    × Rises key before y.0) (ok_is made (xs, rest) b.2)
    (rw flat_map-cons both, ap suc second.1, (first.1.0, second.2), (first.1.1, second.3))

pub rising_items_again : {A : Type 0} (read : Option ℕ → Reader A) (spelled : A → List ℕ) (Fits : A → Type 0) (key : A → ℕ)
    → IsRisingField read spelled Fits key
    → (xs : List A) (before : Option ℕ) (rest : List ℕ) → AllByRecursion Fits xs → Rises key before xs
    → rising_items_at read key (length xs) before (flat_map spelled xs ++ rest) ≡ Ok (xs, rest)
unfolding rising_items_at
rising_items_again read spelled Fits key law [] before rest fits rises = refl
rising_items_again read spelled Fits key law (x ∷ xs) before rest fits rises =
    let regrouped : flat_map spelled (x ∷ xs) ++ rest ≡ spelled x ++ (flat_map spelled xs ++ rest) =
    ap (λ (y : List ℕ). y ++ rest) (flat_map-cons spelled x xs) ∙ append_assoc (spelled x) (flat_map spelled xs) rest in
    ap (rising_items_at read key (suc (length xs)) before) regrouped
    ∙ rw (
      (law.field before).again x (flat_map spelled xs ++ rest) (fits.0, rises.0),
      rising_items_again read spelled Fits key law xs (Some (key x)) rest fits.1 rises.1,
    ) refl

rising_takes : {A : Type 0} (least : ℕ) (read : Option ℕ → Reader A) (spelled : A → List ℕ) (Fits : A → Type 0) (key : A → ℕ)
    → IsRisingField read spelled Fits key → TakesSpelled (rising_at least read key) (spelled_list spelled) (IsRising Fits key)
unfolding rising_at
rising_takes {A} least read spelled Fits key law bytes xs rest fits e =
    let a = bind_ok (number_at w32 bytes) (λ count. cond (ltb (length count.1) (count.0 * least)) (Err Short)
    (rising_items_at read key count.0 None count.1)) (xs, rest) e in
    let g = guard_not (ltb (length a.0.1) (a.0.0 * least)) Short (rising_items_at read key a.0.0 None a.0.1) (xs, rest) a.2 in
    let first = four_bytes.takes bytes a.0.0 a.0.1 fits a.1 in
    let second = rising_items_take read spelled Fits key law a.0.0 None a.0.1 xs rest first.0.rest_fits g.1 in
    let both = Takes-then bytes (spelled_32 a.0.0) a.0.1 (flat_map spelled xs) rest first.0 second.0 in
    let whole : Takes bytes (spelled_32 (length xs) ++ flat_map spelled xs) rest =
    subst (λ (k : ℕ). Takes bytes (spelled_32 k ++ flat_map spelled xs) rest) (sym second.1) both in
    (whole, record { listed = record { count = omega (arith, second.1, first.1); each = second.2 }; rises = second.3 })

rising_again : {A : Type 0} (least : ℕ) (read : Option ℕ → Reader A) (spelled : A → List ℕ) (Fits : A → Type 0) (key : A → ℕ)
    → IsShortest least spelled Fits → IsRisingField read spelled Fits key
    → ReadsAgain (rising_at least read key) (spelled_list spelled) (IsRising Fits key)
unfolding rising_at
rising_again least read spelled Fits key few law xs rest fits =
    let long = items_long least spelled Fits few xs fits.listed.each in
    let enough : ltb (length (flat_map spelled xs ++ rest)) (length xs * least) ≡ false =
    le-ltb _ _ (omega (arith, length-append (flat_map spelled xs) rest)) in
    let regrouped : spelled_list spelled xs ++ rest ≡ spelled_32 (length xs) ++ (flat_map spelled xs ++ rest) =
    append_assoc (spelled_32 (length xs)) (flat_map spelled xs) rest in
    ap (rising_at least read key) regrouped ∙ rw (
      four_bytes.again (length xs) (flat_map spelled xs ++ rest) fits.listed.count,
      enough,
      rising_items_again read spelled Fits key law xs None rest fits.listed.each fits.rises,
    ) refl

pub rising_field : {A : Type 0} {least : ℕ} {read : Option ℕ → Reader A} {spelled : A → List ℕ} {Fits : A → Type 0} {key : A → ℕ}
    → IsRisingField read spelled Fits key → IsShortest least spelled Fits
    → IsField (rising_at least read key) (spelled_list spelled) (IsRising Fits key)
rising_field {A} {least} {read} {spelled} {Fits} {key} law few =
    record { takes = rising_takes least read spelled Fits key law; again = rising_again least read spelled Fits key few law }
