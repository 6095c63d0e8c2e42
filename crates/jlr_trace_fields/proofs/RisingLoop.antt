-- Reading items with rising keys one after the other, as a loop does.
use Rattle.std.proofs.Common.{◌≡◌, ℕ, suc, ◌-◌, ◌+◌, ◌≤◌, ◌<◌, List, [], ◌∷◌, ◌++◌, Option, Some, Result, Ok, Err, refl, sym, ap, ◌∙◌}
use Rattle.std.proofs.Common.{append_assoc, arith}
use Rattle.std.proofs.lemmas.List.{append-nil}
use Rattle.jlr_trace_fields.specs.declared.fault.Fault.{Fault}
use Rattle.jlr_trace_fields.specs.declared.fault.ReadError.{ReadError}
use Rattle.jlr_trace_fields.specs.declared.fault.ReadError.TheVariants as errors
use Rattle.jlr_trace_fields.specs.Reading.{Reader, ◌>>=◌, Fails}
use Rattle.jlr_trace_fields.specs.Items.{rising_items_at}
use Rattle.jlr_trace_fields.proofs.Loop.{with_front}

regroup : {A : Type 0} (front : List A) (x : A) (read : Result (List A × List ℕ) Fault)
    → with_front front (read >>= λ y. Ok (x ∷ y.0, y.1)) ≡ with_front (front ++ x ∷ []) read
regroup {A} front x (Ok y) = ap (λ (xs : List A). Ok (xs, y.1)) (simp append_assoc)
regroup front x (Err f) = refl

pub goes_on : {A : Type 0} (read : Option ℕ → Reader A) (key : A → ℕ) (front : List A) (count i : ℕ) (before : Option ℕ) (bytes : List ℕ)
    (x : A) (after : List ℕ) (total : Result (List A × List ℕ) Fault) → i < count → read before bytes ≡ Ok (x, after)
    → with_front front (rising_items_at read key (count - i) before bytes) ≡ total
    → with_front (front ++ x ∷ []) (rising_items_at read key (count - (i + 1)) (Some (key x)) after) ≡ total
unfolding rising_items_at
goes_on read key front count i before bytes x after total lt h so_far =
    let k : count - i ≡ suc (count - (i + 1)) = omega arith in
    let one : with_front front (rising_items_at read key (count - i) before bytes)
    ≡ with_front (front ++ x ∷ []) (rising_items_at read key (count - (i + 1)) (Some (key x)) after) =
    rw (k, h) (regroup front x (rising_items_at read key (count - (i + 1)) (Some (key x)) after)) in
    sym one ∙ so_far

pub ends : {A : Type 0} (read : Option ℕ → Reader A) (key : A → ℕ) (e : ReadError) (front : List A) (count i : ℕ) (before : Option ℕ)
    (bytes : List ℕ) (total : Result (List A × List ℕ) Fault) → i < count → Fails e (read before bytes)
    → with_front front (rising_items_at read key (count - i) before bytes) ≡ total → Fails e total
unfolding rising_items_at
ends read key errors.Memory front count i before bytes total lt h so_far = tt
ends read key (errors.Fault f) front count i before bytes total lt h so_far =
    let k : count - i ≡ suc (count - (i + 1)) = omega arith in
    let one : with_front front (rising_items_at read key (count - i) before bytes) ≡ Err f = rw (k, h) refl in
    sym so_far ∙ one

pub is_done : {A : Type 0} (read : Option ℕ → Reader A) (key : A → ℕ) (front : List A) (count i : ℕ) (before : Option ℕ) (bytes : List ℕ)
    (total : Result (List A × List ℕ) Fault) → count ≤ i → with_front front (rising_items_at read key (count - i) before bytes) ≡ total
    → total ≡ Ok (front, bytes)
unfolding rising_items_at
is_done {A} read key front count i before bytes total le so_far =
    let k : count - i ≡ 0 = omega arith in
    let one : with_front front (rising_items_at read key (count - i) before bytes) ≡ Ok (front, bytes) =
    rw k (ap (λ (xs : List A). Ok (xs, bytes)) (append-nil front)) in
    sym so_far ∙ one
