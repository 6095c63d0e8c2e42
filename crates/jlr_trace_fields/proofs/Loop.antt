-- Reading items one after the other, as a loop does.
use Rattle.std.proofs.Common.{◌≡◌, ℕ, suc, ◌-◌, ◌+◌, ◌≤◌, ◌<◌, List, [], ◌∷◌, ◌++◌, Result, Ok, Err, refl, sym, ap, ◌∙◌, append_assoc}
use Rattle.std.proofs.Common.{arith}
use Rattle.std.proofs.lemmas.List.{append-nil}
use Rattle.jlr_trace_fields.specs.declared.fault.Fault.{Fault}
use Rattle.jlr_trace_fields.specs.declared.fault.ReadError.{ReadError}
use Rattle.jlr_trace_fields.specs.declared.fault.ReadError.TheVariants as errors
use Rattle.jlr_trace_fields.specs.Reading.{Reader, ◌>>=◌, Fails}
use Rattle.jlr_trace_fields.specs.Items.{items_at}

-- what was read before, and what is still read
abbrev pub with_front : {A : Type 0} → List A → Result (List A × List ℕ) Fault → Result (List A × List ℕ) Fault
with_front front read = read >>= λ x. Ok (front ++ x.0, x.1)

regroup : {A : Type 0} (front : List A) (x : A) (read : Result (List A × List ℕ) Fault)
    → with_front front (read >>= λ y. Ok (x ∷ y.0, y.1)) ≡ with_front (front ++ x ∷ []) read
regroup {A} front x (Ok y) = ap (λ (xs : List A). Ok (xs, y.1)) (simp append_assoc)
regroup front x (Err f) = refl

pub goes_on : {A : Type 0} (read : Reader A) (front : List A) (count i : ℕ) (bytes : List ℕ) (x : A) (after : List ℕ)
    (total : Result (List A × List ℕ) Fault) → i < count → read bytes ≡ Ok (x, after)
    → with_front front (items_at read (count - i) bytes) ≡ total
    → with_front (front ++ x ∷ []) (items_at read (count - (i + 1)) after) ≡ total
unfolding items_at
goes_on read front count i bytes x after total lt h so_far =
    let k : count - i ≡ suc (count - (i + 1)) = omega arith in
    let one : with_front front (items_at read (count - i) bytes) ≡ with_front (front ++ x ∷ []) (items_at read (count - (i + 1)) after) =
    rw (k, h) (regroup front x (items_at read (count - (i + 1)) after)) in
    sym one ∙ so_far

pub ends : {A : Type 0} (read : Reader A) (e : ReadError) (front : List A) (count i : ℕ) (bytes : List ℕ)
    (total : Result (List A × List ℕ) Fault) → i < count → Fails e (read bytes)
    → with_front front (items_at read (count - i) bytes) ≡ total → Fails e total
unfolding items_at
ends read errors.Memory front count i bytes total lt h so_far = tt
ends read (errors.Fault f) front count i bytes total lt h so_far =
    let k : count - i ≡ suc (count - (i + 1)) = omega arith in
    let one : with_front front (items_at read (count - i) bytes) ≡ Err f = rw (k, h) refl in
    sym so_far ∙ one

pub is_done : {A : Type 0} (read : Reader A) (front : List A) (count i : ℕ) (bytes : List ℕ) (total : Result (List A × List ℕ) Fault)
    → count ≤ i → with_front front (items_at read (count - i) bytes) ≡ total → total ≡ Ok (front, bytes)
unfolding items_at
is_done {A} read front count i bytes total le so_far =
    let k : count - i ≡ 0 = omega arith in
    let one : with_front front (items_at read (count - i) bytes) ≡ Ok (front, bytes) =
    rw k (ap (λ (xs : List A). Ok (xs, bytes)) (append-nil front)) in
    sym so_far ∙ one
