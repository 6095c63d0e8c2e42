-- Lists of steady items, with a count before them.
use Rattle.std.proofs.Common.{◌≡◌, ℕ, zero, suc, ◌*◌, ◌≤◌, Bool, true, false, cond, ltb, List, [], ◌∷◌, ◌++◌, length, Option, Some, None}
use Rattle.std.proofs.Common.{Ok, Err, refl, arith}
use Rattle.std.specs.Int.{w32}
use Rattle.std.proofs.lemmas.Bool.{ltb-false, le-ltb}
use Rattle.std.proofs.lemmas.List.{length-append}
use Rattle.jlr_trace_fields.specs.declared.fault.Fault.TheVariants.{Short}
use Rattle.jlr_trace_fields.specs.Reading.{Reader, ◌>>=◌}
use Rattle.jlr_trace_fields.specs.Items.{items_at, list_at, rising_items_at, rising_at}
use Rattle.jlr_trace.specs.Steady.{StillReads, IsSteady}
use Rattle.jlr_trace.proofs.Steps.{made, then_read, one}
use Rattle.jlr_trace.proofs.Fields.{number}

pub items : {A : Type 0} {read : Reader A} → IsSteady read → (count : ℕ) → IsSteady (items_at read count)
unfolding items_at
items steady zero = made []
items {A} {read} steady (suc n) =
    then_read steady (λ x bytes. items_at read n bytes >>= λ others. Ok (x ∷ others.0, others.1)) (λ x. one (items steady n) (λ xs. x ∷ xs))

-- items that cannot all fit in the bytes are no answer yet
abbrev fitting : {A : Type 0} → ℕ → Reader A → Bool → Reader A
fitting size read few bytes = cond few (Err Short) (read bytes)

still_fitting : {A : Type 0} (size : ℕ) (read : Reader A) → IsSteady read → (bytes more : List ℕ) (b : Bool) → ltb (length bytes) size ≡ b
    → StillReads more (fitting size read b bytes) (fitting size read (ltb (length (bytes ++ more)) size) (bytes ++ more))
still_fitting size read steady bytes more true short = tt
still_fitting size read steady bytes more false enough =
    let long : size ≤ length bytes = ltb-false _ _ enough in
    let still : ltb (length (bytes ++ more)) size ≡ false = le-ltb _ _ (omega (arith, length-append bytes more)) in
    rw still (steady.still bytes more)

fits : {A : Type 0} (size : ℕ) {read : Reader A} → IsSteady read
    → IsSteady (λ bytes. cond (ltb (length bytes) size) (Err Short) (read bytes))
fits size {read} steady = record { still = λ bytes more. still_fitting size read steady bytes more (ltb (length bytes) size) refl }

pub list : {A : Type 0} (least : ℕ) {read : Reader A} → IsSteady read → IsSteady (list_at least read)
unfolding list_at
list least {read} steady = then_read (number w32)
    (λ count bytes. cond (ltb (length bytes) (count * least)) (Err Short) (items_at read count bytes))
    (λ count. fits (count * least) (items steady count))

-- ---- Lists whose keys rise

pub rising_items : {A : Type 0} {read : Option ℕ → Reader A} → ((before : Option ℕ) → IsSteady (read before))
    → (key : A → ℕ) (count : ℕ) (before : Option ℕ) → IsSteady (rising_items_at read key count before)
unfolding rising_items_at
rising_items steady key zero before = made []
rising_items {A} {read} steady key (suc n) before =
    then_read (steady before) (λ x bytes. rising_items_at read key n (Some (key x)) bytes >>= λ others. Ok (x ∷ others.0, others.1))
    (λ x. one (rising_items steady key n (Some (key x))) (λ xs. x ∷ xs))

pub rising : {A : Type 0} (least : ℕ) {read : Option ℕ → Reader A} → ((before : Option ℕ) → IsSteady (read before)) → (key : A → ℕ)
    → IsSteady (rising_at least read key)
unfolding rising_at
rising least {read} steady key =
    then_read (number w32) (λ count bytes. cond (ltb (length bytes) (count * least)) (Err Short)
    (rising_items_at read key count None bytes)) (λ count. fits (count * least) (rising_items steady key count None))
