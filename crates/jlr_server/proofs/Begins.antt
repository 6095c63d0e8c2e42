-- Seats at which nothing was done yet, each with its device, and the threads that they go to.
use Rattle.std.proofs.Common.{◌≡◌, ℕ, zero, suc, ◌<◌, ◌+◌, List, [], ◌∷◌, ◌++◌, Bool, true, false, length, take, map, refl, sym, ap, ◌∙◌}
use Rattle.std.proofs.Common.{subst, arith}
use Rattle.std.specs.Prelude.{MatchBool, slice_get, slice_index_or}
use Rattle.std.specs.List.{All}
use Rattle.std.proofs.lemmas.List.{map-append}
use Rattle.std.proofs.lemmas.List.Elements.{All-head, All-push, All-tail}
use Rattle.jlr_log.specs.Seeing.{Seen, seen}
use Rattle.jlr_hall.specs.declared.step.Step.{Step}
use Rattle.jlr_server.specs.Serving.{BeginWith, IsUnasked, Stays, Work}

-- what holds of each of a list, and of an item that is added to it or not
pub all_added : {X : Type 0} (P : X → Type 0) (old new : List X) (x : X) (added : Bool)
    → MatchBool added (new ≡ old ++ x ∷ []) (new ≡ old) → All P old → P x → All P new
all_added P old new x true is all one = subst (All P) (sym is) (All-push P old x all one)
all_added P old new x false is all one = subst (All P) (sym is) all

-- the same of what the items show
all_shown : {X Y : Type 0} (show : X → Y) (P : Y → Type 0) (old new : List X) (x : X) (added : Bool)
    → MatchBool added (new ≡ old ++ x ∷ []) (new ≡ old) → All P (map show old) → P (show x) → All P (map show new)
all_shown show P old new x true is all one =
    subst (All P) (sym (ap (map show) is ∙ map-append show old (x ∷ []))) (All-push P (map show old) (show x) all one)
all_shown show P old new x false is all one = subst (λ l. All P (map show l)) (sym is) all

taken : {X : Type 0} (n m : ℕ) (xs : List X) → n < m → slice_get (take m xs) n ≡ slice_get xs n
taken n zero xs below = absurd (omega (arith, below))
taken n (suc m) [] below = refl
taken zero (suc m) (x ∷ xs) below = refl
taken (suc n) (suc m) (x ∷ xs) below = taken n m xs (omega (arith, below))

-- ---- The last of so many seats, with its device

abbrev pub AllFresh : {R : Type 0} → List (Seen (Step R)) → Type 0
AllFresh {R} seats = (k : ℕ) (p : Seen (Step R)) → k < length seats → slice_index_or seats k p ≡ seen k []

module _ {D R : Type 0} where
  pub is_fresh : (w : Work D R) (n : ℕ) → w.seat ≡ seen n [] → IsUnasked w
  is_fresh w n is = is ∙ ap (λ (k : ℕ). seen k []) (sym (ap (λ (p : Seen (Step R)). p.seat) is))

  pub begins : (devices : List D) (w : Work D R) (n m : ℕ) → m ≡ n + 1 → w.seat ≡ seen n [] → w.first ≡ slice_get (take m devices) n
      → w.first ≡ slice_get devices w.seat.seat
  begins devices w n m more is first =
      first ∙ taken n m devices (omega (arith, more)) ∙ ap (slice_get devices) (sym (ap (λ (p : Seen (Step R)). p.seat) is))

  -- ---- A thread more

  pub one_runs : {X : Type 0} (show : X → Work D R) (devices : List D) (x : Work D R) (all rest : List (Work D R)) (old new : List X)
      (thread : X) (added : Bool) → all ≡ x ∷ rest → MatchBool added (new ≡ old ++ thread ∷ []) (new ≡ old) → show thread ≡ x
      → BeginWith devices all × BeginWith devices (map show old) → BeginWith devices rest × BeginWith devices (map show new)
  one_runs show devices x all rest old new thread added is more same began =
      let P : Work D R → Type 0 = λ v. v.first ≡ slice_get devices v.seat.seat in
      let those = subst (All P) is began.0 in
      let one = subst P (sym same) (All-head P x rest those) in
      (All-tail P x rest those, all_shown show P old new thread added more began.1 one)

  pub one_joined : {X : Type 0} (show : X → Work D R) (devices : List D) (x : X) (all rest : List X) (old new : List (Work D R))
      (w : Work D R) (added : Bool) → all ≡ x ∷ rest → MatchBool added (new ≡ old ++ w ∷ []) (new ≡ old) → Stays (show x) w
      → BeginWith devices old × BeginWith devices (map show all) → BeginWith devices new × BeginWith devices (map show rest)
  one_joined show devices x all rest old new w added is more stays began =
      let P : Work D R → Type 0 = λ v. v.first ≡ slice_get devices v.seat.seat in
      let those = subst (λ l. All P (map show l)) is began.1 in
      let one = All-head P (show x) (map show rest) those in (
        all_added P old new w added more began.0 (stays.1 ∙ one ∙ ap (slice_get devices) (sym stays.0)),
        All-tail P (show x) (map show rest) those,
      )
