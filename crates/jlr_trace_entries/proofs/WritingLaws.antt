-- Tables written place by place.
use Rattle.std.proofs.Common.{◌≡◌, ℕ, zero, suc, ◌+◌, ◌<◌, ◌≤◌, cond, List, [], ◌∷◌, ◌++◌, length, take, Option, Some, None, refl, sym, ap}
use Rattle.std.proofs.Common.{◌∙◌, append_assoc, arith}
use Rattle.std.specs.Prelude.{map, option_map, is_some}
use Rattle.std.specs.List.{flat_map, AllByRecursion}
use Rattle.std.proofs.lemmas.Grind.{flat_map-append}
use Rattle.std.proofs.lemmas.List.{append-nil, length-append}
use Rattle.std.proofs.lemmas.List.Concat.{flat_map-cons}
use Rattle.std.proofs.lemmas.List.Sums.{sum_by-cons, count_by-le-length}
use Rattle.jlr_machine.specs.Objects.{at, occupied}
use Rattle.jlr_machine.specs.declared.object.Object.{Object}
use Rattle.jlr_machine.specs.declared.machine.Session.{Session}
use Rattle.jlr_trace_fields.specs.declared.parts.record.Placed.{Placed}
use Rattle.jlr_trace_entries.specs.Images.{listed_from, placed, handle_held, session_text, spelled_session}
use Rattle.jlr_trace_entries.specs.Writing.{spelled_place, PlaceCounts, SessionCounts, spelled_session_of}

-- a list has as many items as places of its table have something
pub counted : {A B : Type 0} (make : ℕ → A → B) (n : ℕ) (places : List (Option A)) → occupied places ≡ length (listed_from make n places)
counted make n [] = refl
counted {A} make n (None ∷ places) =
    let none : Option A = None in
    let one : occupied (none ∷ places) ≡ 0 + occupied places = sum_by-cons (λ (o : Option A). cond (is_some o) 1 0) none places in
    omega (arith, one, counted make (suc n) places)
counted {A} make n (Some x ∷ places) =
    let some : Option A = Some x in
    let one : occupied (some ∷ places) ≡ 1 + occupied places = sum_by-cons (λ (o : Option A). cond (is_some o) 1 0) some places in
    omega (arith, one, counted make (suc n) places)

pub occupied_within : {A : Type 0} (places : List (Option A)) → occupied places ≤ length places
occupied_within places = count_by-le-length is_some places

pub held_counted : (handles : List (Option ℕ)) → occupied handles ≡ length (listed_from handle_held 0 handles)
held_counted handles = counted handle_held 0 handles

pub placed_counted : (table : List (Option Object)) (strays : List Placed)
    → occupied table + length strays ≡ length (listed_from placed 0 table ++ strays)
placed_counted table strays = omega (arith, counted placed 0 table, length-append (listed_from placed 0 table) strays)

-- what one place adds to the list
abbrev one_place : {A B : Type 0} → (ℕ → A → B) → ℕ → Option A → List B
one_place make n None = []
one_place make n (Some x) = make n x ∷ []

listed_more : {A B : Type 0} (make : ℕ → A → B) (n : ℕ) (places : List (Option A)) (i : ℕ)
    → listed_from make n (take (suc i) places) ≡ listed_from make n (take i places) ++ one_place make (n + i) (at places i)
listed_more make n [] zero = refl
listed_more make n [] (suc i) = refl
listed_more make n (None ∷ places) zero = refl
listed_more {A} {B} make n (Some x ∷ places) zero = let same : n ≡ n + 0 = omega arith in ap (λ k. make k x ∷ []) same
listed_more {A} {B} make n (None ∷ places) (suc i) =
    let same : suc n + i ≡ n + suc i = omega arith in
    listed_more make (suc n) places i ∙ ap (λ k. listed_from make (suc n) (take i places) ++ one_place make k (at places i)) same
listed_more {A} {B} make n (Some x ∷ places) (suc i) =
    let same : suc n + i ≡ n + suc i = omega arith in
    ap (λ (l : List B). make n x ∷ l) (listed_more make (suc n) places i
    ∙ ap (λ k. listed_from make (suc n) (take i places) ++ one_place make k (at places i)) same)

place_text : {A B : Type 0} (make : ℕ → A → B) (spelled : B → List ℕ) (n : ℕ) (o : Option A)
    → flat_map spelled (one_place make n o) ≡ spelled_place make spelled n o
place_text make spelled n None = refl
place_text make spelled n (Some x) = flat_map-cons spelled (make n x) [] ∙ append-nil (spelled (make n x))

-- a table as far as it was written, with one place more
pub more_written : {A B : Type 0} (make : ℕ → A → B) (spelled : B → List ℕ) (places : List (Option A)) (i : ℕ) (old middle new : List ℕ)
    → middle ≡ old ++ flat_map spelled (listed_from make 0 (take i places)) → new ≡ middle ++ spelled_place make spelled i (at places i)
    → new ≡ old ++ flat_map spelled (listed_from make 0 (take (i + 1) places))
more_written {A} {B} make spelled places i old middle new p q =
    let front : List B = listed_from make 0 (take i places) in
    let back : List B = one_place make (0 + i) (at places i) in
    let one : suc i ≡ i + 1 = omega arith in
    let number : 0 + i ≡ i = omega arith in
    let text : flat_map spelled (listed_from make 0 (take (suc i) places)) ≡ flat_map spelled front
    ++ spelled_place make spelled i (at places i) =
    ap (flat_map spelled) (listed_more make 0 places i) ∙ flat_map-append spelled front back
    ∙ ap (λ (t : List ℕ). flat_map spelled front ++ t)
    (place_text make spelled (0 + i) (at places i) ∙ ap (λ k. spelled_place make spelled k (at places i)) number) in
    q ∙ ap (λ (m : List ℕ). m ++ spelled_place make spelled i (at places i)) p
    ∙ append_assoc old (flat_map spelled front) (spelled_place make spelled i (at places i))
    ∙ ap (λ (t : List ℕ). old ++ t) (sym text ∙ ap (λ k. flat_map spelled (listed_from make 0 (take k places))) one)

pub take_whole : {A : Type 0} (xs : List A) (i : ℕ) → length xs ≤ i → take i xs ≡ xs
take_whole [] zero le = refl
take_whole [] (suc i) le = refl
take_whole (x ∷ xs) zero le = absurd (omega arith)
take_whole {A} (x ∷ xs) (suc i) le = ap (λ (l : List A). x ∷ l) (take_whole xs i (omega arith))

pub all_written : {A B : Type 0} (make : ℕ → A → B) (spelled : B → List ℕ) (places : List (Option A)) (i : ℕ) (old new : List ℕ)
    → length places ≤ i → new ≡ old ++ flat_map spelled (listed_from make 0 (take i places)) → new ≡ old
    ++ flat_map spelled (listed_from make 0 places)
all_written {A} {B} make spelled places i old new le p = p
    ∙ ap (λ (t : List (Option A)). old ++ flat_map spelled (listed_from make 0 t)) (take_whole places i le)

-- each place of a table
pub place_counts : (places : List (Option Object)) (i : ℕ) → AllByRecursion PlaceCounts places → PlaceCounts (at places i)
place_counts [] i all = tt
place_counts (o ∷ places) zero all = all.0
place_counts (o ∷ places) (suc i) all = place_counts places i all.1

pub session_counts : (places : List (Option Session)) (i : ℕ) → AllByRecursion SessionCounts places → SessionCounts (at places i)
session_counts [] i all = tt
session_counts (o ∷ places) zero all = all.0
session_counts (o ∷ places) (suc i) all = session_counts places i all.1

-- ---- Sessions

sessions_more : (places : List (Option Session)) (i : ℕ) → i < length places
    → flat_map spelled_session_of (take (suc i) places) ≡ flat_map spelled_session_of (take i places) ++ spelled_session_of (at places i)
sessions_more [] i lt = absurd (omega arith)
sessions_more (o ∷ places) zero lt = flat_map-cons spelled_session_of o [] ∙ append-nil (spelled_session_of o)
sessions_more (o ∷ places) (suc i) lt =
    flat_map-cons spelled_session_of o (take (suc i) places)
    ∙ ap (λ (t : List ℕ). spelled_session_of o ++ t) (sessions_more places i (omega arith))
    ∙ sym (append_assoc (spelled_session_of o) (flat_map spelled_session_of (take i places)) (spelled_session_of (at places i)))
    ∙ ap (λ (t : List ℕ). t ++ spelled_session_of (at places i)) (sym (flat_map-cons spelled_session_of o (take i places)))

pub more_sessions : (places : List (Option Session)) (i : ℕ) (old middle new : List ℕ) → i < length places → middle ≡ old
    ++ flat_map spelled_session_of (take i places) → new ≡ middle ++ spelled_session_of (at places i) → new ≡ old
    ++ flat_map spelled_session_of (take (i + 1) places)
more_sessions places i old middle new lt p q =
    let one : suc i ≡ i + 1 = omega arith in
    q ∙ ap (λ (m : List ℕ). m ++ spelled_session_of (at places i)) p
    ∙ append_assoc old (flat_map spelled_session_of (take i places)) (spelled_session_of (at places i))
    ∙ ap (λ (t : List ℕ). old ++ t) (sym (sessions_more places i lt) ∙ ap (λ k. flat_map spelled_session_of (take k places)) one)

pub all_sessions : (places : List (Option Session)) (i : ℕ) (old new : List ℕ) → length places ≤ i → new ≡ old
    ++ flat_map spelled_session_of (take i places) → new ≡ old ++ flat_map spelled_session_of places
all_sessions places i old new le p = p ∙ ap (λ (t : List (Option Session)). old ++ flat_map spelled_session_of t) (take_whole places i le)

session_is : (o : Option Session) → spelled_session_of o ≡ spelled_session (option_map session_text o)
session_is None = refl
session_is (Some s) = refl

pub sessions_are : (places : List (Option Session))
    → flat_map spelled_session_of places ≡ flat_map spelled_session (map (option_map session_text) places)
sessions_are [] = refl
sessions_are (o ∷ places) =
    flat_map-cons spelled_session_of o places ∙ ap (λ (t : List ℕ). t ++ flat_map spelled_session_of places) (session_is o)
    ∙ ap (λ (t : List ℕ). spelled_session (option_map session_text o) ++ t) (sessions_are places)
    ∙ sym (flat_map-cons spelled_session (option_map session_text o) (map (option_map session_text) places))
