-- What was seen is up to date after every entry.
use Rattle.std.proofs.Common.{◌≡◌, ℕ, Bool, true, false, cond, ◌||◌, List, [], ◌∷◌, length, refl, sym, ◌∙◌, ap, inl, inr, filter}
use Rattle.std.proofs.lemmas.Bool.{or_cases, or_left, or_right}
use Rattle.jlr_machine.specs.declared.machine.Machine.{Machine}
use Rattle.jlr_machine.specs.Objects.{◌∋◌, ◌∈◌}
use Rattle.jlr_machine.specs.Edges.{roots}
use Rattle.jlr_machine.specs.ReachSet.{reach_set, up_to}
use Rattle.jlr_machine.specs.Run.{seen_with, now_seen, done}
use Rattle.jlr_machine.specs.Edges.Chain.{UpToSoft}
use Rattle.jlr_laws.specs.Laws.{SeenStaysUpToDate}
use Rattle.jlr_laws.proofs.Sets.{in_front, in_rest, filter_in, in_filter}

-- tests that agree on the members let the same through
filter_same : (p q : ℕ → Bool) (xs : List ℕ) → ((x : ℕ) → x ∈ xs → p x ≡ q x) → filter p xs ≡ filter q xs
filter_same p q [] h = refl
filter_same p q (x ∷ xs) h =
    ap (λ b. cond b (x ∷ filter p xs) (filter p xs)) (h x (in_front x x xs refl))
    ∙ ap (λ l. cond (q x) (x ∷ l) l) (filter_same p q xs (λ y m. h y (in_rest y x xs m)))

same_test : (a b : Bool) → (a ≡ true → b ≡ true) → (b ≡ true → a ≡ true) → a ≡ b
same_test true b h k = sym (h refl)
same_test false true h k = k refl
same_test false false h k = refl

pub seen_again : (seen reach : List ℕ) (cells : ℕ) → seen_with (seen_with seen reach cells) reach cells ≡ seen_with seen reach cells
seen_again seen reach cells =
    let p : ℕ → Bool = λ s. (seen ∋ s) || (reach ∋ s) in
    let all = up_to 0 cells in
    filter_same (λ s. (filter p all ∋ s) || (reach ∋ s)) p all (λ x m. same_test ((filter p all ∋ x) || (reach ∋ x)) (p x)
    (λ h. elim (or_cases (filter p all ∋ x) (reach ∋ x) h) [ inl f ↦ (in_filter p all x f).0 | inr r ↦ or_right (seen ∋ x) (reach ∋ x) r ])
    (λ h. or_left (filter p all ∋ x) (reach ∋ x) (filter_in p all x h m)))

-- what is seen, by whether a cycle is open
abbrev seen_when : Bool → List ℕ → List ℕ → ℕ → List ℕ
seen_when b seen reach cells = elim b as (λ _. List ℕ) [ true ↦ seen_with seen reach cells | false ↦ [] ]

when_again : (b : Bool) (seen reach : List ℕ) (cells : ℕ)
    → seen_when b seen reach cells ≡ seen_when b (seen_when b seen reach cells) reach cells
when_again true seen reach cells = sym (seen_again seen reach cells)
when_again false seen reach cells = refl

up_to_date : (n : Machine) → now_seen n ≡ now_seen (record n { seen = now_seen n })
up_to_date n = when_again n.cycle_open n.seen (reach_set UpToSoft n.objects (roots n)) (length n.objects)

pub seen_stays_up_to_date : SeenStaysUpToDate
seen_stays_up_to_date = ((λ cells sessions resources action. refl), (λ m e. up_to_date (done m e)))
