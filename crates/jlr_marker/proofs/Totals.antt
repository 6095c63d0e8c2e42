-- Sums over slots, and numbers that go by colour.
use Rattle.std.proofs.Common.{◌≡◌, ℕ, zero, suc, ◌+◌, ◌*◌, ◌<◌, ◌≤◌, inl, inr, true, false, cond, refl, sym, subst, ap, ◌∙◌, arith}
use Rattle.std.proofs.lemmas.Bool.{cases_eq}
use Rattle.jlr_machine.specs.Objects.{◌∋◌}
use Rattle.jlr_marks.specs.Marking.{Marking, is_marked}
use Rattle.jlr_marker.specs.Spending.{by_colour, total}

-- ---- Sums

pub total_same : (f g : ℕ → ℕ) (n : ℕ) → ((x : ℕ) → x < n → g x ≡ f x) → total g n ≡ total f n
total_same f g zero same = refl
total_same f g (suc n) same = let before = total_same f g n (λ x h. same x (omega (arith, h))) in let here = same n (omega arith) in
    omega (arith, before, here)

pub total_one : (f g : ℕ → ℕ) (n s : ℕ) → s < n → ((x : ℕ) → (x ≡ s → ⊥) → g x ≡ f x) → g s ≡ f s + 1 → total g n ≡ total f n + 1
total_one f g zero s h others here = absurd (omega (arith, h))
total_one f g (suc n) s h others here =
    elim (cases_eq s n) [
      | inl same ↦
          let before = total_same f g n (λ x k. others x (λ e. omega (arith, e, same, k))) in
          let here' : g n ≡ f n + 1 = subst (λ k. g k ≡ f k + 1) same here in
          omega (arith, before, here')
      | inr other ↦
          let before = total_one f g n s (omega (arith, h, other)) others here in
          let last = others n (λ e. other (sym e)) in
          omega (arith, before, last)
    ]

pub total_within : (f g : ℕ → ℕ) (n : ℕ) → ((x : ℕ) → f x ≤ g x) → total f n ≤ total g n
total_within f g zero below = omega arith
total_within f g (suc n) below = let before = total_within f g n below in let here = below n in omega (arith, before, here)

pub total_less : (f g : ℕ → ℕ) (n s : ℕ) → s < n → ((x : ℕ) → f x ≤ g x) → f s < g s → total f n < total g n
total_less f g zero s h below here = absurd (omega (arith, h))
total_less f g (suc n) s h below here =
    elim (cases_eq s n) [
      | inl same ↦
          let before = total_within f g n below in
          let here' : f n < g n = subst (λ k. f k < g k) same here in
          omega (arith, before, here')
      | inr other ↦
          let before = total_less f g n s (omega (arith, h, other)) below here in
          let last = below n in
          omega (arith, before, last)
    ]

pub total_bounded : (f : ℕ → ℕ) (k n : ℕ) → ((x : ℕ) → f x ≤ k) → total f n ≤ k * n
total_bounded f k zero below = omega arith
total_bounded f k (suc n) below = let before = total_bounded f k n below in let here = below n in omega (arith, before, here)

pub total_nothing : (f : ℕ → ℕ) (n : ℕ) → ((x : ℕ) → f x ≡ 0) → total f n ≡ 0
total_nothing f zero none = refl
total_nothing f (suc n) none = let before = total_nothing f n none in let here = none n in omega (arith, before, here)

-- ---- Colours

pub colour_white : (m : Marking) (x grey black : ℕ) → is_marked m x ≡ false → by_colour m x grey black ≡ 0
colour_white m x grey black white = ap (λ b. cond b (cond (m.grey ∋ x) grey black) 0) white

pub colour_grey : (m : Marking) (x grey black : ℕ) → is_marked m x ≡ true → (m.grey ∋ x) ≡ true → by_colour m x grey black ≡ grey
colour_grey m x grey black on is_grey = ap (λ b. cond b (cond (m.grey ∋ x) grey black) 0) on ∙ ap (λ b. cond b grey black) is_grey

pub colour_black : (m : Marking) (x grey black : ℕ) → is_marked m x ≡ true → (m.grey ∋ x) ≡ false → by_colour m x grey black ≡ black
colour_black m x grey black on not_grey = ap (λ b. cond b (cond (m.grey ∋ x) grey black) 0) on ∙ ap (λ b. cond b grey black) not_grey

-- white, grey or black
pub by_cases : {P : Type 0} (m : Marking) (x : ℕ) → (is_marked m x ≡ false → P) → (is_marked m x ≡ true → (m.grey ∋ x) ≡ true → P)
    → (is_marked m x ≡ true → (m.grey ∋ x) ≡ false → P) → P
by_cases {P} m x white grey black =
    elim (is_marked m x) as (λ b. is_marked m x ≡ b → P) [
      | false ↦ white
      | true ↦ λ on. elim (m.grey ∋ x) as (λ b. (m.grey ∋ x) ≡ b → P) [ true ↦ grey on | false ↦ black on ] refl
    ] refl
