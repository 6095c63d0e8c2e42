-- What shading does, one slot after another.
use Rattle.std.proofs.Common.{ℕ, Option, Some, ◌≡◌, zero, suc, ◌<◌, ◌⊎◌, Bool, true, false, cond, List, [], ◌∷◌, ◌++◌, length, get_or, set}
use Rattle.std.proofs.Common.{arith, length-set, length-append, refl, sym, ◌∙◌, ap, subst, inl, inr, get_or-set_same, get_or-set_other}
use Rattle.std.specs.Option.{option_to_list}
use Rattle.std.proofs.lemmas.List.{set-get_or}
use Rattle.std.proofs.lemmas.Bool.{both_ways, cases_eq}
use Rattle.jlr_machine.specs.Objects.{◌∈◌}
use Rattle.jlr_marks.specs.declared.part.Part.{Part}
use Rattle.jlr_marks.specs.Marking.{Marking, is_marked, IsMarked, Shaded}
use Rattle.jlr_laws.proofs.Sets.{nothing, in_front, in_cons}
use Rattle.jlr_laws.proofs.Clearing.{in_append, in_left, in_right, option_in, in_option}
use Rattle.jlr_marks.proofs.MarkCounts.{count_marks}

-- ---- Bits

set_marked : (bits : List Bool) (y x : ℕ) → get_or (set bits y true) x false ≡ true → (get_or bits x false ≡ true) ⊎ (x ≡ y)
set_marked bits y x e = elim (cases_eq x y) [ inl p ↦ inr p | inr p ↦ inl (sym (get_or-set_other bits y x true false p) ∙ e) ]

pub set_keeps : (bits : List Bool) (y x : ℕ) → y < length bits → get_or bits x false ≡ true → get_or (set bits y true) x false ≡ true
set_keeps bits y x h e = elim (cases_eq x y) [
  | inl p ↦ ap (λ z. get_or (set bits y true) z false) p ∙ get_or-set_same bits y true false h
  | inr p ↦ get_or-set_other bits y x true false p ∙ e
]

pub marked_here : (bits : List Bool) (y : ℕ) → y < length bits → get_or (set bits y true) y false ≡ true
marked_here bits y inside = get_or-set_same bits y true false inside

pub marked_within : (bits : List Bool) (x : ℕ) → get_or bits x false ≡ true → x < length bits
marked_within [] x e = absurd cc
marked_within (b ∷ bs) zero e = omega arith
marked_within (b ∷ bs) (suc x) e = omega (arith, marked_within bs x e)

-- ---- Shading nothing, the same and more

pub shaded_none : (T : ℕ → Type 0) → ((x : ℕ) → ¬ (T x)) → (m : Marking) → Shaded T m m
shaded_none T none m =
    record {
      long = refl;
      kept = λ x h. h;
      added = λ x h. inl h;
      grey_kept = λ x h. h;
      grey_marked = λ x h. inl h;
      fresh = λ x h. inl h;
      all = λ x t. absurd (none x t);
      black_same = refl;
      discovered_same = refl;
      part_same = refl;
    }

pub shaded_same : (T U : ℕ → Type 0) → ((x : ℕ) → T x → U x) → ((x : ℕ) → U x → T x) → (m n : Marking) → Shaded T m n → Shaded U m n
shaded_same T U to from m n s =
    record {
      long = s.long;
      kept = s.kept;
      added = λ x h. elim (s.added x h) [ inl o ↦ inl o | inr a ↦ inr (to x a.0, a.1) ];
      grey_kept = s.grey_kept;
      grey_marked = s.grey_marked;
      fresh = s.fresh;
      all = λ x u. s.all x (from x u);
      black_same = s.black_same;
      discovered_same = s.discovered_same;
      part_same = s.part_same;
    }

pub shaded_then : (T U : ℕ → Type 0) (a b c : Marking) → Shaded T a b → Shaded U b c → Shaded (λ x. T x ⊎ U x) a c
shaded_then T U a b c s t =
    record {
      long = t.long ∙ s.long;
      kept = λ x h. t.kept x (s.kept x h);
      added = λ x h. elim (t.added x h) [
        | inl o ↦ elim (s.added x o) [ inl z ↦ inl z | inr z ↦ inr (inl z.0, t.grey_kept x z.1) ]
        | inr z ↦ inr (inr z.0, z.1)
      ];
      grey_kept = λ x h. t.grey_kept x (s.grey_kept x h);
      grey_marked = λ x h. elim (t.grey_marked x h) [
        | inl o ↦ elim (s.grey_marked x o) [ inl z ↦ inl z | inr z ↦ inr (t.kept x z) ]
        | inr z ↦ inr z
      ];
      fresh = λ x h. elim (t.fresh x h) [ inl o ↦ s.fresh x o | inr white ↦ inr (λ on. white (s.kept x on)) ];
      all = λ x h. elim h [ inl u ↦ t.kept x (s.all x u) | inr u ↦ t.all x u ];
      black_same = omega (arith, s.black_same, t.black_same);
      discovered_same = t.discovered_same ∙ s.discovered_same;
      part_same = t.part_same ∙ s.part_same;
    }

-- ---- Shading one slot

set_same : (bits : List Bool) (y : ℕ) → get_or bits y false ≡ true → set bits y true ≡ bits
set_same bits y k = subst (λ b. set bits y b ≡ bits) k (set-get_or bits y false)

pub same_marking : (m n : Marking) → m.bits ≡ n.bits → m.grey ≡ n.grey → m.discovered ≡ n.discovered → m.part ≡ n.part → m ≡ n
same_marking m n eb eg ed ep =
    let with_bits : List Bool → Marking = λ b. record { bits = b; grey = m.grey; discovered = m.discovered; part = m.part } in
    let with_grey : List ℕ → Marking = λ g. record { bits = n.bits; grey = g; discovered = m.discovered; part = m.part } in
    let with_discovered : List ℕ → Marking = λ d. record { bits = n.bits; grey = n.grey; discovered = d; part = m.part } in
    let with_part : Option Part → Marking = λ p. record { bits = n.bits; grey = n.grey; discovered = n.discovered; part = p } in
    ap with_bits eb ∙ ap with_grey eg ∙ ap with_discovered ed ∙ ap with_part ep

shaded_already : (y : ℕ) (m : Marking) → is_marked m y ≡ true → Shaded (λ x. x ≡ y) m m
shaded_already y m k =
    record {
      long = refl;
      kept = λ x h. h;
      added = λ x h. inl h;
      grey_kept = λ x h. h;
      grey_marked = λ x h. inl h;
      fresh = λ x h. inl h;
      all = λ x e. ap (is_marked m) e ∙ k;
      black_same = refl;
      discovered_same = refl;
      part_same = refl;
    }

abbrev shade_new : Marking → ℕ → Marking
shade_new m y = record { bits = set m.bits y true; grey = m.grey ++ y ∷ []; discovered = m.discovered; part = m.part }

shaded_new : (y : ℕ) (m : Marking) → y < length m.bits → is_marked m y ≡ false → Shaded (λ x. x ≡ y) m (shade_new m y)
shaded_new y m h k =
    let top : IsMarked (shade_new m y) y = get_or-set_same m.bits y true false h in
    let last : (x : ℕ) → x ≡ y → x ∈ (shade_new m y).grey = λ x e. in_right x m.grey (y ∷ []) (in_front x y [] e) in
    record {
      long = length-set m.bits y true;
      kept = λ x q. set_keeps m.bits y x h q;
      added = λ x q. elim (set_marked m.bits y x q) [ inl o ↦ inl o | inr e ↦ inr (e, last x e) ];
      grey_kept = λ x q. in_left x m.grey (y ∷ []) q;
      grey_marked = λ x q. elim (in_append x m.grey (y ∷ []) q) [
        | inl o ↦ inl o
        | inr o ↦ elim (in_cons x y [] o) [ inl e ↦ inr (ap (is_marked (shade_new m y)) e ∙ top) | inr n ↦ nothing x n ]
      ];
      fresh = λ x q. elim (in_append x m.grey (y ∷ []) q) [
        | inl o ↦ inl o
        | inr o ↦ elim (in_cons x y [] o) [
          | inl e ↦ inr (λ on. both_ways (is_marked m y) k (sym (ap (is_marked m) e) ∙ on))
          | inr n ↦
              nothing x n
        ]
      ];
      all = λ x e. ap (is_marked (shade_new m y)) e ∙ top;
      black_same = omega (arith, count_marks m.bits y h k, length-append m.grey (y ∷ []));
      discovered_same = refl;
      part_same = refl;
    }

shaded_case : (y : ℕ) (m : Marking) (b : Bool) → is_marked m y ≡ b → y < length m.bits
    → Shaded (λ x. x ≡ y) m
    (record { bits = set m.bits y true; grey = cond b m.grey (m.grey ++ y ∷ []); discovered = m.discovered; part = m.part })
shaded_case y m true k h = subst (λ l. Shaded (λ x. x ≡ y) m (record { bits = l; grey = m.grey; discovered = m.discovered; part = m.part }))
    (sym (set_same m.bits y k)) (shaded_already y m k)
shaded_case y m false k h = shaded_new y m h k

pub shaded_one : (y : ℕ) (m n : Marking) → y < length m.bits → n.bits ≡ set m.bits y true
    → n.grey ≡ cond (is_marked m y) m.grey (m.grey ++ y ∷ []) → n.discovered ≡ m.discovered → n.part ≡ m.part → Shaded (λ x. x ≡ y) m n
shaded_one y m n h eb eg ed ep =
    let after : Marking = record {
      bits = set m.bits y true;
      grey = cond (is_marked m y) m.grey (m.grey ++ y ∷ []);
      discovered = m.discovered;
      part = m.part;
    } in
    subst (Shaded (λ x. x ≡ y) m) (sym (same_marking n after eb eg ed ep)) (shaded_case y m (is_marked m y) refl h)

-- ---- Shading the members of two lists

pub shaded_in_both : (xs ys : List ℕ) (m n : Marking) → Shaded (λ x. (x ∈ xs) ⊎ (x ∈ ys)) m n → Shaded (λ x. x ∈ xs ++ ys) m n
shaded_in_both xs ys m n s =
    shaded_same _ _ (λ x h. elim h [ inl o ↦ in_left x xs ys o | inr o ↦ in_right x xs ys o ]) (λ x h. in_append x xs ys h) m n s

pub shaded_target : (o : Option ℕ) (m n : Marking) → Shaded (λ x. o ≡ Some x) m n → Shaded (λ x. x ∈ option_to_list o) m n
shaded_target o m n s = shaded_same _ _ (λ x e. option_in x o e) (λ x h. in_option x o h) m n s

-- ---- Shading the members of five lists

pub shaded_in_five : (xs ys zs vs ws : List ℕ) (a b c d e f : Marking) → Shaded (λ x. x ∈ xs) a b → Shaded (λ x. x ∈ ys) b c
    → Shaded (λ x. x ∈ zs) c d → Shaded (λ x. x ∈ vs) d e → Shaded (λ x. x ∈ ws) e f → Shaded (λ x. x ∈ xs ++ ys ++ zs ++ vs ++ ws) a f
shaded_in_five xs ys zs vs ws a b c d e f s t u v w =
    let two = shaded_in_both xs ys a c (shaded_then _ _ a b c s t) in
    let three = shaded_in_both (xs ++ ys) zs a d (shaded_then _ _ a c d two u) in
    let four = shaded_in_both (xs ++ ys ++ zs) vs a e (shaded_then _ _ a d e three v) in
    shaded_in_both (xs ++ ys ++ zs ++ vs) ws a f (shaded_then _ _ a e f four w)
