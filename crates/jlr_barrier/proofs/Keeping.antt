-- Each kind of change keeps the snapshot.
use Rattle.std.proofs.Common.{◌≡◌, ℕ, ◌⊎◌, inl, inr, List, [], ◌∷◌, ◌++◌, refl, sym, subst}
use Rattle.jlr_barrier.specs.Snapshots.{IsPathBy, IsReachedBy, Cycle, IsProtected, IsSafe, IsSnapshot}

-- ---- Paths

pub path_stays : (E : ℕ → ℕ → Type 0) (S : ℕ → Type 0) → ((x y : ℕ) → S x → E x y → S y) → (x : ℕ) (path : List ℕ) (y : ℕ) → S x
    → IsPathBy E x path y → S y
path_stays E S closed x [] y s p = subst S p s
path_stays E S closed x (z ∷ path) y s p = path_stays E S closed z path y (closed x z s p.0) p.1

pub reach_stays : (E : ℕ → ℕ → Type 0) (B S : ℕ → Type 0) → ((x y : ℕ) → S x → E x y → S y) → ((x : ℕ) → B x → S x) → (y : ℕ)
    → IsReachedBy E B y → S y
reach_stays E B S closed starts y r = path_stays E S closed r.0 r.2 y (starts r.0 r.1) r.3

path_extends : (E : ℕ → ℕ → Type 0) (x : ℕ) (path : List ℕ) (y z : ℕ) → IsPathBy E x path y → E y z → IsPathBy E x (path ++ z ∷ []) z
path_extends E x [] y z p e = (subst (λ u. E u z) (sym p) e, refl)
path_extends E x (u ∷ path) y z p e = (p.0, path_extends E u path y z p.1 e)

pub reach_extends : (E : ℕ → ℕ → Type 0) (B : ℕ → Type 0) (y z : ℕ) → IsReachedBy E B y → E y z → IsReachedBy E B z
reach_extends E B y z r e = (r.0, r.1, r.2 ++ z ∷ [], path_extends E r.0 r.2 y z r.3 e)

pub reach_start : (E : ℕ → ℕ → Type 0) (B : ℕ → Type 0) (x : ℕ) → B x → IsReachedBy E B x
reach_start E B x b = (x, b, [], refl)

-- ---- What is safe

-- what a strong edge leads to from a safe slot is safe
pub safe_along : (c : Cycle) → ((x : ℕ) → c.M x ⊎ (¬ (c.M x))) → IsSnapshot c → (x y : ℕ) → IsSafe c x → c.E x y → IsSafe c y
safe_along c decide i x y safe e = elim (decide y) [
  | inl on ↦ inl on
  | inr off ↦ elim (i.whole x y e) [
    | inl on ↦ elim (i.strong x y on e) [
      | inl grey ↦ inr
          (reach_extends (λ x z. c.F x z × (¬ (c.M z))) c.G x y (reach_start (λ x z. c.F x z × (¬ (c.M z))) c.G x grey.0) (grey.1, off))
      | inr s ↦ s
    ]
    | inr ahead ↦ elim safe [
      | inl on ↦ elim (i.strong x y on e) [
        | inl grey ↦ inr
            (reach_extends (λ x z. c.F x z × (¬ (c.M z))) c.G x y (reach_start (λ x z. c.F x z × (¬ (c.M z))) c.G x grey.0) (grey.1, off))
        | inr s ↦ s
      ]
      | inr p ↦ inr (reach_extends (λ x z. c.F x z × (¬ (c.M z))) c.G x y p (ahead, off))
    ]
  ]
]

-- ---- Other edges and roots, with the same marks: what is new leads to something safe, and what is lost led to something marked

module _ (c : Cycle) (E F Q : ℕ → ℕ → Type 0) (R : ℕ → Type 0) (i : IsSnapshot c)
    (gained : (x y : ℕ) → c.M x → E x y → c.E x y ⊎ IsSafe c y)
    (lost : (x y : ℕ) → c.F x y → F x y ⊎ c.M y)
    (whole : (x y : ℕ) → E x y → c.M x ⊎ F x y)
    (referred : (x y : ℕ) → c.M x → Q x y → c.Q x y ⊎ IsSafe c y)
    (roots : (y : ℕ) → R y → c.R y ⊎ IsSafe c y) where
  abbrev pub changed : Cycle
  changed = record { E = E; F = F; Q = Q; R = R; M = c.M; G = c.G; D = c.D }

  protected_still : (y : ℕ) → IsProtected c y → IsProtected changed y
  protected_still y p =
      reach_stays (λ x z. c.F x z × (¬ (c.M z))) c.G (IsProtected changed)
      (λ x z q e. elim (lost x z e.0) [
        | inl k ↦ reach_extends (λ x z. F x z × (¬ (c.M z))) c.G x z q (k, e.1)
        | inr on ↦ absurd (e.1 on)
      ])
      (λ x g. reach_start (λ x z. F x z × (¬ (c.M z))) c.G x g)
      y p

  safe_still : (y : ℕ) → IsSafe c y → IsSafe changed y
  safe_still y (inl on) = inl on
  safe_still y (inr p) = inr (protected_still y p)

  pub snapshot_of_changed : IsSnapshot changed
  snapshot_of_changed = record {
    grey = i.grey;
    roots = λ y r. elim (roots y r) [ inl old ↦ safe_still y (i.roots y old) | inr s ↦ safe_still y s ];
    strong = λ x y on e. elim (gained x y on e) [
      | inl old ↦ elim (i.strong x y on old) [
        | inl g ↦ elim (lost x y g.1) [ inl k ↦ inl (g.0, k) | inr marked ↦ inr (inl marked) ]
        | inr s ↦ inr (safe_still y s)
      ]
      | inr s ↦ inr (safe_still y s)
    ];
    whole = whole;
    referents = λ x y on q. elim (referred x y on q) [
      | inl old ↦ elim (i.referents x y on old) [
        | inl g ↦ inl g
        | inr r ↦ inr (elim r [ inl s ↦ inl (safe_still y s) | inr d ↦ inr d ])
      ]
      | inr s ↦ inr (inl (safe_still y s))
    ];
  }

-- ---- More marks: what is newly marked is grey, and each edge that a grey slot had to follow is still ahead, or leads to what is marked

module _ (c : Cycle) (F : ℕ → ℕ → Type 0) (M G D : ℕ → Type 0) (i : IsSnapshot c) (was : (x : ℕ) → c.M x ⊎ (¬ (c.M x)))
    (decide : (x : ℕ) → M x ⊎ (¬ (M x)))
    (kept : (x : ℕ) → c.M x → M x)
    (added : (x : ℕ) → M x → c.M x ⊎ G x)
    (grey_marked : (x : ℕ) → G x → M x)
    (followed : (x y : ℕ) → c.G x → c.F x y → (G x × F x y) ⊎ M y)
    (untouched : (x y : ℕ) → (¬ (c.M x)) → c.F x y → F x y)
    (noted : (x : ℕ) → c.D x → D x)
    (looked : (x y : ℕ) → c.G x → c.Q x y → G x ⊎ (M y ⊎ D x)) where
  abbrev pub shaded : Cycle
  shaded = record { E = c.E; F = F; Q = c.Q; R = c.R; M = M; G = G; D = D }

  -- on a path that protects: the grey slot at its start, or one that was unmarked
  abbrev OnPath : ℕ → Type 0
  OnPath x = (c.G x ⊎ (¬ (c.M x))) × IsSafe shaded x

  from_grey : (x z : ℕ) → G x → F x z → (¬ (M z)) → IsSafe shaded z
  from_grey x z g f off = inr (reach_extends (λ x z. F x z × (¬ (M z))) G x z (reach_start (λ x z. F x z × (¬ (M z))) G x g) (f, off))

  goes_on : (x z : ℕ) → OnPath x → c.F x z → (¬ (M z)) → IsSafe shaded z
  goes_on x z on f off = elim on.0 [
    | inl g ↦ elim (followed x z g f) [ inl still ↦ from_grey x z still.0 still.1 off | inr m ↦ absurd (off m) ]
    | inr white ↦
        let ahead : F x z = untouched x z white f in
        elim on.1 [
          | inl m ↦ elim (added x m) [ inl o ↦ absurd (white o) | inr g ↦ from_grey x z g ahead off ]
          | inr p ↦ inr (reach_extends (λ x z. F x z × (¬ (M z))) G x z p (ahead, off))
        ]
  ]

  carried : (y : ℕ) → IsProtected c y → OnPath y
  carried y p =
      reach_stays (λ x z. c.F x z × (¬ (c.M z))) c.G OnPath
      (λ x z on e. (inr e.1, elim (decide z) [ inl m ↦ inl m | inr off ↦ goes_on x z on e.0 off ]))
      (λ x g. (inl g, inl (kept x (i.grey x g))))
      y p

  safe_then : (y : ℕ) → IsSafe c y → IsSafe shaded y
  safe_then y (inl on) = inl (kept y on)
  safe_then y (inr p) = (carried y p).1

  strong_then : (x y : ℕ) → M x → c.E x y → (G x × F x y) ⊎ IsSafe shaded y
  strong_then x y on e = elim (was x) [
    | inl old ↦ elim (i.strong x y old e) [
      | inl g ↦ elim (followed x y g.0 g.1) [ inl still ↦ inl still | inr m ↦ inr (inl m) ]
      | inr s ↦ inr (safe_then y s)
    ]
    | inr white ↦ elim (added x on) [
      | inl old ↦ absurd (white old)
      | inr g ↦ elim (i.whole x y e) [ inl old ↦ absurd (white old) | inr f ↦ inl (g, untouched x y white f) ]
    ]
  ]

  pub snapshot_of_shaded : IsSnapshot shaded
  snapshot_of_shaded = record {
    grey = grey_marked;
    roots = λ y r. safe_then y (i.roots y r);
    strong = strong_then;
    whole = λ x y e. elim (was x) [
      | inl on ↦ inl (kept x on)
      | inr white ↦ elim (i.whole x y e) [ inl on ↦ absurd (white on) | inr f ↦ inr (untouched x y white f) ]
    ];
    referents = λ x y on q. elim (was x) [
      | inl old ↦ elim (i.referents x y old q) [
        | inl g ↦ elim (looked x y g q) [ inl still ↦ inl still | inr r ↦ inr (elim r [ inl m ↦ inl (inl m) | inr d ↦ inr d ]) ]
        | inr r ↦ inr (elim r [ inl s ↦ inl (safe_then y s) | inr d ↦ inr (noted x d) ])
      ]
      | inr white ↦ elim (added x on) [ inl old ↦ absurd (white old) | inr g ↦ inl g ]
    ];
  }

-- ---- A new object, which is black at once: nothing was at its slot, and what it leads to and refers to is safe

module _ (c : Cycle) (s : ℕ) (E F Q : ℕ → ℕ → Type 0) (R M : ℕ → Type 0) (i : IsSnapshot c) (was : (x : ℕ) → c.M x ⊎ (¬ (c.M x)))
    (decide : (x : ℕ) → M x ⊎ (¬ (M x)))
    (kept : (x : ℕ) → c.M x → M x)
    (marked : (x : ℕ) → M x → c.M x ⊎ (x ≡ s))
    (black : M s)
    (nothing_there : (y : ℕ) → ¬ (c.F s y))
    (beside : (x y : ℕ) → (x ≡ s → ⊥) → E x y → c.E x y)
    (stays : (x y : ℕ) → c.F x y → F x y)
    (leads : (y : ℕ) → E s y → IsSafe c y)
    (beside_refers : (x y : ℕ) → (x ≡ s → ⊥) → Q x y → c.Q x y)
    (refers : (y : ℕ) → Q s y → IsSafe c y)
    (here_or_not : (x : ℕ) → (x ≡ s) ⊎ (x ≡ s → ⊥))
    (roots : (y : ℕ) → R y → c.R y ⊎ (y ≡ s)) where
  abbrev pub with_new : Cycle
  with_new = record { E = E; F = F; Q = Q; R = R; M = M; G = c.G; D = c.D }

  abbrev OnPathThen : ℕ → Type 0
  OnPathThen x = (c.G x ⊎ (¬ (c.M x))) × IsSafe with_new x

  one_more : (x z : ℕ) → OnPathThen x → c.F x z → (¬ (M z)) → IsSafe with_new z
  one_more x z on f off = elim on.0 [
    | inl g ↦ inr (reach_extends (λ x z. F x z × (¬ (M z))) c.G x z (reach_start (λ x z. F x z × (¬ (M z))) c.G x g) (stays x z f, off))
    | inr white ↦ elim on.1 [
      | inl m ↦ elim (marked x m) [ inl o ↦ absurd (white o) | inr e ↦ absurd (nothing_there z (subst (λ u. c.F u z) e f)) ]
      | inr p ↦ inr (reach_extends (λ x z. F x z × (¬ (M z))) c.G x z p (stays x z f, off))
    ]
  ]

  carried_then : (y : ℕ) → IsProtected c y → OnPathThen y
  carried_then y p =
      reach_stays (λ x z. c.F x z × (¬ (c.M z))) c.G OnPathThen
      (λ x z on e. (inr e.1, elim (decide z) [ inl m ↦ inl m | inr off ↦ one_more x z on e.0 off ]))
      (λ x g. (inl g, inl (kept x (i.grey x g))))
      y p

  safe_with_new : (y : ℕ) → IsSafe c y → IsSafe with_new y
  safe_with_new y (inl on) = inl (kept y on)
  safe_with_new y (inr p) = (carried_then y p).1

  strong_with_new : (x y : ℕ) → M x → E x y → (c.G x × F x y) ⊎ IsSafe with_new y
  strong_with_new x y on e = elim (here_or_not x) [
    | inl h ↦ inr (safe_with_new y (leads y (subst (λ u. E u y) h e)))
    | inr d ↦ elim (marked x on) [
      | inr h ↦ absurd (d h)
      | inl old ↦ elim (i.strong x y old (beside x y d e)) [ inl g ↦ inl (g.0, stays x y g.1) | inr s ↦ inr (safe_with_new y s) ]
    ]
  ]

  referents_with_new : (x y : ℕ) → M x → Q x y → c.G x ⊎ (IsSafe with_new y ⊎ c.D x)
  referents_with_new x y on q = elim (here_or_not x) [
    | inl h ↦ inr (inl (safe_with_new y (refers y (subst (λ u. Q u y) h q))))
    | inr d ↦ elim (marked x on) [
      | inr h ↦ absurd (d h)
      | inl old ↦ elim (i.referents x y old (beside_refers x y d q)) [
        | inl g ↦ inl g
        | inr r ↦ inr (elim r [ inl s ↦ inl (safe_with_new y s) | inr noted ↦ inr noted ])
      ]
    ]
  ]

  pub snapshot_of_new : IsSnapshot with_new
  snapshot_of_new = record {
    grey = λ x g. kept x (i.grey x g);
    roots = λ y r. elim (roots y r) [ inl old ↦ safe_with_new y (i.roots y old) | inr h ↦ inl (subst M (sym h) black) ];
    strong = strong_with_new;
    whole = λ x y e. elim (here_or_not x) [
      | inl h ↦ inl (subst M (sym h) black)
      | inr d ↦ elim (i.whole x y (beside x y d e)) [ inl old ↦ inl (kept x old) | inr f ↦ inr (stays x y f) ]
    ];
    referents = referents_with_new;
  }

-- ---- An unmarked object is removed, where nothing is grey: less of all is left

module _ (c : Cycle) (E F Q : ℕ → ℕ → Type 0) (R : ℕ → Type 0) (i : IsSnapshot c)
    (none : (x : ℕ) → ¬ (c.G x))
    (strong : (x y : ℕ) → c.M x → E x y → c.E x y)
    (whole : (x y : ℕ) → E x y → c.M x ⊎ F x y)
    (referred : (x y : ℕ) → c.M x → Q x y → c.Q x y)
    (roots : (y : ℕ) → R y → c.R y) where
  abbrev pub left : Cycle
  left = record { E = E; F = F; Q = Q; R = R; M = c.M; G = c.G; D = c.D }

  still_safe : (y : ℕ) → IsSafe c y → IsSafe left y
  still_safe y (inl on) = inl on
  still_safe y (inr p) = absurd (none p.0 p.1)

  pub snapshot_of_left : IsSnapshot left
  snapshot_of_left = record {
    grey = i.grey;
    roots = λ y r. still_safe y (i.roots y (roots y r));
    strong = λ x y on e. elim (i.strong x y on (strong x y on e)) [ inl g ↦ absurd (none x g.0) | inr s ↦ inr (still_safe y s) ];
    whole = whole;
    referents = λ x y on q. elim (i.referents x y on (referred x y on q)) [
      | inl g ↦ inl g
      | inr r ↦ inr (elim r [ inl s ↦ inl (still_safe y s) | inr d ↦ inr d ])
    ];
  }
