-- Each step keeps the rule.
use Rattle.std.proofs.Common.{◌≡◌, ◌≢◌, ◌⊎◌, ℕ, zero, suc, ◌+◌, ◌<◌, List, [], ◌∷◌, ◌++◌, length, set, true, false, cond, true≢false, refl}
use Rattle.std.proofs.Common.{sym, ap, ◌∙◌, subst, inl, inr, ⊎_elim, arith, eq-eqb, ne_eqb, eqb, append_assoc}
use Rattle.std.proofs.lemmas.List.{append-nil, length-set}
use Rattle.std.proofs.lemmas.List.Elements.{filter-append}
use mathlib.Core.Option.{some, some-ne-none, some-injective}
use lib.ListN.{get_elem?}
use Rattle.atomic_table.proofs.Lists.{at_set}
use Rattle.jlr_log.specs.declared.rule.View.{View}
use Rattle.jlr_log.specs.Views.{knower, sitter, nobody, meeting, own}
use Rattle.jlr_log.specs.Rule.{Knows, Fits, KeptViews}
use Rattle.jlr_log.specs.Seeing.{AllOf, IsSeated}

off : false ≡ true → ⊥
off e = true≢false (sym e)

at_end : {A : Type 0} (l : List A) (a b : A) (j : ℕ) → get_elem? (l ++ a ∷ []) j ≡ some b → (get_elem? l j ≡ some b)
    ⊎ ((j ≡ length l) × (a ≡ b))
at_end [] a b zero e = inr (refl, some-injective a b e)
at_end [] a b (suc j) e = absurd (some-ne-none b (sym e))
at_end (x ∷ xs) a b zero e = inl e
at_end (x ∷ xs) a b (suc j) e = ⊎_elim (λ t. inl t) (λ t. inr (ap suc t.0, t.1)) (at_end xs a b j e)

-- who holds a seat, after it went to x
abbrev moved : ℕ → ℕ → (ℕ → ℕ) → ℕ → ℕ
moved seat x holder k = cond (eqb k seat) x (holder k)

moved_here : (seat x : ℕ) (holder : ℕ → ℕ) → moved seat x holder seat ≡ x
moved_here seat x holder = ap (λ b. cond b x (holder seat)) (eq-eqb seat seat refl)

moved_else : (seat x : ℕ) (holder : ℕ → ℕ) (k : ℕ) → k ≢ seat → moved seat x holder k ≡ holder k
moved_else seat x holder k ne = ap (λ b. cond b x (holder k)) (ne_eqb k seat ne)

module _ {E : Type 0} (owner : E → ℕ) where
  none_of : (told : List E) (seat other : ℕ) → AllOf owner seat told → other ≢ seat → own owner other told ≡ []
  none_of [] seat other all ne = refl
  none_of (e ∷ told) seat other all ne =
      let is : eqb (owner e) other ≡ false = ne_eqb (owner e) other (λ same. ne (sym same ∙ all.0)) in
      rw is (none_of told seat other all.1 ne)

  knows_all : (seat : ℕ) (log : List E) → Knows owner seat log log
  knows_all seat log = ([], sym (append-nil log), refl)

  knows_on : (seat : ℕ) (known log told : List E) → own owner seat told ≡ [] → Knows owner seat known log
      → Knows owner seat known (log ++ told)
  knows_on seat known log told none k = (
    k.0 ++ told,
    ap (λ l. l ++ told) k.1 ∙ append_assoc known k.0 told,
    filter-append _ k.0 told ∙ ap (λ l. l ++ own owner seat told) k.2 ∙ none,
  )

  pub begins : KeptViews owner (knower [] 0 ∷ [])
  begins = (0, (λ _. 0), 0, [], one)
    where
      one : (by : ℕ) (v : View E) → get_elem? (knower [] 0 ∷ []) by ≡ some v → Fits owner 0 (λ _. 0) 0 [] by v
      one zero v e = subst (Fits owner 0 (λ _. 0) 0 [] 0) (some-injective _ _ e) ((λ _. (refl, refl, refl)), (λ s. absurd (off s)))
      one (suc by) v e = absurd (some-ne-none v (sym e))

  pub deals : (views : List (View E)) (by : ℕ) (all : List E) (dealt : ℕ) → KeptViews owner views → get_elem? views by
      ≡ some (knower all dealt)
      → KeptViews owner (set views by (knower all (dealt + 1)) ++ sitter dealt all ∷ [])
  deals views by all dealt h at =
      let keeper = h.0 in
      let holder = h.1 in
      let d = h.2 in
      let log = h.3 in
      let mine = (h.4 by (knower all dealt) at).0 refl in
      let w = knower all (dealt + 1) in
      let holder' = moved dealt (length views) holder in
      let same : dealt ≡ d = mine.2 in (
        keeper,
        holder',
        d + 1,
        log,
        λ j u e.
            ⊎_elim
            (λ (in_set : get_elem? (set views by w) j ≡ some u).
            ⊎_elim
            (λ (x : (j ≡ by) × (w ≡ u)). subst (Fits owner keeper holder' (d + 1) log j) x.1
            ((λ _. (x.0 ∙ mine.0, mine.1, ap (λ n. n + 1) same)), (λ s. absurd (off s))))
            (λ (x : (j ≢ by) × (get_elem? views j ≡ some u)).
            let f = h.4 j u x.1 in (
              (λ k. absurd (x.0 ((f.0 k).0 ∙ sym mine.0))),
              (λ s. let g = f.1 s in (
                g.0 ∙ sym (moved_else dealt (length views) holder u.seat
                    (λ is. let lt : u.seat < d = g.1 in absurd (omega (arith, lt, is, same)))),
                (let lt : u.seat < d = g.1 in omega (arith, lt)),
                g.2,
              )),
            ))
            (at_set views by j w u in_set))
            (λ (x : (j ≡ length (set views by w)) × (sitter dealt all ≡ u)).
            subst (Fits owner keeper holder' (d + 1) log j) x.1 (
              (λ k. absurd (off k)),
              (λ _. (
                x.0 ∙ length-set views by w ∙ sym (moved_here dealt (length views) holder),
                omega (arith, same),
                subst (Knows owner dealt all) mine.1 (knows_all dealt all),
              )),
            ))
            (at_end (set views by w) (sitter dealt all) u j e),
      )

  pub meets : (views : List (View E)) (by : ℕ) (all : List E) (dealt other seat : ℕ) (known : List E) → KeptViews owner views
      → get_elem? views by ≡ some (knower all dealt)
      → (¬ (other ≡ by)) → get_elem? (set views by (meeting all dealt seat known)) other ≡ some (sitter seat known)
      → KeptViews owner (set (set views by (meeting all dealt seat known)) other nobody)
  meets views by all dealt other seat known h at apart there =
      let keeper = h.0 in
      let holder = h.1 in
      let d = h.2 in
      let log = h.3 in
      let both = meeting all dealt seat known in
      let mine = (h.4 by (knower all dealt) at).0 refl in
      let was : get_elem? views other ≡ some (sitter seat known) =
      ⊎_elim (λ (x : (other ≡ by) × (both ≡ sitter seat known)). absurd (apart x.0))
      (λ (x : (other ≢ by) × (get_elem? views other ≡ some (sitter seat known))). x.1)
      (at_set views by other both (sitter seat known) there) in
      let theirs = (h.4 other (sitter seat known) was).1 refl in
      let holder' = moved seat by holder in (
        keeper,
        holder',
        d,
        log,
        λ j u e.
            ⊎_elim
            (λ (x : (j ≡ other) × (nobody ≡ u)). subst (Fits owner keeper holder' d log j) x.1
            ((λ k. absurd (off k)), (λ s. absurd (off s))))
            (λ (x : (j ≢ other) × (get_elem? (set views by both) j ≡ some u)).
            ⊎_elim
            (λ (y : (j ≡ by) × (both ≡ u)). subst (Fits owner keeper holder' d log j) y.1
            ((λ _. (y.0 ∙ mine.0, mine.1, mine.2)), (λ _. (y.0 ∙ sym (moved_here seat by holder), theirs.1, theirs.2))))
            (λ (y : (j ≢ by) × (get_elem? views j ≡ some u)).
            let f = h.4 j u y.1 in (
              f.0,
              (λ s. let g =
                  f.1 s in (g.0 ∙ sym (moved_else seat by holder u.seat (λ is. x.0 (g.0 ∙ ap holder is ∙ sym theirs.0))), g.1, g.2)),
            ))
            (at_set views by j both u x.1))
            (at_set (set views by both) other j nobody u e),
      )

  pub adds : (views : List (View E)) (by : ℕ) (all : List E) (dealt seat : ℕ) (known told : List E) → AllOf owner seat told
      → KeptViews owner views
      → get_elem? views by ≡ some (meeting all dealt seat known)
      → KeptViews owner (set views by (meeting (all ++ told) dealt seat (all ++ told))) × Knows owner seat known all
  adds views by all dealt seat known told its h at =
      let keeper = h.0 in
      let holder = h.1 in
      let d = h.2 in
      let log = h.3 in
      let f = h.4 by (meeting all dealt seat known) at in
      let mine = f.0 refl in
      let sits = f.1 refl in
      let w = meeting (all ++ told) dealt seat (all ++ told) in
      let longer : all ++ told ≡ log ++ told = ap (λ l. l ++ told) mine.1 in (
        (
          keeper,
          holder,
          d,
          log ++ told,
          λ j u e.
              ⊎_elim
              (λ (x : (j ≡ by) × (w ≡ u)). subst (Fits owner keeper holder d (log ++ told) j) x.1 (
                (λ _. (x.0 ∙ mine.0, longer, mine.2)),
                (λ _. (x.0 ∙ sits.0, sits.1, subst (Knows owner seat (all ++ told)) longer (knows_all seat (all ++ told)))),
              ))
              (λ (x : (j ≢ by) × (get_elem? views j ≡ some u)).
              let g = h.4 j u x.1 in (
                (λ k. absurd (x.0 ((g.0 k).0 ∙ sym mine.0))),
                (λ s. let t = g.1 s in (
                  t.0,
                  t.1,
                  knows_on u.seat u.known log told
                      (none_of told seat u.seat its (λ is. x.0 (t.0 ∙ ap holder is ∙ sym sits.0))) t.2,
                )),
              ))
              (at_set views by j w u e),
        ),
        subst (Knows owner seat known) (sym mine.1) sits.2,
      )

  pub parts : (views : List (View E)) (by : ℕ) (all : List E) (dealt seat : ℕ) (known : List E) → KeptViews owner views
      → get_elem? views by ≡ some (meeting all dealt seat known)
      → KeptViews owner (set views by (knower all dealt) ++ sitter seat known ∷ [])
  parts views by all dealt seat known h at =
      let keeper = h.0 in
      let holder = h.1 in
      let d = h.2 in
      let log = h.3 in
      let f = h.4 by (meeting all dealt seat known) at in
      let mine = f.0 refl in
      let sits = f.1 refl in
      let w = knower all dealt in
      let holder' = moved seat (length views) holder in (
        keeper,
        holder',
        d,
        log,
        λ j u e.
            ⊎_elim
            (λ (in_set : get_elem? (set views by w) j ≡ some u).
            ⊎_elim
            (λ (x : (j ≡ by) × (w ≡ u)). subst (Fits owner keeper holder' d log j) x.1
            ((λ _. (x.0 ∙ mine.0, mine.1, mine.2)), (λ s. absurd (off s))))
            (λ (x : (j ≢ by) × (get_elem? views j ≡ some u)).
            let g = h.4 j u x.1 in (
              g.0,
              (λ s. let t = g.1 s in (
                t.0 ∙ sym (moved_else seat (length views) holder u.seat
                    (λ is. x.0 (t.0 ∙ ap holder is ∙ sym sits.0))),
                t.1,
                t.2,
              )),
            ))
            (at_set views by j w u in_set))
            (λ (x : (j ≡ length (set views by w)) × (sitter seat known ≡ u)).
            subst (Fits owner keeper holder' d log j) x.1 (
              (λ k. absurd (off k)),
              (λ _. (x.0 ∙ length-set views by w ∙ sym (moved_here seat (length views) holder), sits.1, sits.2)),
            ))
            (at_end (set views by w) (sitter seat known) u j e),
      )

  -- the moves, at a view that is known
  pub deals_as : (views : List (View E)) (by : ℕ) (v : View E) → v ≡ knower v.all v.dealt → KeptViews owner views → get_elem? views by
      ≡ some v
      → KeptViews owner (set views by (knower v.all (v.dealt + 1)) ++ sitter v.dealt v.all ∷ [])
  deals_as views by v is h at = deals views by v.all v.dealt h (at ∙ ap some is)

  pub meets_as : (views : List (View E)) (by : ℕ) (v : View E) (other : ℕ) (w : View E) → v ≡ knower v.all v.dealt
      → w ≡ sitter w.seat w.known → KeptViews owner views
      → get_elem? views by ≡ some v → (¬ (other ≡ by)) → get_elem? (set views by (meeting v.all v.dealt w.seat w.known)) other ≡ some w
      → KeptViews owner (set (set views by (meeting v.all v.dealt w.seat w.known)) other nobody)
  meets_as views by v other w is sits h at apart there =
      meets views by v.all v.dealt other w.seat w.known h (at ∙ ap some is) apart (there ∙ ap some sits)

  pub adds_as : (views : List (View E)) (by : ℕ) (v : View E) (told : List E) → v ≡ meeting v.all v.dealt v.seat v.known
      → AllOf owner v.seat told → KeptViews owner views
      → get_elem? views by ≡ some v
      → KeptViews owner (set views by (meeting (v.all ++ told) v.dealt v.seat (v.all ++ told))) × Knows owner v.seat v.known v.all
  adds_as views by v told is its h at = adds views by v.all v.dealt v.seat v.known told its h (at ∙ ap some is)

  pub parts_as : (views : List (View E)) (by : ℕ) (v : View E) → v ≡ meeting v.all v.dealt v.seat v.known → KeptViews owner views
      → get_elem? views by ≡ some v
      → KeptViews owner (set views by (knower v.all v.dealt) ++ sitter v.seat v.known ∷ [])
  parts_as views by v is h at = parts views by v.all v.dealt v.seat v.known h (at ∙ ap some is)

  pub is_meeting : (v : View E) (all : List E) (dealt seat : ℕ) (known : List E) → v ≡ meeting all dealt seat known
      → v ≡ meeting v.all v.dealt v.seat v.known
  is_meeting v all dealt seat known e = subst (λ (u : View E). u ≡ meeting u.all u.dealt u.seat u.known) (sym e) refl

  pub is_sitter : (views : List (View E)) (w : View E) → IsSeated views → views ≡ w ∷ [] → w ≡ sitter w.seat w.known
  is_sitter views w s e = let t : w ∷ [] ≡ sitter w.seat w.known ∷ [] = subst IsSeated e s in cc t
