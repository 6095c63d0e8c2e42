-- What rounds find is what paths reach.
use Rattle.std.proofs.Common.{◌≡◌, ℕ, zero, suc, ◌+◌, ◌<◌, ◌≤◌, Bool, ◌||◌, List, [], ◌∷◌, ◌++◌, length, refl, sym, ◌∙◌, ap, subst, ◌⊎◌}
use Rattle.std.proofs.Common.{inl, inr, arith, filter}
use Rattle.std.specs.List.{list_any}
use Rattle.std.proofs.lemmas.Bool.{or_cases, or_left, or_right}
use Rattle.jlr_machine.specs.Objects.{Heap, ◌∋◌, ◌∈◌}
use Rattle.jlr_machine.specs.Edges.{Chain, edges_from}
use Rattle.jlr_machine.specs.Reachable.{IsPath, IsReached}
use Rattle.jlr_machine.specs.ReachSet.{up_to, one_round, rounds, reach_set}
use Rattle.jlr_laws.proofs.Sets.{any_from, any_gives, filter_in, in_filter, filter_length, same_or_longer, length-up_to, up_to_in, in_up_to}

module _ (chain : Chain) (heap : Heap) where
  abbrev test : List ℕ → ℕ → Bool
  test found s = (found ∋ s) || list_any (λ x. edges_from chain heap x ∋ s) found

  -- ---- What rounds find, a path reaches

  sound_step : (found : List ℕ) (s : ℕ) → s ∈ one_round chain heap found → IsReached chain heap found s
  sound_step found s m =
      let passed = in_filter (test found) (up_to 0 (length heap)) s m in
      elim (or_cases (found ∋ s) (list_any (λ x. edges_from chain heap x ∋ s) found) passed.0) [
        | inl old ↦ (s, old, ([], refl))
        | inr new ↦ let r = any_gives (λ x. edges_from chain heap x ∋ s) found new in (r.0, r.1, (s ∷ [], (r.2, refl)))
      ]

  -- a path after a path
  pub joined : (x y z : ℕ) (p q : List ℕ) → IsPath chain heap x p y → IsPath chain heap y q z → IsPath chain heap x (p ++ q) z
  joined x y z [] q e h = subst (λ a. IsPath chain heap a q z) (sym e) h
  joined x y z (w ∷ p) q g h = (g.0, joined w y z p q g.1 h)

  pub sound : (n : ℕ) (found : List ℕ) (s : ℕ) → s ∈ rounds n chain heap found → IsReached chain heap found s
  sound zero found s m = (s, m, ([], refl))
  sound (suc n) found s m =
      let r = sound n (one_round chain heap found) s m in
      let first = sound_step found r.0 r.1 in
      (first.0, first.1, (first.2.0 ++ r.2.0, joined first.0 r.0 s first.2.0 r.2.0 first.2.1 r.2.1))

  -- ---- A closed set holds what paths reach

  abbrev pub IsClosed : List ℕ → Type 0
  IsClosed found = (x s : ℕ) → x ∈ found → s ∈ edges_from chain heap x → s ∈ found

  pub along : (found : List ℕ) → IsClosed found → (x : ℕ) (path : List ℕ) (y : ℕ) → x ∈ found → IsPath chain heap x path y → y ∈ found
  along found closed x [] y m e = subst (λ s. s ∈ found) e m
  along found closed x (z ∷ path) y m h = along found closed z path y (closed x z m h.0) h.1

  pub closed_holds : (from found : List ℕ) → ((s : ℕ) → s ∈ from → s ∈ found) → IsClosed found → (s : ℕ) → IsReached chain heap from s
      → s ∈ found
  closed_holds from found within closed s r = along found closed r.0 r.2.0 s (within r.0 r.1) r.2.1

  -- ---- After as many rounds as there are cells, nothing is added

  grows : (found : List ℕ) (s : ℕ) → s < length heap → s ∈ found → s ∈ one_round chain heap found
  grows found s l m = filter_in (test found) (up_to 0 (length heap)) s (or_left (found ∋ s) _ m)
      (up_to_in 0 (length heap) s (omega arith) (omega (arith, l)))

  pub kept : (n : ℕ) (found : List ℕ) (s : ℕ) → s < length heap → s ∈ found → s ∈ rounds n chain heap found
  kept zero found s l m = m
  kept (suc n) found s l m = kept n (one_round chain heap found) s l (grows found s l m)

  still : (n : ℕ) (found : List ℕ) → one_round chain heap found ≡ found → rounds n chain heap found ≡ found
  still zero found e = refl
  still (suc n) found e = ap (rounds n chain heap) e ∙ still n found e

  abbrev all_slots : List ℕ
  all_slots = up_to 0 (length heap)

  one_more : (p : ℕ → Bool) → (filter p all_slots ≡ one_round chain heap (filter p all_slots))
      ⊎ (length (filter p all_slots) < length (one_round chain heap (filter p all_slots)))
  one_more p =
      same_or_longer p (test (filter p all_slots)) all_slots (λ x m e. or_left (filter p all_slots ∋ x) _ (filter_in p all_slots x e m))

  settles : (n : ℕ) (p : ℕ → Bool) → length heap ≤ length (filter p all_slots) + n
      → one_round chain heap (rounds n chain heap (filter p all_slots)) ≡ rounds n chain heap (filter p all_slots)
  settles zero p room = elim (one_more p) [
    | inl same ↦ sym same
    | inr longer ↦ absurd (omega (arith, room, longer, filter_length (test (filter p all_slots)) all_slots, length-up_to 0 (length heap)))
  ]
  settles (suc k) p room = elim (one_more p) [
    | inl same ↦ ap (one_round chain heap) (still (suc k) (filter p all_slots) (sym same)) ∙ sym same
        ∙ sym (still (suc k) (filter p all_slots) (sym same))
    | inr longer ↦ settles k (test (filter p all_slots)) (omega (arith, room, longer))
  ]

  -- ---- So what rounds find is what paths reach

  -- each edge leads to a place of the heap
  abbrev pub AreEdgesWithin : Type 0
  AreEdgesWithin = (x s : ℕ) → s ∈ edges_from chain heap x → s < length heap

  pub still_closed : (found : List ℕ) → one_round chain heap found ≡ found → AreEdgesWithin → IsClosed found
  still_closed found e within x s m edge =
      subst (λ l. s ∈ l) e
      (filter_in (test found) all_slots s (or_right (found ∋ s) _ (any_from x found (λ x. edges_from chain heap x ∋ s) m edge))
      (up_to_in 0 (length heap) s (omega arith) (omega (arith, within x s edge))))

  settled : (found : List ℕ) → one_round chain heap (reach_set chain heap found) ≡ reach_set chain heap found
  settled found = settles (length heap) (test found) (omega arith)

  pub reached_sound : (from : List ℕ) (s : ℕ) → s ∈ reach_set chain heap from → IsReached chain heap from s
  reached_sound from s m = sound (suc (length heap)) from s m

  pub reached_closed : (from : List ℕ) → AreEdgesWithin → IsClosed (reach_set chain heap from)
  reached_closed from within = still_closed (reach_set chain heap from) (settled from) within

  pub reached_complete : (from : List ℕ) → AreEdgesWithin → ((s : ℕ) → s ∈ from → s < length heap) → (s : ℕ) → IsReached chain heap from s
      → s ∈ reach_set chain heap from
  reached_complete from within below s r =
      closed_holds from (reach_set chain heap from) (λ x m. kept (suc (length heap)) from x (below x m) m) (reached_closed from within) s r

  pub reached_below : (from : List ℕ) (s : ℕ) → s ∈ reach_set chain heap from → s < length heap
  reached_below from s m =
      let r = in_up_to 0 (length heap) s (in_filter (test (reach_set chain heap from)) all_slots s
      (subst (λ l. s ∈ l) (sym (settled from)) m)).1 in
      omega (arith, r.1)
