-- What becomes of a resource in an entry, from what becomes of the list of resources.
use Rattle.std.proofs.Common.{◌≡◌, ℕ, ◌≤◌, ◌==◌, refl, sym, ◌∙◌, ap, subst, ◌⊎◌, inl, inr, arith, Option, Some, None}
use Rattle.std.proofs.lemmas.Bool.{cond-true, cond-false, cases_eq, eq-eqb, ne_eqb, lt-ltb}
use Rattle.jlr_machine.specs.declared.machine.Machine.{Machine}
use Rattle.jlr_machine.specs.declared.machine.Resource.{Resource}
use Rattle.jlr_machine.specs.declared.machine.ResourceState.{ResourceState}
use Rattle.jlr_machine.specs.declared.machine.ResourceState.TheVariants.{Opening}
use Rattle.jlr_machine.specs.WellFormed.{IsWellFormed, HasResource}
use Rattle.jlr_laws.proofs.Frames.{no_some}
use Rattle.jlr_laws.proofs.Keyed.{by_key, keyed_with, keyed_without, found_new, found_beside, found_gone, found_left, found_changed}
use Rattle.jlr_laws.proofs.Keyed.{found_unchanged}
use Rattle.jlr_laws.proofs.Changes.{resource, resource_same}
use Rattle.jlr_laws.proofs.Restated.{restated}
use Rattle.jlr_histories.specs.ResourceLives.{phase_of, phase, Deed, after_deed, done_to, GoesOn}
use Rattle.jlr_histories.specs.ResourceLives.Phase.{NotYet, In, Over}
use Rattle.jlr_histories.specs.ResourceLives.Deed.{BeginsOpen}
use Rattle.jlr_histories.proofs.ResourceStands.{one_resource, given, phase_in, phase_out, standing, not_yet, given_on}
use Rattle.jlr_histories.proofs.ResourceStands.IsStanding.{there, not_there}

abbrev pub rid_key : Resource → ℕ
rid_key r = r.rid

-- what is done, and what it leaves of the resources: the same; one more; one in another state; or one less
pub data IsMoving (m n : Machine) (what : Option (ℕ × Deed)) : Type 0 where
  still : n.resources ≡ m.resources → what ≡ None → IsMoving m n what
  opens : (rid : ℕ) → by_key rid_key m.resources rid ≡ None
      → n.resources ≡ keyed_with rid_key m.resources (resource rid m.next_action Opening) → what ≡ Some (m.next_action, BeginsOpen)
      → IsMoving m n what
  moves : (rid action : ℕ) (old new : ResourceState) (d : Deed) → HasResource m rid action old → n.resources ≡ restated m.resources rid new
      → what ≡ Some (action, d) → after_deed (In old) d ≡ Some (In new) → IsMoving m n what
  ends : (rid action : ℕ) (old : ResourceState) (d : Deed) → HasResource m rid action old
      → n.resources ≡ keyed_without rid_key m.resources rid
      → what ≡ Some (action, d) → after_deed (In old) d ≡ Some Over → IsMoving m n what

-- ---- Deeds

done_here : (action : ℕ) (d : Deed) (what : Option (ℕ × Deed)) → what ≡ Some (action, d) → done_to action what ≡ Some d
done_here action d what e = ap (done_to action) e ∙ cond-true (action == action) (Some d) None (eq-eqb action action refl)

done_elsewhere : (action other : ℕ) (d : Deed) (what : Option (ℕ × Deed)) → what ≡ Some (other, d) → (other ≡ action → ⊥)
    → done_to action what ≡ None
done_elsewhere action other d what e f = ap (done_to action) e ∙ cond-false (other == action) (Some d) None (ne_eqb other action f)

-- ---- From one machine to the next

module _ (m n : Machine) (w : IsWellFormed m) (v : IsWellFormed n) (later : m.next_action ≤ n.next_action) (action : ℕ) where
  abbrev Stays : Type 0
  Stays = (phase n action ≡ phase m action) ⊎ ((phase m action ≡ NotYet) × (phase n action ≡ Over))

  -- a resource that is the same in both
  stays : ((rid : ℕ) (s : ResourceState) → HasResource m rid action s → HasResource n rid action s)
      → ((rid : ℕ) (s : ResourceState) → HasResource n rid action s → HasResource m rid action s) → Stays
  stays forth back = elim (standing m action w) [
    | there rid s h ↦ inl (phase_in n v rid action s (forth rid s h) ∙ sym (phase_in m w rid action s h))
    | not_there none ↦
        let before = phase_out m w action none in
        let now = phase_out n v action (λ rid s h. none rid s (back rid s h)) in
        elim (given_on m n action later) [ inl e ↦ inl (now ∙ e ∙ sym before) | inr e ↦ inr (before ∙ e.0, now ∙ e.1) ]
  ]

  unmoved : (what : Option (ℕ × Deed)) → done_to action what ≡ None → Stays → GoesOn (phase m action) (done_to action what) (phase n action)
  unmoved what e h = subst (λ d. GoesOn (phase m action) d (phase n action)) (sym e) h

  moved : (what : Option (ℕ × Deed)) (d : Deed) → what ≡ Some (action, d) → after_deed (phase m action) d ≡ Some (phase n action)
      → GoesOn (phase m action) (done_to action what) (phase n action)
  moved what d e h = subst (λ x. GoesOn (phase m action) x (phase n action)) (sym (done_here action d what e)) h

  -- the same list
  still_goes : n.resources ≡ m.resources → Stays
  still_goes e = stays (λ rid s h. ap (λ l. by_key rid_key l rid) e ∙ h) (λ rid s h. ap (λ l. by_key rid_key l rid) (sym e) ∙ h)

  -- one more
  module _ (rid : ℕ) (free : by_key rid_key m.resources rid ≡ None)
      (e : n.resources ≡ keyed_with rid_key m.resources (resource rid m.next_action Opening)) where
    opened_here : HasResource n rid m.next_action Opening
    opened_here = ap (λ l. by_key rid_key l rid) e ∙ found_new rid_key m.resources (resource rid m.next_action Opening) free

    opened_beside : (q : ℕ) → (rid ≡ q → ⊥) → by_key rid_key n.resources q ≡ by_key rid_key m.resources q
    opened_beside q d = ap (λ l. by_key rid_key l q) e ∙ found_beside rid_key m.resources (resource rid m.next_action Opening) q d

    opens_goes : (what : Option (ℕ × Deed)) → what ≡ Some (m.next_action, BeginsOpen)
        → GoesOn (phase m action) (done_to action what) (phase n action)
    opens_goes what f = elim (cases_eq action m.next_action) [
      | inl a ↦
          let before : phase m action ≡ NotYet = not_yet m action w (omega (arith, a)) in
          let now : phase n action ≡ In Opening =
          phase_in n v rid action Opening (subst (λ x. HasResource n rid x Opening) (sym a) opened_here) in
          moved what BeginsOpen (f ∙ ap (λ x. Some (x, BeginsOpen)) (sym a))
          (ap (λ p. after_deed p BeginsOpen) before ∙ ap (λ p. Some p) (sym now))
      | inr d ↦
          unmoved what (done_elsewhere action m.next_action BeginsOpen what f (λ x. d (sym x)))
          (stays
          (λ q s h. opened_beside q (λ x. no_some (resource q action s) (sym free ∙ ap (by_key rid_key m.resources) x ∙ h)) ∙ h)
          (λ q s h. elim (cases_eq rid q) [
            | inl x ↦ absurd (d (resource_same n q action m.next_action s Opening h
                (subst (λ i. HasResource n i m.next_action Opening) x opened_here)).0)
            | inr x ↦ sym (opened_beside q x) ∙ h
          ]))
    ]

  -- one in another state
  module _ (rid one : ℕ) (old new : ResourceState) (h : HasResource m rid one old) (e : n.resources ≡ restated m.resources rid new) where
    moved_here : HasResource n rid one new
    moved_here = ap (λ l. by_key rid_key l rid) e ∙ found_changed rid_key (λ r. record r { state = new }) (λ r. refl) m.resources rid
        (resource rid one old) h

    moved_beside : (q : ℕ) → (q ≡ rid → ⊥) → by_key rid_key n.resources q ≡ by_key rid_key m.resources q
    moved_beside q d = ap (λ l. by_key rid_key l q) e
        ∙ found_unchanged rid_key (λ r. record r { state = new }) (λ r. refl) m.resources rid q d

    moves_goes : (what : Option (ℕ × Deed)) (d : Deed) → what ≡ Some (one, d) → after_deed (In old) d ≡ Some (In new)
        → GoesOn (phase m action) (done_to action what) (phase n action)
    moves_goes what d f g = elim (cases_eq one action) [
      | inl a ↦
          let before : phase m action ≡ In old = phase_in m w rid action old (subst (λ x. HasResource m rid x old) a h) in
          let now : phase n action ≡ In new = phase_in n v rid action new (subst (λ x. HasResource n rid x new) a moved_here) in
          moved what d (f ∙ ap (λ x. Some (x, d)) a) (ap (λ p. after_deed p d) before ∙ g ∙ ap (λ p. Some p) (sym now))
      | inr b ↦
          unmoved what (done_elsewhere action one d what f b)
          (stays
          (λ q s k. moved_beside q (λ x. b (resource_same m q one action old s (subst (λ i. HasResource m i one old) (sym x) h) k).0) ∙ k)
          (λ q s k. sym (moved_beside q (λ x. b (resource_same n q one action new s
          (subst (λ i. HasResource n i one new) (sym x) moved_here) k).0)) ∙ k))
    ]

  -- one less
  module _ (rid one : ℕ) (old : ResourceState) (h : HasResource m rid one old)
      (e : n.resources ≡ keyed_without rid_key m.resources rid) where
    gone_here : by_key rid_key n.resources rid ≡ None
    gone_here = ap (λ l. by_key rid_key l rid) e ∙ found_gone rid_key m.resources rid

    gone_beside : (q : ℕ) → (q ≡ rid → ⊥) → by_key rid_key n.resources q ≡ by_key rid_key m.resources q
    gone_beside q d = ap (λ l. by_key rid_key l q) e ∙ found_left rid_key m.resources rid q d

    -- what is there was there, at another Rid
    was_there : (q a : ℕ) (s : ResourceState) → HasResource n q a s → (q ≡ rid → ⊥) × HasResource m q a s
    was_there q a s k =
        let apart : q ≡ rid → ⊥ = λ x. no_some (resource q a s) (sym gone_here ∙ ap (by_key rid_key n.resources) (sym x) ∙ k) in
        (apart, sym (gone_beside q apart) ∙ k)

    ended : phase n one ≡ Over
    ended =
        phase_out n v one (λ q s k. let b = was_there q one s k in b.0 (one_resource m w q rid one s old b.1 h).0)
        ∙ ap (phase_of None) (lt-ltb one n.next_action (omega (arith, later, given m w rid one old h)))

    ends_goes : (what : Option (ℕ × Deed)) (d : Deed) → what ≡ Some (one, d) → after_deed (In old) d ≡ Some Over
        → GoesOn (phase m action) (done_to action what) (phase n action)
    ends_goes what d f g = elim (cases_eq one action) [
      | inl a ↦
          let before : phase m action ≡ In old = phase_in m w rid action old (subst (λ x. HasResource m rid x old) a h) in
          let now : phase n action ≡ Over = ap (phase n) (sym a) ∙ ended in
          moved what d (f ∙ ap (λ x. Some (x, d)) a) (ap (λ p. after_deed p d) before ∙ g ∙ ap (λ p. Some p) (sym now))
      | inr b ↦
          unmoved what (done_elsewhere action one d what f b)
          (stays
          (λ q s k. gone_beside q (λ x. b (resource_same m q one action old s (subst (λ i. HasResource m i one old) (sym x) h) k).0) ∙ k)
          (λ q s k. (was_there q action s k).1))
    ]

  pub goes_on : (what : Option (ℕ × Deed)) → IsMoving m n what → GoesOn (phase m action) (done_to action what) (phase n action)
  goes_on what (still e f) = unmoved what (ap (done_to action) f) (still_goes e)
  goes_on what (opens rid free e f) = opens_goes rid free e what f
  goes_on what (moves rid one old new d h e f g) = moves_goes rid one old new h e what d f g
  goes_on what (ends rid one old d h e f g) = ends_goes rid one old h e what d f g

  -- ---- The Rid

  -- a resource that is there before and after has one Rid
  pub same_rid : (what : Option (ℕ × Deed)) → IsMoving m n what → (r q : ℕ) (s t : ResourceState) → HasResource m r action s
      → HasResource n q action t → r ≡ q
  same_rid what (still e f) r q s t h k = (one_resource m w r q action s t h (ap (λ l. by_key rid_key l q) (sym e) ∙ k)).0
  same_rid what (opens rid free e f) r q s t h k = elim (cases_eq rid q) [
    | inl x ↦
        let number : action ≡ m.next_action = (resource_same n q action m.next_action t Opening k
        (subst (λ i. HasResource n i m.next_action Opening) x (opened_here rid free e))).0 in
        absurd (omega (arith, number, given m w r action s h))
    | inr x ↦ (one_resource m w r q action s t h (sym (opened_beside rid free e q x) ∙ k)).0
  ]
  same_rid what (moves rid one old new d was e f g) r q s t h k = elim (cases_eq q rid) [
    | inl x ↦
        let number : one ≡ action =
        (resource_same n q one action new t (subst (λ i. HasResource n i one new) (sym x) (moved_here rid one old new was e)) k).0 in
        (one_resource m w r rid action s old h (subst (λ i. HasResource m rid i old) number was)).0 ∙ sym x
    | inr x ↦ (one_resource m w r q action s t h (sym (moved_beside rid one old new was e q x) ∙ k)).0
  ]
  same_rid what (ends rid one old d was e f g) r q s t h k =
      (one_resource m w r q action s t h (was_there rid one old was e q action t k).1).0
