-- Where a resource stands by its action, from where it stands by its Rid.
use Rattle.std.proofs.Common.{◌≡◌, ℕ, ◌<◌, ◌≤◌, ◌==◌, Bool, true, false, cond, List, [], ◌∷◌, map, refl, sym, ◌∙◌, ap, subst, ◌⊎◌, inl, inr}
use Rattle.std.proofs.Common.{arith, Option, Some, None, find, nat_lt}
use Rattle.std.proofs.lemmas.Bool.{both_ways, and_parts, cond-true, cond-false, eqb-true, eq-eqb, ne_eqb, cases_Bool, lt-ltb, ltb-true}
use Rattle.jlr_types.specs.declared.Work.TheVariants.{Resource as WorkOn}
use Rattle.jlr_machine.specs.declared.object.Cleanable.{Cleanable as CleanableOf}
use Rattle.jlr_machine.specs.declared.machine.Machine.{Machine}
use Rattle.jlr_machine.specs.declared.machine.Job.{Job as JobOf}
use Rattle.jlr_machine.specs.declared.machine.Resource.{Resource}
use Rattle.jlr_machine.specs.declared.machine.ResourceState.{ResourceState}
use Rattle.jlr_machine.specs.declared.machine.ResourceState.TheVariants.{Opening, Idle, Out, Closing}
use Rattle.jlr_machine.specs.Objects.{is_above, is_rising}
use Rattle.jlr_machine.specs.Lookups.{job_of}
use Rattle.jlr_machine.specs.WellFormed.{IsWellFormed, HasResource, HasWorker, IsCleanableAt, IsJob, IsAction}
use Rattle.jlr_laws.proofs.Frames.{no_some, some_same}
use Rattle.jlr_laws.proofs.Keyed.{by_key, all_found}
use Rattle.jlr_laws.proofs.Allowed.{first_fails}
use Rattle.jlr_laws.proofs.Changes.{cleanable_same, resource, resource_same, HasCleanable}
use Rattle.jlr_histories.specs.ResourceLives.{phase_of, phase}
use Rattle.jlr_histories.specs.ResourceLives.Phase.{NotYet, In, Over}

-- ---- Lists with rising keys, and what else is found in them

module _ {A : Type 0} (key : A → ℕ) (p : A → Bool) where
  above_found : (xs : List A) (s : ℕ) (x : A) → is_above s (map key xs) ≡ true → find p xs ≡ Some x → s < key x
  above_found [] s x h e = no_some x e
  above_found (y ∷ xs) s x h e =
      let a = and_parts (nat_lt s (key y)) (is_above s (map key xs)) h in
      elim (p y) as (λ b. cond b (Some y) (find p xs) ≡ Some x → s < key x) [
        | true ↦ λ f. subst (λ z. s < key z) (some_same y x f) (ltb-true s (key y) a.0)
        | false ↦ λ f. above_found xs s x a.1 f
      ] e

  -- what is found in a rising list is found by its key
  pub found_by_key : (xs : List A) (x : A) → is_rising (map key xs) ≡ true → find p xs ≡ Some x → (by_key key xs (key x) ≡ Some x)
      × (p x ≡ true)
  found_by_key [] x h e = no_some x e
  found_by_key (y ∷ xs) x h e =
      let a = and_parts (is_above (key y) (map key xs)) (is_rising (map key xs)) h in
      elim (p y) as (λ b. p y ≡ b → cond b (Some y) (find p xs) ≡ Some x → (by_key key (y ∷ xs) (key x) ≡ Some x) × (p x ≡ true)) [
        | true ↦ λ t f. subst (λ z. (by_key key (y ∷ xs) (key z) ≡ Some z) × (p z ≡ true)) (some_same y x f)
            (cond-true (key y == key y) (Some y) (by_key key xs (key y)) (eq-eqb (key y) (key y) refl), t)
        | false ↦ λ t f.
            let above = above_found xs (key y) x a.0 f in
            let rest = found_by_key xs x a.1 f in (
              cond-false (key y == key x) (Some y) (by_key key xs (key x)) (ne_eqb (key y) (key x) (λ g. absurd (omega (arith, above, g))))
                  ∙ rest.0,
              rest.1,
            )
      ] refl e

  -- where nothing is found, nothing found by a key passes
  pub none_by_key : (xs : List A) (a : ℕ) (x : A) → find p xs ≡ None → by_key key xs a ≡ Some x → p x ≡ false
  none_by_key [] a x h e = no_some x e
  none_by_key (y ∷ xs) a x h e =
      let f = first_fails p y xs h in
      elim (key y == a) as (λ b. cond b (Some y) (by_key key xs a) ≡ Some x → p x ≡ false) [
        | true ↦ λ g. subst (λ z. p z ≡ false) (some_same y x g) f.0
        | false ↦ λ g. none_by_key xs a x f.1 g
      ] e

-- ---- One resource an action

-- a cleanable or a job that works for a resource
data IsWorker (m : Machine) (rid action : ℕ) : Type 0 where
  cleanable : HasCleanable m rid action → IsWorker m rid action
  job : (j : JobOf) → IsJob m j → j.action ≡ action → j.work ≡ WorkOn rid → IsWorker m rid action

worker : (m : Machine) (rid action : ℕ) (state : ResourceState) → HasWorker m rid action state → IsWorker m rid action
worker m rid action Opening h = cleanable h
worker m rid action Idle h = cleanable h
worker m rid action Out h = cleanable h
worker m rid action Closing h = job h.0 h.1 h.2 h.3

module _ (m : Machine) (w : IsWellFormed m) where
  -- no job has the action of an unspent cleanable
  not_both : {P : Type 0} (rid action : ℕ) → HasCleanable m rid action → (j : JobOf) → IsJob m j → j.action ≡ action → P
  not_both rid action h j r e = no_some j (sym (w.actions.apart h.0 h.1 h.2) ∙ ap (job_of m) (h.3 ∙ sym e) ∙ r)

  one_work : (r q action : ℕ) → IsWorker m r action → IsWorker m q action → r ≡ q
  one_work r q action (cleanable h) (cleanable k) =
      let place : h.0 ≡ k.0 = w.actions.cleanables h.0 k.0 h.1 k.1 h.2 k.2 (h.3 ∙ sym k.3) in
      let same : h.1 ≡ k.1 = cleanable_same m k.0 h.1 k.1 (subst (λ i. IsCleanableAt m i h.1) place h.2.there) k.2.there in
      let works : WorkOn r ≡ WorkOn q = sym h.4 ∙ ap (λ (c : CleanableOf). c.work) same ∙ k.4 in
      cc works
  one_work r q action (cleanable h) (job j i a b) = not_both r action h j i a
  one_work r q action (job j i a b) (cleanable h) = not_both q action h j i a
  one_work r q action (job j i a b) (job l o e f) =
      let same : j ≡ l = some_same j l (sym i ∙ ap (job_of m) (a ∙ sym e) ∙ o) in
      let works : WorkOn r ≡ WorkOn q = sym b ∙ ap (λ (z : JobOf). z.work) same ∙ f in
      cc works

  pub one_resource : (r q action : ℕ) (s t : ResourceState) → HasResource m r action s → HasResource m q action t → (r ≡ q) × (s ≡ t)
  one_resource r q action s t h k =
      let same : r ≡ q = one_work r q action (worker m r action s (w.resources.worked r action s h))
      (worker m q action t (w.resources.worked q action t k)) in
      (same, (resource_same m q action action s t (subst (λ i. HasResource m i action s) same h) k).1)

  -- ---- Phases

  pub given : (rid action : ℕ) (s : ResourceState) → HasResource m rid action s → action < m.next_action
  given rid action s h =
      (all_found {A = Resource} (λ r. r.rid) (λ r. IsAction m r.action) m.resources rid (resource rid action s) w.actions.of_resources h).1

  abbrev of_action : ℕ → Option Resource
  of_action action = find (λ (r : Resource). r.action == action) m.resources

  -- what is found by its action is there
  found_there : (action : ℕ) (r : Resource) → of_action action ≡ Some r → HasResource m r.rid action r.state
  found_there action r e =
      let f = found_by_key {A = Resource} (λ r. r.rid) (λ r. r.action == action) m.resources r w.resources.rising e in
      f.0 ∙ ap (λ a. Some (resource r.rid a r.state)) (eqb-true r.action action f.1)

  -- where a resource stands, if it is there
  pub phase_in : (rid action : ℕ) (s : ResourceState) → HasResource m rid action s → phase m action ≡ In s
  phase_in rid action s h =
      elim (of_action action) as (λ o. of_action action ≡ o → phase_of o (nat_lt action m.next_action) ≡ In s) [
        | None ↦ λ e. absurd (both_ways (action == action)
            (none_by_key {A = Resource} (λ r. r.rid) (λ r. r.action == action) m.resources rid (resource rid action s) e h)
            (eq-eqb action action refl))
        | Some r ↦ λ e. ap In (one_resource r.rid rid action r.state s (found_there action r e) h).1
      ] refl

  -- and if it is not
  pub phase_out : (action : ℕ) → ((rid : ℕ) (s : ResourceState) → HasResource m rid action s → ⊥)
      → phase m action ≡ phase_of None (nat_lt action m.next_action)
  phase_out action none =
      elim (of_action action) as (λ o. of_action action ≡ o
      → phase_of o (nat_lt action m.next_action) ≡ phase_of None (nat_lt action m.next_action)) [
        | None ↦ λ e. refl
        | Some r ↦ λ e. absurd (none r.rid r.state (found_there action r e))
      ] refl

-- a resource with this action, or none
pub data IsStanding (m : Machine) (action : ℕ) : Type 0 where
  there : (rid : ℕ) (s : ResourceState) → HasResource m rid action s → IsStanding m action
  not_there : ((rid : ℕ) (s : ResourceState) → HasResource m rid action s → ⊥) → IsStanding m action

pub standing : (m : Machine) (action : ℕ) → IsWellFormed m → IsStanding m action
standing m action w =
    elim (of_action m w action) as (λ o. of_action m w action ≡ o → IsStanding m action) [
      | None ↦ λ e. not_there (λ rid s h. absurd (both_ways (action == action)
          (none_by_key {A = Resource} (λ r. r.rid) (λ r. r.action == action) m.resources rid (resource rid action s) e h)
          (eq-eqb action action refl)))
      | Some r ↦ λ e. there r.rid r.state (found_there m w action r e)
    ] refl

-- a number that is not yet given is no resource's
pub not_yet : (m : Machine) (action : ℕ) → IsWellFormed m → m.next_action ≤ action → phase m action ≡ NotYet
not_yet m action w h =
    let number : nat_lt action m.next_action ≡ false =
    elim (cases_Bool (nat_lt action m.next_action)) [
      | inl e ↦ absurd (omega (arith, h, ltb-true action m.next_action e))
      | inr e ↦
          e
    ] in
    phase_out m w action (λ rid s r. absurd (omega (arith, h, given m w rid action s r))) ∙ ap (phase_of None) number

-- one that is given stays so
pub given_on : (m n : Machine) (action : ℕ) → m.next_action ≤ n.next_action
    → (phase_of None (nat_lt action n.next_action) ≡ phase_of None (nat_lt action m.next_action))
    ⊎ ((phase_of None (nat_lt action m.next_action) ≡ NotYet) × (phase_of None (nat_lt action n.next_action) ≡ Over))
given_on m n action h =
    elim (cases_Bool (nat_lt action m.next_action)) [
      | inl e ↦ inl (ap (phase_of None) (lt-ltb action n.next_action (omega (arith, ltb-true action m.next_action e, h)) ∙ sym e))
      | inr e ↦ elim (cases_Bool (nat_lt action n.next_action)) [
        | inl f ↦ inr (ap (phase_of None) e, ap (phase_of None) f)
        | inr f ↦ inl (ap (phase_of None) (f ∙ sym e))
      ]
    ]
