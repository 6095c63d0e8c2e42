-- What a collection leaves, said at once, is what its steps leave.
use Rattle.std.proofs.Common.{◌≡◌, ℕ, zero, suc, ◌+◌, ◌<◌, Bool, true, false, cond, not, List, [], ◌∷◌, ◌++◌, length, refl, sym, ◌∙◌, ap}
use Rattle.std.proofs.Common.{subst, ◌⊎◌, inl, inr, arith, IsTrue, Option, Some, None, option_map, option_and_then, unwrap_or, filter}
use Rattle.std.proofs.Common.{nat_lt, option_to_list, ◌≤◌}
use Rattle.std.specs.List.{flat_map}
use Rattle.std.proofs.lemmas.Bool.{both_ways, cases_lt, ltb-true, lt-ltb, cases_Bool, not-true, not_from_false, cond-true, cond-false}
use Rattle.jlr_types.specs.declared.RefKind.{RefKind}
use Rattle.jlr_types.specs.declared.RefKind.TheVariants.{Soft, Weak, Phantom}
use Rattle.jlr_machine.specs.declared.object.Object.{Object}
use Rattle.jlr_machine.specs.declared.object.Object.TheVariants.{Plain, Reference, Queue, Cleaner, Cleanable, Guard}
use Rattle.jlr_machine.specs.declared.object.RefState.TheVariants.{Pending}
use Rattle.jlr_machine.specs.declared.object.CleanState.TheVariants.{Pending as PendingClean}
use Rattle.jlr_machine.specs.Objects.{Heap, at, ◌∋◌, ◌∈◌, any_referent}
use Rattle.jlr_machine.specs.Edges.{Chain, edges, edges_from, is_kind, referent}
use Rattle.jlr_machine.specs.Reachable.{IsPath, IsReached, HasStrength, chain_by, chain_below}
use Rattle.jlr_machine.specs.Collection.{Clears, without_referent, IsCollection, referent_if_kept, made_pending, left_of, places_left}
use Rattle.jlr_machine.specs.ReachSet.{reach_set}
use Rattle.jlr_machine.specs.Edges.Chain.{UpToSoft, UpToWeak, UpToPhantom, Strong}
use Rattle.jlr_laws.proofs.Sets.{nothing, filter_in, in_filter}
use Rattle.jlr_laws.proofs.Checks.{at_beyond}
use Rattle.jlr_laws.proofs.Paths.{AreEdgesWithin, reached_sound, reached_complete, joined}
use Rattle.jlr_laws.proofs.Clearing.{takes, HasStrong, HasReferent, HasEdge, edge_gives, edge_from, not_none, same_some, some_kind}
use Rattle.jlr_laws.proofs.Clearing.{referent_is, without_twice, cleared_or_kept, strong_back, strong_forth, referent_back, referent_kept}
use Rattle.jlr_laws.proofs.Clearing.{referent_forth}

-- ---- Paths, edge by edge

pub one_edge_more : (chain : Chain) (heap : Heap) (B : List ℕ) (x y : ℕ) → IsReached chain heap B x → HasEdge chain heap x y
    → IsReached chain heap B y
one_edge_more chain heap B x y r e =
    (r.0, r.1, (r.2.0 ++ y ∷ [], joined chain heap r.0 x y r.2.0 (y ∷ []) r.2.1 (edge_from chain heap x y e, refl)))

-- what holds of the base and goes along each edge holds of all that is reached
module _ (chain : Chain) (heap : Heap) (B : List ℕ) (P : ℕ → Type 0) (step : (x y : ℕ) → P x → HasEdge chain heap x y → P y) where
  carried_along : (x : ℕ) (path : List ℕ) (y : ℕ) → P x → IsPath chain heap x path y → P y
  carried_along x [] y p e = subst P e p
  carried_along x (z ∷ path) y p h = carried_along z path y (step x z p (edge_gives chain heap x z h.0)) h.1

  pub carried : ((s : ℕ) → s ∈ B → P s) → (s : ℕ) → IsReached chain heap B s → P s
  carried base s r = carried_along r.0 r.2.0 s (base r.0 r.1) r.2.1

pub at_base : (chain : Chain) (heap : Heap) (B : List ℕ) (s : ℕ) → s ∈ B → IsReached chain heap B s
at_base chain heap B s m = (s, m, ([], refl))

-- a chain that takes more reaches as much
wider : (chain more : Chain) (heap : Heap) (x y : ℕ) → ((k : RefKind) → takes chain k ≡ true → takes more k ≡ true) → HasEdge chain heap x y
    → HasEdge more heap x y
wider chain more heap x y h (inl s) = inl s
wider chain more heap x y h (inr r) = inr (r.0, h r.0 r.1, r.2)

pub reached_wider : (chain more : Chain) (heap : Heap) (B : List ℕ) (s : ℕ) → ((k : RefKind) → takes chain k ≡ true → takes more k ≡ true)
    → IsReached chain heap B s → IsReached more heap B s
reached_wider chain more heap B s h =
    carried chain heap B (IsReached more heap B) (λ x y r e. one_edge_more more heap B x y r (wider chain more heap x y h e))
    (at_base more heap B) s

pub softly_weakly : (k : RefKind) → takes UpToSoft k ≡ true → takes UpToWeak k ≡ true
softly_weakly Soft e = refl
softly_weakly Weak e = refl
softly_weakly Phantom e = e

pub weakly_anyhow : (k : RefKind) → takes UpToWeak k ≡ true → takes UpToPhantom k ≡ true
weakly_anyhow k e = refl

-- ---- Reachability is decided

module _ (chain : Chain) (heap : Heap) (B : List ℕ) (within : AreEdgesWithin UpToPhantom heap) where
  pub narrow : AreEdgesWithin chain heap
  narrow x s m = within x s (edge_from UpToPhantom heap x s (wider chain UpToPhantom heap x s (λ k e. refl) (edge_gives chain heap x s m)))

  -- the base within the heap; what lies beyond it has no edges
  abbrev inner : List ℕ
  inner = filter (λ s. nat_lt s (length heap)) B

  inner_within : (s : ℕ) → s ∈ inner → s < length heap
  inner_within s m = ltb-true s (length heap) (in_filter (λ s. nat_lt s (length heap)) B s m).0

  no_path : (x : ℕ) (path : List ℕ) (y : ℕ) → length heap ≤ x → IsPath chain heap x path y → x ≡ y
  no_path x [] y b h = h
  no_path x (z ∷ path) y b h = nothing z (subst (λ o. z ∈ flat_map (edges chain) (option_to_list o)) (at_beyond heap x b) h.0)

  pub decided : (s : ℕ) → IsReached chain heap B s ⊎ ¬ (IsReached chain heap B s)
  decided s = elim (cases_Bool (reach_set chain heap inner ∋ s)) [
    | inl m ↦ let r = reached_sound chain heap inner s m in inl (r.0, (in_filter (λ s. nat_lt s (length heap)) B r.0 r.1).1, r.2)
    | inr n ↦ elim (cases_Bool (B ∋ s)) [
      | inl m ↦ inl (at_base chain heap B s m)
      | inr d ↦ inr (λ r. elim (cases_lt r.0 (length heap)) [
        | inl l ↦ both_ways (reach_set chain heap inner ∋ s) n
            (reached_complete chain heap inner narrow inner_within s
            (r.0, filter_in (λ s. nat_lt s (length heap)) B r.0 (lt-ltb r.0 (length heap) l) r.1, r.2))
        | inr b ↦ both_ways (B ∋ s) d (subst (λ x. x ∈ B) (no_path r.0 r.2.0 s b r.2.1) r.1)
      ])
    ]
  ]

pub decided_reachable : (kind : RefKind) (heap : Heap) (B : List ℕ) (within : AreEdgesWithin UpToPhantom heap) (s : ℕ)
    → HasStrength kind heap B s ⊎ ¬ (HasStrength kind heap B s)
decided_reachable kind heap B within s = elim (decided (chain_below kind) heap B within s) [
  | inl r ↦ inr (λ h. h.0 r)
  | inr n ↦ elim (decided (chain_by kind) heap B within s) [ inl r ↦ inl (n, r) | inr m ↦ inr (λ h. m h.1) ]
]

-- ---- Objects

pub without_none : (o : Object) → any_referent o ≡ None → without_referent o ≡ o
without_none (Plain fields) e = refl
without_none (Reference r) e = ap (λ x. Reference (record r { referent = x })) (sym e)
without_none (Queue members) e = refl
without_none Cleaner e = refl
without_none (Cleanable c) e = ap (λ x. Cleanable (record c { referent = x })) (sym e)
without_none (Guard g) e = refl

-- the object with this referent
left_with : (kept : List ℕ) (b : Bool) (o : Object) → referent_if_kept kept (any_referent o) ≡ any_referent o
    → left_of kept b o ≡ made_pending b o
left_with kept b (Plain fields) e = refl
left_with kept b (Reference r) e = ap (λ x. Reference (record r { referent = x; state = cond b Pending r.state })) e
left_with kept b (Queue members) e = refl
left_with kept b Cleaner e = refl
left_with kept b (Cleanable c) e = ap (λ x. Cleanable (record c { referent = x; state = cond b PendingClean c.state })) e
left_with kept b (Guard g) e = refl

left_without : (kept : List ℕ) (b : Bool) (o : Object) → referent_if_kept kept (any_referent o) ≡ None
    → left_of kept b o ≡ made_pending b (without_referent o)
left_without kept b (Plain fields) e = refl
left_without kept b (Reference r) e = ap (λ x. Reference (record r { referent = x; state = cond b Pending r.state })) e
left_without kept b (Queue members) e = refl
left_without kept b Cleaner e = refl
left_without kept b (Cleanable c) e = ap (λ x. Cleanable (record c { referent = x; state = cond b PendingClean c.state })) e
left_without kept b (Guard g) e = refl

-- ---- One clearing of an object that may have lost its referent already

abbrev pub IsOrWithout : Option Object → Object → Type 0
IsOrWithout there o = (there ≡ Some o) ⊎ (there ≡ Some (without_referent o))

pub some_object : (p q : Object) → Some p ≡ Some q → p ≡ q
some_object p q e = ap (λ o. unwrap_or o p) e

pub once_more : (kind : RefKind) (C : ℕ → Type 0) (old new : Heap) (c : Clears kind C old new) (dec : (x : ℕ) → C x ⊎ ¬ (C x)) (s : ℕ)
    (o : Object) → IsOrWithout (at old s) o → IsOrWithout (at new s) o
once_more kind C old new c dec s o (inl e) = elim (cleared_or_kept kind C old new c dec s) [
  | inl k ↦ inr (k.5 ∙ ap (λ p. Some (without_referent p)) (some_object k.1 o (sym k.2 ∙ e)))
  | inr k ↦ inl (k.1 ∙ e)
]
once_more kind C old new c dec s o (inr e) = elim (cleared_or_kept kind C old new c dec s) [
  | inl k ↦ inr (k.5 ∙ ap (λ p. Some (without_referent p)) (some_object k.1 (without_referent o) (sym k.2 ∙ e))
      ∙ ap (λ p. Some p) (without_twice o))
  | inr k ↦ inr (k.1 ∙ e)
]

-- an object whose referent is not in the set stays
pub stays : (kind : RefKind) (C : ℕ → Type 0) (old new : Heap) (c : Clears kind C old new) (dec : (x : ℕ) → C x ⊎ ¬ (C x)) (s x : ℕ)
    (o : Object) → at old s ≡ Some o → any_referent o ≡ Some x → ¬ (C x) → at new s ≡ Some o
stays kind C old new c dec s x o e f n = elim (cleared_or_kept kind C old new c dec s) [
  | inl k ↦
      let same : k.1 ≡ o = some_object k.1 o (sym k.2 ∙ e) in
      absurd (n (subst C (same_some k.0 x (sym (referent_is kind k.1 k.0 k.3) ∙ ap any_referent same ∙ f)) k.4))
  | inr k ↦ k.1 ∙ e
]

empty_stays : (kind : RefKind) (C : ℕ → Type 0) (old new : Heap) (c : Clears kind C old new) (s : ℕ) → at old s ≡ None → at new s ≡ None
empty_stays kind C old new c s e = c.others s (λ p. not_none p.0 (subst (λ o. option_and_then (referent kind) o ≡ Some p.0) e p.1)) ∙ e

-- what the places have at a slot, counted from n
pub at-places_left : (kept pending : List ℕ) (n : ℕ) (heap : Heap) (s t : ℕ) → t ≡ n + s
    → at (places_left kept pending n heap) s ≡ cond (kept ∋ t) (option_map (left_of kept (pending ∋ t)) (at heap s)) None
at-places_left kept pending n [] s t e =
    elim (kept ∋ t) as (λ b. ◌≡◌ {A = Option Object} None (cond b None None)) [ true ↦ refl | false ↦ refl ]
at-places_left kept pending n (o ∷ places) zero t e =
    let same : n ≡ t = omega (arith, e) in
    ap (λ k. cond (kept ∋ k) (option_map (left_of kept (pending ∋ k)) o) None) same
at-places_left kept pending n (o ∷ places) (suc s) t e = at-places_left kept pending (suc n) places s t (omega (arith, e))

pub kinds_apart : Soft ≡ Weak → ⊥
kinds_apart e = both_ways false refl (sym (ap (is_kind Soft) e))

pub soft_phantom : Soft ≡ Phantom → ⊥
soft_phantom e = both_ways false refl (sym (ap (is_kind Soft) e))

-- after a clearing edges stay within the heap
pub within_after : (kind : RefKind) (C : ℕ → Type 0) (old new : Heap) (k : Clears kind C old new) (dec : (x : ℕ) → C x ⊎ ¬ (C x))
    → AreEdgesWithin UpToPhantom old → AreEdgesWithin UpToPhantom new
within_after kind C old new k dec w x s m =
    let old_edge : s ∈ edges_from UpToPhantom old x =
    edge_from UpToPhantom old x s (elim (edge_gives UpToPhantom new x s m) [
      | inl e ↦ inl (strong_back kind C old new k dec x s e)
      | inr e ↦ inr (e.0, e.1, referent_back kind C old new k dec e.0 x s e.2)
    ]) in
    subst (λ n. s < n) (sym k.cells) (w x s old_edge)

-- softly reachable, and not kept
abbrev pub IsDropped : Heap → List ℕ → List ℕ → ℕ → Type 0
IsDropped heap B kept s = HasStrength Soft heap B s × IsTrue (not (kept ∋ s))

pub drop_decided : (heap : Heap) (B kept : List ℕ) (within : AreEdgesWithin UpToPhantom heap) (s : ℕ) → IsDropped heap B kept s
    ⊎ ¬ (IsDropped heap B kept s)
drop_decided heap B kept within s = elim (decided_reachable Soft heap B within s) [
  | inl r ↦ elim (cases_Bool (kept ∋ s)) [
    | inl m ↦ inr (λ d. both_ways (kept ∋ s) (not-true (kept ∋ s) d.1) m)
    | inr n ↦
        inl (r, not_from_false (kept ∋ s) n)
  ]
  | inr n ↦ inr (λ d. n d.0)
]

-- ---- A collection

module _ (heap : Heap) (B kept pending : List ℕ) (c : IsCollection heap B kept pending) (within : AreEdgesWithin UpToPhantom heap) where
  abbrev Dropped : ℕ → Type 0
  Dropped s = IsDropped heap B kept s

  dropped : (s : ℕ) → Dropped s ⊎ ¬ (Dropped s)
  dropped = drop_decided heap B kept within

  within_soft : AreEdgesWithin UpToPhantom c.soft_left
  within_soft = within_after Soft Dropped heap c.soft_left c.soft.1 dropped within

  weak_set : (s : ℕ) → HasStrength Weak c.soft_left B s ⊎ ¬ (HasStrength Weak c.soft_left B s)
  weak_set = decided_reachable Weak c.soft_left B within_soft

  within_weak : AreEdgesWithin UpToPhantom c.weak_left
  within_weak = within_after Weak (HasStrength Weak c.soft_left B) c.soft_left c.weak_left c.weak weak_set within_soft

  phantom_set : (s : ℕ) → HasStrength Phantom c.weak_left B s ⊎ ¬ (HasStrength Phantom c.weak_left B s)
  phantom_set = decided_reachable Phantom c.weak_left B within_weak

  weak_back : (k : RefKind) (x y : ℕ) → HasReferent k c.weak_left x y → HasReferent k c.soft_left x y
  weak_back k x y h = referent_back Weak (HasStrength Weak c.soft_left B) c.soft_left c.weak_left c.weak weak_set k x y h

  phantom_back : (k : RefKind) (x y : ℕ) → HasReferent k c.phantom_left x y → HasReferent k c.weak_left x y
  phantom_back k x y h = referent_back Phantom (HasStrength Phantom c.weak_left B) c.weak_left c.phantom_left c.phantom phantom_set k x y h

  strong_from_weak : (x y : ℕ) → HasStrong c.weak_left x y → HasStrong c.soft_left x y
  strong_from_weak x y h = strong_back Weak (HasStrength Weak c.soft_left B) c.soft_left c.weak_left c.weak weak_set x y h

  strong_from_phantom : (x y : ℕ) → HasStrong c.phantom_left x y → HasStrong c.weak_left x y
  strong_from_phantom x y h = strong_back Phantom (HasStrength Phantom c.weak_left B) c.weak_left c.phantom_left c.phantom phantom_set x y h

  abbrev IsLive : ℕ → Type 0
  IsLive s = IsReached UpToSoft c.soft_left B s

  weak_edge : (x y : ℕ) → IsLive x → HasReferent Weak c.weak_left x y → IsLive y
  weak_edge x y r h = elim (decided UpToSoft c.soft_left B within_soft y) [
    | inl live ↦ live
    | inr dead ↦ absurd (referent_kept Weak (HasStrength Weak c.soft_left B) c.soft_left c.weak_left c.weak weak_set x y h (
      dead,
      one_edge_more UpToWeak c.soft_left B x y (reached_wider UpToSoft UpToWeak c.soft_left B x softly_weakly r)
          (inr (Weak, refl, weak_back Weak x y h)),
    ))
  ]

  weakly_step : (x y : ℕ) → IsLive x → HasEdge UpToWeak c.weak_left x y → IsLive y
  weakly_step x y r (inl e) = one_edge_more UpToSoft c.soft_left B x y r (inl (strong_from_weak x y e))
  weakly_step x y r (inr (Soft, t, e)) = one_edge_more UpToSoft c.soft_left B x y r (inr (Soft, refl, weak_back Soft x y e))
  weakly_step x y r (inr (Weak, t, e)) = weak_edge x y r e
  weakly_step x y r (inr (Phantom, t, e)) = absurd (both_ways false refl t)

  weakly_live : (s : ℕ) → IsReached UpToWeak c.weak_left B s → IsLive s
  weakly_live s r = carried UpToWeak c.weak_left B IsLive weakly_step (at_base UpToSoft c.soft_left B) s r

  -- and the other way: strong and soft edges stay
  live_edge : (chain : Chain) (x y : ℕ) → takes chain Soft ≡ true → HasEdge UpToSoft c.soft_left x y → HasEdge chain c.weak_left x y
  live_edge chain x y t (inl e) = inl (strong_forth Weak (HasStrength Weak c.soft_left B) c.soft_left c.weak_left c.weak weak_set x y e)
  live_edge chain x y t (inr (Soft, u, e)) = inr (
    Soft,
    t,
    referent_forth Weak (HasStrength Weak c.soft_left B) c.soft_left c.weak_left c.weak weak_set Soft x y e (λ q. absurd (kinds_apart q)),
  )
  live_edge chain x y t (inr (Weak, u, e)) = absurd (both_ways false refl u)
  live_edge chain x y t (inr (Phantom, u, e)) = absurd (both_ways false refl u)

  live_weakly : (s : ℕ) → IsLive s → IsReached UpToWeak c.weak_left B s
  live_weakly s r =
      carried UpToSoft c.soft_left B (IsReached UpToWeak c.weak_left B)
      (λ x y p e. one_edge_more UpToWeak c.weak_left B x y p (live_edge UpToWeak x y refl e)) (at_base UpToWeak c.weak_left B) s r

  last_step : (x y : ℕ) → IsLive x → HasEdge UpToPhantom c.phantom_left x y → IsLive y
  last_step x y r (inl e) = one_edge_more UpToSoft c.soft_left B x y r (inl (strong_from_weak x y (strong_from_phantom x y e)))
  last_step x y r (inr (Soft, t, e)) =
      one_edge_more UpToSoft c.soft_left B x y r (inr (Soft, refl, weak_back Soft x y (phantom_back Soft x y e)))
  last_step x y r (inr (Weak, t, e)) = weak_edge x y r (phantom_back Weak x y e)
  last_step x y r (inr (Phantom, t, e)) = elim (decided UpToWeak c.weak_left B within_weak y) [
    | inl live ↦ weakly_live y live
    | inr dead ↦ absurd (referent_kept Phantom (HasStrength Phantom c.weak_left B) c.weak_left c.phantom_left c.phantom phantom_set x y e (
      dead,
      one_edge_more UpToPhantom c.weak_left B x y
          (reached_wider UpToWeak UpToPhantom c.weak_left B x weakly_anyhow (live_weakly x r))
          (inr (Phantom, refl, phantom_back Phantom x y e)),
    ))
  ]

  -- what is kept is what strong and soft edges reach once the soft references are cleared
  pub kept_is_live : (s : ℕ) → s ∈ kept → IsLive s
  kept_is_live s m = carried UpToPhantom c.phantom_left B IsLive last_step (at_base UpToSoft c.soft_left B) s ((c.exact s).0 m)

  -- ---- Objects that are kept

  pub keeps_referent : (s x : ℕ) (o : Object) → at heap s ≡ Some o → any_referent o ≡ Some x → x ∈ kept → at c.phantom_left s ≡ Some o
  keeps_referent s x o e f m =
      let live = kept_is_live x m in
      let one = stays Soft Dropped heap c.soft_left c.soft.1 dropped s x o e f (λ d. both_ways (kept ∋ x) (not-true (kept ∋ x) d.1) m) in
      let two = stays Weak (HasStrength Weak c.soft_left B) c.soft_left c.weak_left c.weak weak_set s x o one f (λ d. d.0 live) in
      stays Phantom (HasStrength Phantom c.weak_left B) c.weak_left c.phantom_left c.phantom phantom_set s x o two f
      (λ d. d.0 (live_weakly x live))

  pub either : (s : ℕ) (o : Object) → at heap s ≡ Some o → IsOrWithout (at c.phantom_left s) o
  either s o e =
      once_more Phantom (HasStrength Phantom c.weak_left B) c.weak_left c.phantom_left c.phantom phantom_set s o
      (once_more Weak (HasStrength Weak c.soft_left B) c.soft_left c.weak_left c.weak weak_set s o
      (once_more Soft Dropped heap c.soft_left c.soft.1 dropped s o (inl e)))

  pub loses_referent : (s x : ℕ) (o : Object) → s ∈ kept → at heap s ≡ Some o → any_referent o ≡ Some x → (kept ∋ x) ≡ false
      → at c.phantom_left s ≡ Some (without_referent o)
  loses_referent s x o m e f n = elim (either s o e) [
    | inl same ↦
        let k = some_kind o x f in
        absurd (both_ways (kept ∋ x) n ((c.exact x).1 (one_edge_more UpToPhantom c.phantom_left B s x ((c.exact s).0 m)
        (inr (k.0, refl, (o, same, k.1))))))
    | inr without ↦ without
  ]

  pub no_referent : (s : ℕ) (o : Object) → at heap s ≡ Some o → any_referent o ≡ None → at c.phantom_left s ≡ Some o
  no_referent s o e f = elim (either s o e) [
    | inl same ↦ same
    | inr without ↦ without ∙ ap (λ p. Some p) (without_none o f)
  ]

  kept_object : (s : ℕ) (o : Object) (b : Bool) → s ∈ kept → at heap s ≡ Some o
      → Some (left_of kept b o) ≡ option_map (made_pending b) (at c.phantom_left s)
  kept_object s o b m e =
      elim (any_referent o) as (λ r. any_referent o ≡ r → Some (left_of kept b o) ≡ option_map (made_pending b) (at c.phantom_left s)) [
        | None ↦ λ f. ap (λ p. Some p) (left_with kept b o (ap (referent_if_kept kept) f ∙ sym f))
            ∙ ap (option_map (made_pending b)) (sym (no_referent s o e f))
        | Some x ↦ λ f. elim (cases_Bool (kept ∋ x)) [
          | inl in_kept ↦ ap (λ p. Some p) (left_with kept b o
              (ap (referent_if_kept kept) f ∙ cond-true (kept ∋ x) (Some x) None in_kept ∙ sym f))
              ∙ ap (option_map (made_pending b)) (sym (keeps_referent s x o e f in_kept))
          | inr not_kept ↦ ap (λ p. Some p) (left_without kept b o
              (ap (referent_if_kept kept) f ∙ cond-false (kept ∋ x) (Some x) None not_kept))
              ∙ ap (option_map (made_pending b)) (sym (loses_referent s x o m e f not_kept))
        ]
      ] refl

  pub nothing_there : (s : ℕ) → at heap s ≡ None → at c.phantom_left s ≡ None
  nothing_there s e =
      let one = empty_stays Soft Dropped heap c.soft_left c.soft.1 s e in
      let two = empty_stays Weak (HasStrength Weak c.soft_left B) c.soft_left c.weak_left c.weak s one in
      empty_stays Phantom (HasStrength Phantom c.weak_left B) c.weak_left c.phantom_left c.phantom s two

  kept_place : (s : ℕ) → s ∈ kept → option_map (left_of kept (pending ∋ s)) (at heap s) ≡ option_map (made_pending (pending ∋ s))
      (at c.phantom_left s)
  kept_place s m =
      elim (at heap s) as (λ o. at heap s ≡ o → option_map (left_of kept (pending ∋ s)) o ≡ option_map (made_pending (pending ∋ s))
      (at c.phantom_left s)) [
        | None ↦ λ e. ap (option_map (made_pending (pending ∋ s))) (sym (nothing_there s e))
        | Some o ↦ λ e. kept_object s o (pending ∋ s) m e
      ] refl

  -- at each slot what the three clearings leave of a kept object, Pending where it is handed over; nothing elsewhere
  pub agrees : (s : ℕ) → at (places_left kept pending 0 heap) s ≡ cond (kept ∋ s)
      (option_map (made_pending (pending ∋ s)) (at c.phantom_left s)) None
  agrees s =
      at-places_left kept pending 0 heap s s (omega arith)
      ∙ elim (kept ∋ s) as (λ b. (kept ∋ s) ≡ b → cond b (option_map (left_of kept (pending ∋ s)) (at heap s)) None ≡ cond b
      (option_map (made_pending (pending ∋ s)) (at c.phantom_left s)) None) [
        | true ↦ λ m. kept_place s m
        | false ↦ λ _. refl
      ] refl

  pub soft_edge_back : (x y : ℕ) → HasEdge UpToSoft c.soft_left x y → HasEdge UpToSoft heap x y
  soft_edge_back x y (inl e) = inl (strong_back Soft Dropped heap c.soft_left c.soft.1 dropped x y e)
  soft_edge_back x y (inr e) = inr (e.0, e.1, referent_back Soft Dropped heap c.soft_left c.soft.1 dropped e.0 x y e.2)

  -- a strong or soft edge that the soft clearing left stays to the end
  pub soft_to_last : (x y : ℕ) → HasEdge UpToSoft c.soft_left x y → HasEdge UpToPhantom c.phantom_left x y
  soft_to_last x y (inl e) =
      inl (strong_forth Phantom (HasStrength Phantom c.weak_left B) c.weak_left c.phantom_left c.phantom phantom_set x y
      (strong_forth Weak (HasStrength Weak c.soft_left B) c.soft_left c.weak_left c.weak weak_set x y e))
  soft_to_last x y (inr (Soft, t, e)) =
      inr (
        Soft,
        refl,
        referent_forth Phantom (HasStrength Phantom c.weak_left B) c.weak_left c.phantom_left c.phantom phantom_set Soft x y
            (referent_forth Weak (HasStrength Weak c.soft_left B) c.soft_left c.weak_left c.weak weak_set Soft x y e
            (λ q. absurd (kinds_apart q))) (λ q. absurd (soft_phantom q)),
      )
  soft_to_last x y (inr (Weak, t, e)) = absurd (both_ways false refl t)
  soft_to_last x y (inr (Phantom, t, e)) = absurd (both_ways false refl t)

  pub strong_to_soft : (x y : ℕ) → HasEdge Strong heap x y → HasEdge UpToSoft c.soft_left x y
  strong_to_soft x y (inl e) = inl (strong_forth Soft Dropped heap c.soft_left c.soft.1 dropped x y e)
  strong_to_soft x y (inr e) = absurd (both_ways false refl e.1)
