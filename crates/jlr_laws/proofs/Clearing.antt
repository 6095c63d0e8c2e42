-- What a clearing leaves of the edges.
use Rattle.std.proofs.Common.{◌≡◌, ℕ, Bool, true, false, cond, List, [], ◌++◌, refl, sym, ◌∙◌, ap, subst, ◌⊎◌, inl, inr, nat_eq, Option}
use Rattle.std.proofs.Common.{Some, None, option_map, option_and_then, option_to_list, is_some, unwrap_or}
use Rattle.std.specs.List.{flat_map}
use Rattle.std.proofs.lemmas.Bool.{or_cases, or_left, or_right, both_ways}
use Rattle.std.proofs.lemmas.List.Folds.{list_any-append}
use Rattle.jlr_types.specs.declared.RefKind.{RefKind}
use Rattle.jlr_types.specs.declared.RefKind.TheVariants.{Soft, Weak, Phantom}
use Rattle.jlr_machine.specs.declared.object.Object.{Object}
use Rattle.jlr_machine.specs.declared.object.Object.TheVariants.{Plain, Reference, Queue, Cleaner, Cleanable, Guard}
use Rattle.jlr_machine.specs.Objects.{Heap, at, ◌∋◌, ◌∈◌, any_referent}
use Rattle.jlr_machine.specs.Edges.{Chain, edges, edges_from, strong_edges, referent, referent_edges, is_kind}
use Rattle.jlr_machine.specs.Collection.{PointsInto, Clears, without_referent}
use Rattle.jlr_machine.specs.Edges.Chain.{Strong, UpToSoft, UpToWeak, UpToPhantom}
use Rattle.jlr_laws.proofs.Sets.{nothing, in_front, in_cons}

-- ---- Lists joined

pub in_append : (s : ℕ) (xs ys : List ℕ) → s ∈ (xs ++ ys) → (s ∈ xs) ⊎ (s ∈ ys)
in_append s xs ys h = or_cases (xs ∋ s) (ys ∋ s) (sym (list_any-append (nat_eq s) xs ys) ∙ h)

pub in_left : (s : ℕ) (xs ys : List ℕ) → s ∈ xs → s ∈ (xs ++ ys)
in_left s xs ys h = list_any-append (nat_eq s) xs ys ∙ or_left (xs ∋ s) (ys ∋ s) h

pub in_right : (s : ℕ) (xs ys : List ℕ) → s ∈ ys → s ∈ (xs ++ ys)
in_right s xs ys h = list_any-append (nat_eq s) xs ys ∙ or_right (xs ∋ s) (ys ∋ s) h

pub in_option : (s : ℕ) (o : Option ℕ) → s ∈ option_to_list o → o ≡ Some s
in_option s None h = nothing s h
in_option s (Some x) h = elim (in_cons s x [] h) [ inl e ↦ ap (λ y. Some y) (sym e) | inr h ↦ nothing s h ]

pub option_in : (s : ℕ) (o : Option ℕ) → o ≡ Some s → s ∈ option_to_list o
option_in s o e = subst (λ o. s ∈ option_to_list o) (sym e) (in_front s s [] refl)

-- ---- An edge is strong, or a referent of a kind that the chain takes

abbrev pub takes : Chain → RefKind → Bool
takes Strong kind = false
takes UpToSoft Soft = true
takes UpToSoft Weak = false
takes UpToSoft Phantom = false
takes UpToWeak Soft = true
takes UpToWeak Weak = true
takes UpToWeak Phantom = false
takes UpToPhantom kind = true

abbrev pub HasStrong : Heap → ℕ → ℕ → Type 0
HasStrong heap x y = (o : Object) × (at heap x ≡ Some o) × (y ∈ strong_edges o)

abbrev pub HasReferent : RefKind → Heap → ℕ → ℕ → Type 0
HasReferent kind heap x y = (o : Object) × (at heap x ≡ Some o) × (referent kind o ≡ Some y)

abbrev pub HasEdge : Chain → Heap → ℕ → ℕ → Type 0
HasEdge chain heap x y = HasStrong heap x y ⊎ ((kind : RefKind) × (takes chain kind ≡ true) × HasReferent kind heap x y)

abbrev OneOf : Chain → Object → ℕ → Type 0
OneOf chain o y = (y ∈ strong_edges o) ⊎ ((kind : RefKind) × (takes chain kind ≡ true) × (referent kind o ≡ Some y))

pub one_of : (chain : Chain) (o : Object) (y : ℕ) → y ∈ edges chain o → OneOf chain o y
one_of Strong o y h = inl h
one_of UpToSoft o y h = elim (in_append y (strong_edges o) (referent_edges Soft o) h) [
  | inl h ↦ inl h
  | inr h ↦ inr (Soft, refl, in_option y (referent Soft o) h)
]
one_of UpToWeak o y h = elim (in_append y (strong_edges o ++ referent_edges Soft o) (referent_edges Weak o) h) [
  | inl h ↦ elim (in_append y (strong_edges o) (referent_edges Soft o) h) [
    | inl h ↦ inl h
    | inr h ↦
        inr (Soft, refl, in_option y (referent Soft o) h)
  ]
  | inr h ↦ inr (Weak, refl, in_option y (referent Weak o) h)
]
one_of UpToPhantom o y h =
    elim (in_append y (strong_edges o ++ referent_edges Soft o ++ referent_edges Weak o) (referent_edges Phantom o) h) [
      | inl h ↦ elim (in_append y (strong_edges o ++ referent_edges Soft o) (referent_edges Weak o) h) [
        | inl h ↦ elim (in_append y (strong_edges o) (referent_edges Soft o) h) [
          | inl h ↦ inl h
          | inr h ↦
              inr (Soft, refl, in_option y (referent Soft o) h)
        ]
        | inr h ↦ inr (Weak, refl, in_option y (referent Weak o) h)
      ]
      | inr h ↦ inr (Phantom, refl, in_option y (referent Phantom o) h)
    ]

strong_in : (chain : Chain) (o : Object) (y : ℕ) → y ∈ strong_edges o → y ∈ edges chain o
strong_in Strong o y h = h
strong_in UpToSoft o y h = in_left y _ (referent_edges Soft o) h
strong_in UpToWeak o y h = in_left y _ (referent_edges Weak o) (in_left y _ (referent_edges Soft o) h)
strong_in UpToPhantom o y h =
    in_left y _ (referent_edges Phantom o) (in_left y _ (referent_edges Weak o) (in_left y _ (referent_edges Soft o) h))

referent_in : (chain : Chain) (kind : RefKind) (o : Object) (y : ℕ) → takes chain kind ≡ true → referent kind o ≡ Some y → y ∈ edges chain o
referent_in Strong kind o y t e = absurd (both_ways false refl t)
referent_in UpToSoft Soft o y t e = in_right y (strong_edges o) (referent_edges Soft o) (option_in y (referent Soft o) e)
referent_in UpToSoft Weak o y t e = absurd (both_ways false refl t)
referent_in UpToSoft Phantom o y t e = absurd (both_ways false refl t)
referent_in UpToWeak Soft o y t e =
    in_left y _ (referent_edges Weak o) (in_right y (strong_edges o) (referent_edges Soft o) (option_in y (referent Soft o) e))
referent_in UpToWeak Weak o y t e =
    in_right y (strong_edges o ++ referent_edges Soft o) (referent_edges Weak o) (option_in y (referent Weak o) e)
referent_in UpToWeak Phantom o y t e = absurd (both_ways false refl t)
referent_in UpToPhantom Soft o y t e = in_left y _ (referent_edges Phantom o)
    (in_left y _ (referent_edges Weak o) (in_right y (strong_edges o) (referent_edges Soft o) (option_in y (referent Soft o) e)))
referent_in UpToPhantom Weak o y t e = in_left y _ (referent_edges Phantom o)
    (in_right y (strong_edges o ++ referent_edges Soft o) (referent_edges Weak o) (option_in y (referent Weak o) e))
referent_in UpToPhantom Phantom o y t e = in_right y (strong_edges o ++ referent_edges Soft o ++ referent_edges Weak o)
    (referent_edges Phantom o) (option_in y (referent Phantom o) e)

pub edge_gives : (chain : Chain) (heap : Heap) (x y : ℕ) → y ∈ edges_from chain heap x → HasEdge chain heap x y
edge_gives chain heap x y =
    elim (at heap x) as (λ o. at heap x ≡ o → y ∈ flat_map (edges chain) (option_to_list o) → HasEdge chain heap x y) [
      | None ↦ λ e h. nothing y h
      | Some o ↦ λ e h. elim (in_append y (edges chain o) [] h) [
        | inl h ↦ elim (one_of chain o y h) [ inl s ↦ inl (o, e, s) | inr r ↦ inr (r.0, r.1, (o, e, r.2)) ]
        | inr h ↦ nothing y h
      ]
    ] refl

pub edge_from : (chain : Chain) (heap : Heap) (x y : ℕ) → HasEdge chain heap x y → y ∈ edges_from chain heap x
edge_from chain heap x y (inl s) =
    subst (λ o. y ∈ flat_map (edges chain) (option_to_list o)) (sym s.1) (in_left y (edges chain s.0) [] (strong_in chain s.0 y s.2))
edge_from chain heap x y (inr r) = subst (λ o. y ∈ flat_map (edges chain) (option_to_list o)) (sym r.2.1)
    (in_left y (edges chain r.2.0) [] (referent_in chain r.0 r.2.0 y r.1 r.2.2))

-- ---- Objects without their referents

pub strong_without : (o : Object) → strong_edges (without_referent o) ≡ strong_edges o
strong_without (Plain fields) = refl
strong_without (Reference r) = refl
strong_without (Queue members) = refl
strong_without Cleaner = refl
strong_without (Cleanable c) = refl
strong_without (Guard g) = refl

same_branch : (b : Bool) → ◌≡◌ {A = Option ℕ} (cond b None None) None
same_branch true = refl
same_branch false = refl

pub referent_without : (kind : RefKind) (o : Object) → referent kind (without_referent o) ≡ None
referent_without kind (Plain fields) = refl
referent_without kind (Reference r) = same_branch (is_kind kind r.kind)
referent_without kind (Queue members) = refl
referent_without kind Cleaner = refl
referent_without kind (Cleanable c) = same_branch (is_kind kind Phantom)
referent_without kind (Guard g) = refl

pub without_twice : (o : Object) → without_referent (without_referent o) ≡ without_referent o
without_twice (Plain fields) = refl
without_twice (Reference r) = refl
without_twice (Queue members) = refl
without_twice Cleaner = refl
without_twice (Cleanable c) = refl
without_twice (Guard g) = refl

pub not_none : (x : ℕ) → None ≡ Some x → ⊥
not_none x e = both_ways false refl (ap is_some e)

pub same_some : (x y : ℕ) → Some x ≡ Some y → x ≡ y
same_some x y e = ap (λ o. unwrap_or o x) e

some_same : {A : Type 0} (x y : A) → Some x ≡ Some y → x ≡ y
some_same x y e = ap (λ o. unwrap_or o x) e

-- ---- An object has one referent, of one kind

kind_is : (k l : RefKind) → is_kind k l ≡ true → k ≡ l
kind_is Soft Soft e = refl
kind_is Weak Weak e = refl
kind_is Phantom Phantom e = refl
kind_is Soft Weak e = absurd (both_ways false refl e)
kind_is Soft Phantom e = absurd (both_ways false refl e)
kind_is Weak Soft e = absurd (both_ways false refl e)
kind_is Weak Phantom e = absurd (both_ways false refl e)
kind_is Phantom Soft e = absurd (both_ways false refl e)
kind_is Phantom Weak e = absurd (both_ways false refl e)

chosen : (b : Bool) (r : Option ℕ) (y : ℕ) → cond b r None ≡ Some y → (b ≡ true) × (r ≡ Some y)
chosen true r y e = (refl, e)
chosen false r y e = absurd (not_none y e)

-- of the kind, and what any_referent gives
pub referent_is : (k : RefKind) (o : Object) (y : ℕ) → referent k o ≡ Some y → any_referent o ≡ Some y
referent_is k (Plain fields) y e = absurd (not_none y e)
referent_is k (Reference r) y e = (chosen (is_kind k r.kind) r.referent y e).1
referent_is k (Queue members) y e = absurd (not_none y e)
referent_is k Cleaner y e = absurd (not_none y e)
referent_is k (Cleanable c) y e = (chosen (is_kind k Phantom) c.referent y e).1
referent_is k (Guard g) y e = absurd (not_none y e)

self_kind : (k : RefKind) → is_kind k k ≡ true
self_kind Soft = refl
self_kind Weak = refl
self_kind Phantom = refl

pub some_kind : (o : Object) (y : ℕ) → any_referent o ≡ Some y → (k : RefKind) × (referent k o ≡ Some y)
some_kind (Plain fields) y e = absurd (not_none y e)
some_kind (Reference r) y e = (r.kind, subst (λ b. cond b r.referent None ≡ Some y) (sym (self_kind r.kind)) e)
some_kind (Queue members) y e = absurd (not_none y e)
some_kind Cleaner y e = absurd (not_none y e)
some_kind (Cleanable c) y e = (Phantom, e)
some_kind (Guard g) y e = absurd (not_none y e)

same_kind : (k l : RefKind) (o : Object) (y z : ℕ) → referent k o ≡ Some y → referent l o ≡ Some z → k ≡ l
same_kind k l (Plain fields) y z e f = absurd (not_none y e)
same_kind k l (Reference r) y z e f = kind_is k r.kind (chosen (is_kind k r.kind) r.referent y e).0
    ∙ sym (kind_is l r.kind (chosen (is_kind l r.kind) r.referent z f).0)
same_kind k l (Queue members) y z e f = absurd (not_none y e)
same_kind k l Cleaner y z e f = absurd (not_none y e)
same_kind k l (Cleanable c) y z e f = kind_is k Phantom (chosen (is_kind k Phantom) c.referent y e).0
    ∙ sym (kind_is l Phantom (chosen (is_kind l Phantom) c.referent z f).0)
same_kind k l (Guard g) y z e f = absurd (not_none y e)

same_referent : (k l : RefKind) (o : Object) (y z : ℕ) → referent k o ≡ Some y → referent l o ≡ Some z → y ≡ z
same_referent k l o y z e f = same_some y z (sym (referent_is k o y e) ∙ referent_is l o z f)

some_of : (k : RefKind) (o : Option Object) (x : ℕ) → option_and_then (referent k) o ≡ Some x → (p : Object) × (o ≡ Some p)
    × (referent k p ≡ Some x)
some_of k None x e = absurd (not_none x e)
some_of k (Some p) x e = (p, refl, e)

-- ---- One clearing

module _ (kind : RefKind) (C : ℕ → Type 0) (old new : Heap) (c : Clears kind C old new) (dec : (x : ℕ) → C x ⊎ ¬ (C x)) where
  points : (o : Option Object) → PointsInto kind C o ⊎ ¬ (PointsInto kind C o)
  points o = elim (option_and_then (referent kind) o) as (λ r. option_and_then (referent kind) o ≡ r → PointsInto kind C o
      ⊎ ¬ (PointsInto kind C o)) [
        | None ↦ λ e. inr (λ p. not_none p.0 (sym e ∙ p.1))
        | Some x ↦ λ e. elim (dec x) [
          | inl yes_x ↦ inl (x, e, yes_x)
          | inr no_x ↦
              inr (λ p. no_x (subst C (same_some p.0 x (sym p.1 ∙ e)) p.2))
        ]
      ] refl

  -- what was at s is cleared or kept
  pub cleared_or_kept : (s : ℕ) → ((z : ℕ) × (o : Object) × (at old s ≡ Some o) × (referent kind o ≡ Some z) × C z
      × (at new s ≡ Some (without_referent o))) ⊎ (¬ (PointsInto kind C (at old s)) × (at new s ≡ at old s))
  cleared_or_kept s = elim (points (at old s)) [
    | inl p ↦
        let there = some_of kind (at old s) p.0 p.1 in
        inl (p.0, there.0, there.1, there.2, p.2, c.cleared s p ∙ ap (option_map without_referent) there.1)
    | inr n ↦ inr (n, c.others s n)
  ]

  pub strong_back : (x y : ℕ) → HasStrong new x y → HasStrong old x y
  strong_back x y h = elim (cleared_or_kept x) [
    | inl k ↦ (
      k.1,
      k.2,
      subst (λ l. y ∈ l) (ap strong_edges (some_same h.0 (without_referent k.1) (sym h.1 ∙ k.5)) ∙ strong_without k.1)
          h.2,
    )
    | inr k ↦ (h.0, sym k.1 ∙ h.1, h.2)
  ]

  pub strong_forth : (x y : ℕ) → HasStrong old x y → HasStrong new x y
  strong_forth x y h = elim (cleared_or_kept x) [
    | inl k ↦ (
      without_referent k.1,
      k.5,
      subst (λ l. y ∈ l)
          (ap strong_edges (some_same h.0 k.1 (sym h.1 ∙ k.2)) ∙ sym (strong_without k.1)) h.2,
    )
    | inr k ↦ (h.0, k.1 ∙ h.1, h.2)
  ]

  pub referent_back : (l : RefKind) (x y : ℕ) → HasReferent l new x y → HasReferent l old x y
  referent_back l x y h = elim (cleared_or_kept x) [
    | inl k ↦ absurd
        (not_none y (sym (ap (referent l) (some_same h.0 (without_referent k.1) (sym h.1 ∙ k.5)) ∙ referent_without l k.1) ∙ h.2))
    | inr k ↦ (h.0, sym k.1 ∙ h.1, h.2)
  ]

  -- no reference of this kind refers into the set any more
  pub referent_kept : (x y : ℕ) → HasReferent kind new x y → ¬ (C y)
  referent_kept x y h = elim (cleared_or_kept x) as (λ _. ¬ (C y)) [
    | inl k ↦ λ _. not_none y
        (sym (ap (referent kind) (some_same h.0 (without_referent k.1) (sym h.1 ∙ k.5)) ∙ referent_without kind k.1) ∙ h.2)
    | inr k ↦ λ yes_y. k.0 (y, ap (option_and_then (referent kind)) (sym k.1 ∙ h.1) ∙ h.2, yes_y)
  ]

  -- any other reference keeps its referent
  pub referent_forth : (l : RefKind) (x y : ℕ) → HasReferent l old x y → (l ≡ kind → ¬ (C y)) → HasReferent l new x y
  referent_forth l x y h apart = elim (cleared_or_kept x) [
    | inl k ↦
        let same : h.0 ≡ k.1 = some_same h.0 k.1 (sym h.1 ∙ k.2) in
        let there : referent l k.1 ≡ Some y = ap (referent l) (sym same) ∙ h.2 in
        absurd (apart (same_kind l kind k.1 y k.0 there k.3) (subst C (same_referent kind l k.1 k.0 y k.3 there) k.4))
    | inr k ↦ (h.0, k.1 ∙ h.1, h.2)
  ]
