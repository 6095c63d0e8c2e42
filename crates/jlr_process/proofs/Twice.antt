-- Settling what was discovered: one slot after the other, from the last one on, and a second time nothing.
use Rattle.std.proofs.Common.{◌≡◌, ◌&&◌, ◌⊎◌, ◌<◌, ◌+◌, ℕ, zero, suc, Bool, true, false, cond, not, List, [], ◌∷◌, ◌++◌, length, Option}
use Rattle.std.proofs.Common.{Some, None, slice_set, option_and_then, refl, sym, subst, ap, ◌∙◌, append_assoc, arith, inl, inr}
use Rattle.std.specs.Prelude.{drop, option_map, slice_get}
use Rattle.std.proofs.lemmas.Bool.{both_ways, cases_eq}
use Rattle.std.proofs.lemmas.List.{length-append, length-set}
use Rattle.jlr_machine.specs.declared.object.Object.{Object}
use Rattle.jlr_machine.specs.declared.object.Object.TheVariants.{Plain, Reference, Queue, Cleaner, Cleanable, Guard}
use Rattle.jlr_machine.specs.declared.object.CleanState.TheVariants.{Pending as PendingClean}
use Rattle.jlr_machine.specs.declared.object.RefState.TheVariants.{Pending}
use Rattle.jlr_machine.specs.Objects.{Heap, ◌∈◌, ◌∋◌, any_referent, at, is_distinct, some_and}
use Rattle.jlr_machine.specs.Collection.{is_ready}
use Rattle.jlr_machine.specs.Choices.{Choosing, collecting, kept_by, pended_by}
use Rattle.jlr_laws.proofs.Sets.{in_cons, in_front}
use Rattle.jlr_laws.proofs.Clearing.{in_append, in_left, in_right}
use Rattle.jlr_laws.proofs.ObjectLeft.{distinct_append}
use Rattle.jlr_laws.proofs.Frames.{no_some, set_other}
use Rattle.jlr_links.proofs.Rooms.{short}
use Rattle.jlr_barrier.specs.Graphs.{Graph}
use Rattle.jlr_barrier.specs.Snapshots.{RefersTo}
use Rattle.jlr_marks.specs.Marking.{Marking, IsMarked, is_marked}
use Rattle.jlr_marks.proofs.Shading.{marked_within}
use Rattle.jlr_process.specs.Settling.{SettlesSlots, cleared, cleared_graph, is_losing, kept_if_marked, loses, marked_referent}
use Rattle.jlr_process.specs.Settling.{newly_pending}
use Rattle.jlr_process.specs.Settling.{only_if, settled, settled_object}
use Rattle.jlr_process.proofs.Whole.{losing_is_marked, losing_loses, same_bool}

-- ---- An object that was settled

and_false : (b : Bool) → (b && false) ≡ false
and_false true = refl
and_false false = refl

none_awaited : (m : Marking) (o : Option ℕ) → some_and (λ x. not (is_marked m x)) (marked_referent m o) ≡ false
none_awaited m None = refl
none_awaited m (Some x) = elim (is_marked m x) as (λ b. is_marked m x ≡ b
    → some_and (λ x. not (is_marked m x)) (cond b (Some x) None) ≡ false) [ true ↦ λ e. ap not e | false ↦ λ e. refl ] refl

referent_twice : (m : Marking) (o : Option ℕ) → marked_referent m (marked_referent m o) ≡ marked_referent m o
referent_twice m None = refl
referent_twice m (Some x) = elim (is_marked m x) as (λ b. is_marked m x ≡ b
    → marked_referent m (cond b (Some x) None) ≡ cond b (Some x) None) [ true ↦ λ e. ap (λ b. cond b (Some x) None) e | false ↦ λ e. refl ]
    refl

referent_left : (m : Marking) (o : Object) → any_referent (settled_object m o) ≡ marked_referent m (any_referent o)
referent_left m (Plain fields) = refl
referent_left m (Reference r) = refl
referent_left m (Queue members) = refl
referent_left m Cleaner = refl
referent_left m (Cleanable c) = refl
referent_left m (Guard g) = refl

loses_no_more : (m : Marking) (o : Object) → loses m (settled_object m o) ≡ false
loses_no_more m o =
    ap (λ r. is_ready (settled_object m o) && some_and (λ x. not (is_marked m x)) r) (referent_left m o)
    ∙ ap (λ b. is_ready (settled_object m o) && b) (none_awaited m (any_referent o))
    ∙ and_false (is_ready (settled_object m o))

settled_again : (m : Marking) (o : Object) → settled_object m (settled_object m o) ≡ settled_object m o
settled_again m (Plain fields) = refl
settled_again m (Reference r) =
    ap {A = Bool} {B = Object} (λ b. Reference (record
    r {
      referent = marked_referent m (marked_referent m r.referent);
      state =
          cond b Pending (cond (loses m (Reference r)) Pending r.state);
    })) (loses_no_more m (Reference r))
    ∙ ap {A = Option ℕ} {B = Object} (λ t. Reference (record r { referent = t; state = cond (loses m (Reference r)) Pending r.state }))
    (referent_twice m r.referent)
settled_again m (Queue members) = refl
settled_again m Cleaner = refl
settled_again m (Cleanable c) =
    ap {A = Bool} {B = Object} (λ b. Cleanable (record
    c {
      referent = marked_referent m (marked_referent m c.referent);
      state =
          cond b PendingClean (cond (loses m (Cleanable c)) PendingClean c.state);
    })) (loses_no_more m (Cleanable c))
    ∙ ap {A = Option ℕ} {B = Object} (λ t. Cleanable (record c { referent = t; state = cond (loses m (Cleanable c)) PendingClean c.state }))
    (referent_twice m c.referent)
settled_again m (Guard g) = refl

-- an object whose referent is marked has nothing to lose
all_marked : (m : Marking) (o : Option ℕ) → ((x : ℕ) → o ≡ Some x → is_marked m x ≡ true) → (marked_referent m o ≡ o)
    × (some_and (λ x. not (is_marked m x)) o ≡ false)
all_marked m None h = (refl, refl)
all_marked m (Some x) h = (ap (λ b. cond b (Some x) None) (h x refl), ap not (h x refl))

pub nothing_to_lose : (m : Marking) (o : Object) → ((x : ℕ) → any_referent o ≡ Some x → is_marked m x ≡ true) → settled_object m o ≡ o
nothing_to_lose m (Plain fields) h = refl
nothing_to_lose m (Reference r) h =
    let both = all_marked m r.referent h in
    ap {A = Bool} {B = Object} (λ b. Reference (record
    r { referent = marked_referent m r.referent; state = cond (is_ready (Reference r) && b) Pending r.state })) both.1
    ∙ ap {A = Bool} {B = Object} (λ b. Reference (record r { referent = marked_referent m r.referent; state = cond b Pending r.state }))
    (and_false (is_ready (Reference r)))
    ∙ ap {A = Option ℕ} {B = Object} (λ t. Reference (record r { referent = t })) both.0
nothing_to_lose m (Queue members) h = refl
nothing_to_lose m Cleaner h = refl
nothing_to_lose m (Cleanable c) h =
    let both = all_marked m c.referent h in
    ap {A = Bool} {B = Object} (λ b. Cleanable (record
    c { referent = marked_referent m c.referent; state = cond (is_ready (Cleanable c) && b) PendingClean c.state })) both.1
    ∙ ap {A = Bool} {B = Object} (λ b. Cleanable (record
    c { referent = marked_referent m c.referent; state = cond b PendingClean c.state })) (and_false (is_ready (Cleanable c)))
    ∙ ap {A = Option ℕ} {B = Object} (λ t. Cleanable (record c { referent = t })) both.0
nothing_to_lose m (Guard g) h = refl

-- ---- A place

settled_none : (m : Marking) (o : Option Object) → some_and (loses m) (option_map (settled_object m) o) ≡ false
settled_none m None = refl
settled_none m (Some o) = loses_no_more m o

twice_settled : (m : Marking) (o : Option Object)
    → option_map (settled_object m) (option_map (settled_object m) o) ≡ option_map (settled_object m) o
twice_settled m None = refl
twice_settled m (Some o) = ap (λ p. Some p) (settled_again m o)

cleared_again : (m : Marking) (s : ℕ) (o : Option Object) → cleared m s (cleared m s o) ≡ cleared m s o
cleared_again m s o = elim (is_marked m s) as (λ b. cond b (option_map (settled_object m) (cond b (option_map (settled_object m) o) o))
    (cond b (option_map (settled_object m) o) o) ≡ cond b (option_map (settled_object m) o) o) [ true ↦ twice_settled m o | false ↦ refl ]

cleared_none : (m : Marking) (s : ℕ) → cleared m s None ≡ None
cleared_none m s = elim (is_marked m s) as (λ b. cond {A = Option Object} b None None ≡ None) [ true ↦ refl | false ↦ refl ]

cleared_keeps : (m : Marking) (s : ℕ) (o : Option Object) → (is_marked m s && some_and (loses m) (cleared m s o)) ≡ false
cleared_keeps m s o = elim (is_marked m s) as (λ b. (b && some_and (loses m) (cond b (option_map (settled_object m) o) o)) ≡ false) [
  | true ↦
      settled_none m o
  | false ↦ refl
]

set_own : (xs : Heap) (d : ℕ) (f : Option Object → Option Object) → f None ≡ None → at (slice_set xs d (f (at xs d))) d ≡ f (at xs d)
set_own [] d f h = sym h
set_own (x ∷ xs) zero f h = refl
set_own (x ∷ xs) (suc d) f h = set_own xs d f h

marked_before : (m : Marking) (o : Option ℕ) (x : ℕ) → marked_referent m o ≡ Some x → o ≡ Some x
marked_before m None x e = e
marked_before m (Some y) x e =
    elim (is_marked m y) as (λ b. cond b (Some y) None ≡ Some x → Some y ≡ Some x) [ true ↦ λ f. f | false ↦ λ f. absurd (no_some x f) ] e

settled_before : (m : Marking) (o : Option Object) (x : ℕ) → option_and_then any_referent (option_map (settled_object m) o) ≡ Some x
    → option_and_then any_referent o ≡ Some x
settled_before m None x e = e
settled_before m (Some o) x e = marked_before m (any_referent o) x (sym (referent_left m o) ∙ e)

-- what it refers to, it referred to before
pub referred : (m : Marking) (s : ℕ) (o : Option Object) (b : Bool) (x : ℕ)
    → option_and_then any_referent (cond b (cleared m s o) o) ≡ Some x → option_and_then any_referent o ≡ Some x
referred m s o true x h = elim (is_marked m s) as (λ c. option_and_then any_referent (cond c (option_map (settled_object m) o) o) ≡ Some x
    → option_and_then any_referent o ≡ Some x) [ true ↦ settled_before m o x | false ↦ λ f. f ] h
referred m s o false x h = h

-- ---- One slot more

has_first : (slots : List ℕ) (d : ℕ) → ((d ∷ slots) ∋ d) ≡ true
has_first slots d = in_front d d slots refl

has_others : (slots : List ℕ) (d s : ℕ) → (s ≡ d → ⊥) → ((d ∷ slots) ∋ s) ≡ (slots ∋ s)
has_others slots d s apart =
    same_bool ((d ∷ slots) ∋ s) (slots ∋ s)
    (λ h. elim (in_cons s d slots h) [ inl e ↦ absurd (apart e) | inr a ↦ a ])
    (λ h. in_right s (d ∷ []) slots h)

in_only : (b : Bool) (d s : ℕ) → s ∈ only_if b d → (b ≡ true) × (s ≡ d)
in_only true d s h = elim (in_cons s d [] h) [ inl e ↦ (refl, e) | inr n ↦ absurd (both_ways false refl n) ]
in_only false d s h = absurd (both_ways false refl h)

only_distinct : (b : Bool) (d : ℕ) → is_distinct (only_if b d) ≡ true
only_distinct true d = refl
only_distinct false d = refl

only_in : (b : Bool) (d : ℕ) → b ≡ true → d ∈ only_if b d
only_in b d e = subst (λ c. d ∈ only_if c d) (sym e) (in_front d d [] refl)

module _ (m : Marking) (slots : List ℕ) (old : Graph) (before : Choosing) (lost : List ℕ) (g : Graph) (c : Choosing)
    (w : SettlesSlots m slots old before lost g c) (d : ℕ) where
  abbrev was : Option Object
  was = at old.objects d

  -- what is at the slot loses its referent only where it was not settled before
  pub losing_first : is_losing m g.objects d ≡ true → ((slots ∋ d) ≡ false) × (is_losing m old.objects d ≡ true)
  losing_first h =
      elim (slots ∋ d) as (λ b. at g.objects d ≡ cond b (cleared m d was) was → (b ≡ false) × (is_losing m old.objects d ≡ true)) [
        | true ↦ λ e. absurd (both_ways (is_losing m g.objects d)
            (ap (λ o. is_marked m d && some_and (loses m) o) e ∙ cleared_keeps m d was) h)
        | false ↦ λ e. (refl, ap (λ o. is_marked m d && some_and (loses m) o) (sym e) ∙ h)
      ] (w.objects d)

  losing_still : (slots ∋ d) ≡ false → is_losing m old.objects d ≡ true → is_losing m g.objects d ≡ true
  losing_still off h = ap (λ o. is_marked m d && some_and (loses m) o) (w.objects d ∙ ap (λ b. cond b (cleared m d was) was) off) ∙ h

  not_lost : is_losing m g.objects d ≡ true → d ∈ lost → ⊥
  not_lost h i = both_ways (slots ∋ d) (losing_first h).0 (w.listed d i).0

  pub room_left : length m.bits ≡ length old.objects → is_losing m g.objects d ≡ true → length lost < length old.objects
  room_left bits losing =
      let more : List ℕ = lost ++ d ∷ [] in
      let once : is_distinct more ≡ true = distinct_append lost (d ∷ []) w.once refl
      (λ s i j. elim (in_cons s d [] j) [ inl e ↦ not_lost losing (subst (λ x. x ∈ lost) e i) | inr n ↦ both_ways false refl n ]) in
      let below : (x : ℕ) → x ∈ more → x < length old.objects = λ x i.
      let lose : is_losing m old.objects x ≡ true = elim (in_append x lost (d ∷ []) i) [
        | inl a ↦ (w.listed x a).1
        | inr b ↦ elim (in_cons x d [] b) [
          | inl e ↦ subst (λ y. is_losing m old.objects y ≡ true) (sym e) (losing_first losing).1
          | inr n ↦
              absurd (both_ways false refl n)
        ]
      ] in
      omega (arith, bits, marked_within m.bits x (losing_is_marked m old.objects x lose)) in
      omega (arith, short more (length old.objects) once below, length-append lost (d ∷ []))

  pub clears_more : (n : Graph) (k : Choosing) → n ≡ cleared_graph m g d
      → k ≡ collecting c (kept_by c) (pended_by c ++ newly_pending m g.objects d) → (more : List ℕ)
      × SettlesSlots m (d ∷ slots) old before more n k
  clears_more n k en ek =
      let np : List ℕ = newly_pending m g.objects d in
      let losing : Bool = is_losing m g.objects d in
      let objects : n.objects ≡ slice_set g.objects d (cleared m d (at g.objects d)) = ap (λ (x : Graph). x.objects) en in (
        lost ++ np,
        record {
          long = ap length objects ∙ length-set g.objects d (cleared m d (at g.objects d)) ∙ w.long;
          objects = λ s. ap (λ l. at l s) objects ∙ elim (cases_eq s d) [
            | inl e ↦ subst (λ y. at (slice_set g.objects d (cleared m d (at g.objects d))) y
                ≡ cond ((d ∷ slots) ∋ y) (cleared m y (at old.objects y)) (at old.objects y)) (sym e)
                (set_own g.objects d (cleared m d) (cleared_none m d)
                ∙ ap (cleared m d) (w.objects d)
                ∙ elim (slots ∋ d) as (λ b. cleared m d (cond b (cleared m d was) was) ≡ cleared m d was) [
                  | true ↦ cleared_again m d was
                  | false ↦ refl
                ]
                ∙ sym (ap (λ b. cond b (cleared m d was) was) (has_first slots d)))
            | inr a ↦
                set_other g.objects d s (cleared m d (at g.objects d)) a
                ∙ w.objects s
                ∙ sym (ap (λ b. cond b (cleared m s (at old.objects s)) (at old.objects s)) (has_others slots d s a))
          ];
          pending = ap (λ (x : Graph). x.pending) en ∙ ap (λ l. l ++ np) w.pending ∙ append_assoc old.pending lost np;
          line = ap (λ (x : Graph). x.line) en ∙ w.line;
          mutators = ap (λ (x : Graph). x.mutators) en ∙ w.mutators;
          names = ap (λ (x : Graph). x.names) en ∙ w.names;
          once = distinct_append lost np w.once (only_distinct losing d)
              (λ s i j. let o = in_only losing d s j in not_lost o.0 (subst (λ x. x ∈ lost) o.1 i));
          listed = λ s h. elim (in_append s lost np h) [
            | inl a ↦ (in_right s (d ∷ []) slots (w.listed s a).0, (w.listed s a).1)
            | inr b ↦ let o = in_only losing d s b in (
              subst (λ x. x ∈ (d ∷ slots)) (sym o.1) (has_first slots d),
              subst (λ x. is_losing m old.objects x ≡ true) (sym o.1) (losing_first o.0).1,
            )
          ];
          all = λ s h l. elim (in_cons s d slots h) [
            | inl e ↦ elim (slots ∋ d) as (λ b. (slots ∋ d) ≡ b → s ∈ (lost ++ np)) [
              | true ↦ λ on. in_left s lost np (w.all s (subst (λ x. x ∈ slots) (sym e) on) l)
              | false ↦ λ off. in_right s lost np (subst (λ x. x ∈ np) (sym e)
                  (only_in losing d (losing_still off (subst (λ x. is_losing m old.objects x ≡ true) e l))))
            ] refl
            | inr a ↦ in_left s lost np (w.all s a l)
          ];
          chosen = ek ∙ ap (λ (x : Choosing). collecting x (kept_by x) (pended_by x ++ np)) w.chosen;
        },
      )

-- ---- All that was discovered

no_get : {A : Type 0} (xs : List A) (i : ℕ) → slice_get xs i ≡ None → i < length xs → ⊥
no_get [] i e l = omega (arith, l)
no_get (x ∷ xs) zero e l = no_some x (sym e)
no_get (x ∷ xs) (suc i) e l = no_get xs i e (omega (arith, l))

pub no_place : (xs : List ℕ) (i : ℕ) → slice_get xs i ≡ None → i < length xs → ⊥
no_place xs i e l = no_get xs i e l

-- the one before the last ones
one_left : (xs : List ℕ) (i d : ℕ) → slice_get xs i ≡ Some d → d ∷ drop (suc i) xs ≡ drop i xs
one_left [] i d e = absurd (no_some d e)
one_left (x ∷ xs) zero d e = ap (λ o. elim o [ None ↦ xs | Some y ↦ y ∷ xs ]) (sym e)
one_left (x ∷ xs) (suc i) d e = one_left xs i d e

pub more_left : (xs : List ℕ) (i d : ℕ) → slice_get xs i ≡ Some d → d ∷ drop (i + 1) xs ≡ drop i xs
more_left xs i d e = let next : i + 1 ≡ suc i = omega arith in ap (λ n. d ∷ drop n xs) next ∙ one_left xs i d e

module _ (m : Marking) (old : Heap) (found : List ℕ)
    (referents : (x y : ℕ) → IsMarked m x → RefersTo old x y → IsMarked m y ⊎ (x ∈ found)) where
  unmarked_gives : (o : Option ℕ) → some_and (λ x. not (is_marked m x)) o ≡ true → (x : ℕ) × (o ≡ Some x) × (is_marked m x ≡ false)
  unmarked_gives None h = absurd (both_ways false refl h)
  unmarked_gives (Some x) h = (
    x,
    refl,
    elim (is_marked m x) as (λ b. not b ≡ true → b ≡ false) [
      | true ↦
          λ e. absurd (both_ways false refl e)
      | false ↦ λ e. refl
    ] h,
  )

  lost_referent : (o : Option Object) → some_and (loses m) o ≡ true → (x : ℕ) × (option_and_then any_referent o ≡ Some x)
      × (is_marked m x ≡ false)
  lost_referent None h = absurd (both_ways false refl h)
  lost_referent (Some o) h = unmarked_gives (any_referent o)
      (elim (is_ready o) as (λ b. (b && some_and (λ x. not (is_marked m x)) (any_referent o)) ≡ true
      → some_and (λ x. not (is_marked m x)) (any_referent o) ≡ true) [ true ↦ λ e. e | false ↦ λ e. absurd (both_ways false refl e) ] h)

  -- what loses its referent was discovered
  pub all_lost : (s : ℕ) → is_losing m old s ≡ true → s ∈ found
  all_lost s h =
      let x = lost_referent (at old s) (losing_loses m old s h) in
      elim (referents s x.0 (losing_is_marked m old s h) x.1) [ inl on ↦ absurd (both_ways (is_marked m x.0) x.2 on) | inr there ↦ there ]

  there_settled : (s : ℕ) (o : Option Object) → at old s ≡ o → is_marked m s ≡ true
      → cond (found ∋ s) (option_map (settled_object m) o) o ≡ option_map (settled_object m) o
  there_settled s None e on = elim (found ∋ s) as (λ b. cond {A = Option Object} b None None ≡ None) [ true ↦ refl | false ↦ refl ]
  there_settled s (Some o) e on =
      elim (found ∋ s) as (λ b. (found ∋ s) ≡ b → cond {A = Option Object} b (Some (settled_object m o)) (Some o) ≡ Some
      (settled_object m o)) [
        | true ↦ λ h. refl
        | false ↦ λ h. ap (λ p. Some p) (sym (nothing_to_lose m o
            (λ x r. elim (referents s x on (ap (option_and_then any_referent) e ∙ r)) [
              | inl on ↦ on
              | inr there ↦
                  absurd (both_ways (found ∋ s) h there)
            ])))
      ] refl

  -- with what was discovered settled, and what is not marked gone, every place is settled
  pub settled_there : (s : ℕ) → kept_if_marked m s (cond (found ∋ s) (cleared m s (at old s)) (at old s)) ≡ settled m s (at old s)
  settled_there s =
      elim (is_marked m s) as (λ b. is_marked m s ≡ b
      → cond {A = Option Object} b (cond (found ∋ s) (cond b (option_map (settled_object m) (at old s)) (at old s)) (at old s)) None
      ≡ cond b (option_map (settled_object m) (at old s)) None) [
        | true ↦ λ on. there_settled s (at old s) refl on
        | false ↦ λ off. refl
      ] refl
