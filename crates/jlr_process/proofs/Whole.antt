-- What a collection over all places is: that of the marked objects.
use Rattle.std.proofs.Common.{◌≡◌, ◌&&◌, ◌+◌, ◌<◌, ◌≤◌, ◌↔◌, ℕ, suc, Bool, true, false, cond, not, List, [], ◌∷◌, length, filter, Option}
use Rattle.std.proofs.Common.{Some, None, option_map, IsTrue, is_some, refl, sym, ◌∙◌, ap, subst, arith, inl, inr}
use Rattle.std.proofs.lemmas.Bool.{both_ways, cases_lt}
use Rattle.std.proofs.lemmas.List.Sums.{length-filter}
use Rattle.jlr_machine.specs.declared.object.Object.{Object}
use Rattle.jlr_machine.specs.declared.object.Object.TheVariants.{Plain, Reference, Queue, Cleaner, Cleanable, Guard}
use Rattle.jlr_machine.specs.Objects.{Table, Heap, at, ◌∈◌, ◌∋◌, any_referent, occupied, some_and}
use Rattle.jlr_machine.specs.Collection.{referent_if_kept, is_ready, left_of, made_pending, places_left}
use Rattle.jlr_machine.specs.ReachSet.{up_to}
use Rattle.jlr_laws.specs.Laws.{LosesReferent}
use Rattle.jlr_laws.proofs.Sets.{in_filter, filter_in, up_to_in}
use Rattle.jlr_laws.proofs.Agree.{at-places_left}
use Rattle.jlr_laws.proofs.Checks.{at_beyond}
use Rattle.jlr_laws.proofs.ObjectLeft.{length_left}
use Rattle.jlr_machine.specs.declared.machine.Machine.{Machine}
use Rattle.jlr_machine.specs.declared.machine.Session.{Session}
use Rattle.jlr_machine.specs.declared.machine.Binding.{Binding}
use Rattle.jlr_barrier.specs.Graphs.{Graph, in_machine}
use Rattle.jlr_marks.specs.Marking.{Marking, IsMarked, is_marked}
use Rattle.jlr_marks.proofs.Shading.{marked_within}
use Rattle.jlr_process.specs.Settling.{is_losing, loses, marked_below, marked_referent, settled, settled_object}

-- ---- Slots that pass a test, so far

pub same_bool : (a b : Bool) → (a ≡ true → b ≡ true) → (b ≡ true → a ≡ true) → a ≡ b
same_bool true b h k = sym (h refl)
same_bool false true h k = k refl
same_bool false false h k = refl

-- where only slots below n pass it
pub passes : (p : ℕ → Bool) (n x : ℕ) → (p x ≡ true → x < n) → (filter p (up_to 0 n) ∋ x) ≡ p x
passes p n x h =
    same_bool (filter p (up_to 0 n) ∋ x) (p x)
    (λ i. (in_filter p (up_to 0 n) x i).0)
    (λ i. filter_in p (up_to 0 n) x i (up_to_in 0 n x (omega arith) (omega (arith, h i))))

pub kept_is_marked : (m : Marking) (n x : ℕ) → length m.bits ≤ n → (marked_below m n ∋ x) ≡ is_marked m x
kept_is_marked m n x l = passes (is_marked m) n x (λ h. omega (arith, l, marked_within m.bits x h))

pub losing_is_marked : (m : Marking) (heap : Heap) (x : ℕ) → is_losing m heap x ≡ true → is_marked m x ≡ true
losing_is_marked m heap x h =
    elim (is_marked m x) as (λ b. (b && some_and (loses m) (at heap x)) ≡ true → b ≡ true) [ true ↦ λ e. refl | false ↦ λ e. e ] h

pub losing_loses : (m : Marking) (heap : Heap) (x : ℕ) → is_losing m heap x ≡ true → some_and (loses m) (at heap x) ≡ true
losing_loses m heap x h = elim (is_marked m x) as (λ b. (b && some_and (loses m) (at heap x)) ≡ true
    → some_and (loses m) (at heap x) ≡ true) [ true ↦ λ e. e | false ↦ λ e. absurd (both_ways false refl e) ] h

-- ---- An object

same_referent : (m : Marking) (kept : List ℕ) → ((x : ℕ) → (kept ∋ x) ≡ is_marked m x) → (o : Option ℕ)
    → marked_referent m o ≡ referent_if_kept kept o
same_referent m kept h None = refl
same_referent m kept h (Some x) = ap (λ b. cond b (Some x) None) (sym (h x))

same_object : (m : Marking) (kept : List ℕ) → ((x : ℕ) → (kept ∋ x) ≡ is_marked m x) → (o : Object)
    → settled_object m o ≡ left_of kept (loses m o) o
same_object m kept h (Plain fields) = refl
same_object m kept h (Reference r) = ap {A = Option ℕ} {B = Object}
    (λ t. made_pending (loses m (Reference r)) (Reference (record r { referent = t }))) (same_referent m kept h r.referent)
same_object m kept h (Queue members) = refl
same_object m kept h Cleaner = refl
same_object m kept h (Cleanable c) = ap {A = Option ℕ} {B = Object}
    (λ t. made_pending (loses m (Cleanable c)) (Cleanable (record c { referent = t }))) (same_referent m kept h c.referent)
same_object m kept h (Guard g) = refl

module _ (m : Marking) (heap : Heap) (long : length m.bits ≡ length heap) where
  pub same : (x : ℕ) → (marked_below m (length heap) ∋ x) ≡ is_marked m x
  same x = kept_is_marked m (length heap) x (omega (arith, long))

-- where these are the slots of what becomes pending
module _ (m : Marking) (heap : Heap) (long : length m.bits ≡ length heap) (lost : List ℕ)
    (same_lost : (x : ℕ) → (lost ∋ x) ≡ is_losing m heap x) where
  abbrev kept : List ℕ
  kept = marked_below m (length heap)

  same_kept : (x : ℕ) → (kept ∋ x) ≡ is_marked m x
  same_kept x = same m heap long x

  same_place : (s : ℕ) (o : Option Object) → at heap s ≡ o → settled m s o ≡ cond (kept ∋ s) (option_map (left_of kept (lost ∋ s)) o) None
  same_place s None e = ap {A = Bool} {B = Option Object} (λ b. cond {A = Option Object} b None None) (sym (same_kept s))
  same_place s (Some o) e =
      elim (is_marked m s) as (λ b. is_marked m s ≡ b
      → cond {A = Option Object} b (Some (settled_object m o)) None
      ≡ cond {A = Option Object} b (Some (left_of kept (lost ∋ s) o)) None) [
        | true ↦ λ k.
            let listed : (lost ∋ s) ≡ loses m o = same_lost s ∙ ap (λ b. b && some_and (loses m) (at heap s)) k
            ∙ ap (some_and (loses m)) e in
            ap (λ x. Some x) (same_object m kept same_kept o ∙ ap (λ b. left_of kept b o) (sym listed))
        | false ↦ λ k. refl
      ] refl
      ∙ ap {A = Bool} {B = Option Object} (λ b. cond {A = Option Object} b (Some (left_of kept (lost ∋ s) o)) None) (sym (same_kept s))

  table_same : {A : Type 0} (xs ys : Table A) → length xs ≡ length ys → ((s : ℕ) → at xs s ≡ at ys s) → xs ≡ ys
  table_same [] [] l h = refl
  table_same [] (y ∷ ys) l h = absurd (omega (arith, l))
  table_same (x ∷ xs) [] l h = absurd (omega (arith, l))
  table_same (x ∷ xs) (y ∷ ys) l h = ap (λ z. z ∷ xs) (h 0) ∙ ap (λ zs. y ∷ zs) (table_same xs ys (omega (arith, l)) (λ s. h (suc s)))

  pub all_settled : (new : Heap) → length new ≡ length heap → ((s : ℕ) → s < length heap → at new s ≡ settled m s (at heap s))
      → new ≡ places_left kept lost 0 heap
  all_settled new as_long h =
      table_same new (places_left kept lost 0 heap) (as_long ∙ sym (length_left kept lost 0 heap)) (λ s. elim (cases_lt s (length heap)) [
        | inl l ↦ h s l ∙ same_place s (at heap s) refl ∙ sym (at-places_left kept lost 0 heap s s (omega arith))
        | inr b ↦
            at_beyond new s (omega (arith, as_long, b))
            ∙ sym (at_beyond (places_left kept lost 0 heap) s (omega (arith, length_left kept lost 0 heap, b)))
      ])

  -- ---- What becomes pending

  and_gives : (a b : Bool) → (a && b) ≡ true → (a ≡ true) × (b ≡ true)
  and_gives true b h = (refl, h)
  and_gives false b h = absurd (both_ways false refl h)

  unmarked_gives : (o : Option ℕ) → some_and (λ x. not (is_marked m x)) o ≡ true → (x : ℕ) × (o ≡ Some x) × (is_marked m x ≡ false)
  unmarked_gives None h = absurd (both_ways false refl h)
  unmarked_gives (Some x) h = (
    x,
    refl,
    elim (is_marked m x) as (λ b. not b ≡ true → b ≡ false) [
      | true ↦
          λ e. absurd (both_ways false refl e)
      | false ↦ λ e. refl
    ] h,
  )

  object_gives : (o : Option Object) → some_and (loses m) o ≡ true → (p : Object) × (o ≡ Some p) × (loses m p ≡ true)
  object_gives None h = absurd (both_ways false refl h)
  object_gives (Some p) h = (p, refl, h)

  lost_loses : (s : ℕ) → s ∈ lost → LosesReferent heap kept s
  lost_loses s h =
      let losing : is_losing m heap s ≡ true = sym (same_lost s) ∙ h in
      let o = object_gives (at heap s) (losing_loses m heap s losing) in
      let both = and_gives (is_ready o.0) (some_and (λ x. not (is_marked m x)) (any_referent o.0)) o.2 in
      let x = unmarked_gives (any_referent o.0) both.1 in
      (same_kept s ∙ losing_is_marked m heap s losing, (o.0, x.0), o.1, both.0, x.1, same_kept x.0 ∙ x.2)

  loses_lost : (s : ℕ) → LosesReferent heap kept s → s ∈ lost
  loses_lost s l =
      let o = l.1.0 in
      let x = l.1.1 in
      let marked : is_marked m s ≡ true = sym (same_kept s) ∙ l.0 in
      let unmarked : is_marked m x ≡ false = sym (same_kept x) ∙ l.5 in
      let cut : loses m o ≡ true =
      ap (λ b. b && some_and (λ y. not (is_marked m y)) (any_referent o)) l.3
      ∙ ap (some_and (λ y. not (is_marked m y))) l.4
      ∙ ap not unmarked in
      same_lost s ∙ ap (λ b. b && some_and (loses m) (at heap s)) marked ∙ ap (some_and (loses m)) l.2 ∙ cut

  pub pended : (s : ℕ) → (s ∈ lost) ↔ LosesReferent heap kept s
  pended s = (lost_loses s, loses_lost s)

  -- ---- How many are kept

  places_counted : (slots pending : List ℕ) (n : ℕ) (places : Heap) → ((s : ℕ) → (n + s) ∈ slots → IsTrue (is_some (at places s)))
      → length (filter is_some (places_left slots pending n places)) ≡ length (filter (λ s. slots ∋ s) (up_to n (length places)))
  places_counted slots pending n [] h = refl
  places_counted slots pending n (o ∷ places) h =
      let tail : Heap = places_left slots pending (suc n) places in
      let later : List ℕ = filter (λ s. slots ∋ s) (up_to (suc n) (length places)) in
      let rest : length (filter is_some tail) ≡ length later =
      places_counted slots pending (suc n) places (λ s m. h (suc s) (subst (λ k. k ∈ slots) (omega arith) m)) in
      elim (slots ∋ n) as (λ b. (slots ∋ n) ≡ b → length (filter is_some (cond b (option_map (left_of slots (pending ∋ n)) o) None ∷ tail))
      ≡ length (cond b (n ∷ later) later)) [
        | true ↦ λ e. elim o as (λ o. IsTrue (is_some o)
            → length (filter is_some (option_map (left_of slots (pending ∋ n)) o ∷ tail)) ≡ length (n ∷ later)) [
              | None ↦ λ i. absurd (both_ways false refl i)
              | Some p ↦ λ i. ap suc rest
            ] (h 0 (subst (λ k. k ∈ slots) (omega arith) e))
        | false ↦ λ e. rest
      ] refl

  filter_alike : (p q : ℕ → Bool) (xs : List ℕ) → ((x : ℕ) → p x ≡ q x) → filter p xs ≡ filter q xs
  filter_alike p q [] h = refl
  filter_alike p q (x ∷ xs) h = ap (λ b. cond b (x ∷ filter p xs) (filter p xs)) (h x)
      ∙ ap (λ l. cond (q x) (x ∷ l) l) (filter_alike p q xs h)

  pub kept_counted : ((x : ℕ) → IsMarked m x → IsTrue (is_some (at heap x))) → occupied (places_left kept lost 0 heap) ≡ length kept
  kept_counted objects =
      sym (length-filter is_some (places_left kept lost 0 heap))
      ∙ places_counted kept lost 0 heap (λ s h. objects s (sym (same_kept s) ∙ subst (λ k. k ∈ kept) (omega arith) h))
      ∙ ap length (filter_alike (λ s. kept ∋ s) (is_marked m) (up_to 0 (length heap)) same_kept)

pub as_parts : (k : Machine) (g : Graph) (objects : Heap) (mutators : Table Session) (names : List Binding) (pending line : List ℕ)
    → g.objects ≡ objects → g.mutators ≡ mutators → g.names ≡ names → g.pending ≡ pending → g.line ≡ line
    → in_machine k g ≡ record k { objects = objects; mutators = mutators; names = names; pending = pending; line = line }
as_parts k g objects mutators names pending line eo em en ep el =
    let put : Heap → Table Session → List Binding → List ℕ → List ℕ → Machine =
    λ o t b l w. record k { objects = o; mutators = t; names = b; pending = l; line = w } in
    ap (λ o. put o g.mutators g.names g.pending g.line) eo
    ∙ ap (λ t. put objects t g.names g.pending g.line) em
    ∙ ap (λ b. put objects mutators b g.pending g.line) en
    ∙ ap (λ l. put objects mutators names l g.line) ep
    ∙ ap (put objects mutators names pending) el
