-- General lemmas on tables, objects as one of a kind, and roots.
use Rattle.std.proofs.Common.{◌≡◌, ℕ, zero, suc, ◌+◌, ◌<◌, ◌≤◌, true, false, cond, List, [], ◌∷◌, ◌++◌, length, refl, sym, ◌∙◌, ap, subst}
use Rattle.std.proofs.Common.{◌⊎◌, inl, inr, arith, Option, Some, None, option_and_then, option_to_list, is_some, filter_map, map}
use Rattle.std.proofs.Common.{slice_set, unwrap_or, get_or-set_same, get_or-set_other, option_map}
use Rattle.std.specs.List.{flat_map}
use Rattle.std.proofs.lemmas.Bool.{both_ways, cases_eq, cases_lt}
use Rattle.std.proofs.lemmas.List.{length-set}
use Rattle.jlr_machine.specs.declared.object.Contents.{Contents}
use Rattle.jlr_machine.specs.declared.object.Object.{Object}
use Rattle.jlr_machine.specs.declared.object.Object.TheVariants.{Plain, Reference, Queue, Cleaner, Cleanable, Guard}
use Rattle.jlr_machine.specs.declared.object.Reference.{Reference as ReferenceOf}
use Rattle.jlr_machine.specs.declared.object.Cleanable.{Cleanable as CleanableOf}
use Rattle.jlr_machine.specs.declared.object.Guard.{Guard as GuardOf}
use Rattle.jlr_machine.specs.declared.machine.Machine.{Machine}
use Rattle.jlr_machine.specs.declared.machine.Session.{Session}
use Rattle.jlr_machine.specs.Objects.{Table, Heap, at, ◌∈◌, as_fields, as_reference, as_members, as_cleanable, as_guard, change_at}
use Rattle.jlr_machine.specs.Objects.{is_fresh, is_unqueued, queue_ahead}
use Rattle.jlr_machine.specs.Edges.{sessions, roots, is_own_root, active_cleanables}
use Rattle.jlr_machine.specs.WellFormed.{IsSessionAt, IsWithinLimits, FitsItsState}
use Rattle.jlr_machine.specs.declared.object.RefState.{RefState}
use Rattle.jlr_machine.specs.declared.object.RefState.TheVariants.{Fresh, Pending, Queued, Removed}
use Rattle.jlr_laws.proofs.Sets.{nothing, in_front, in_cons}
use Rattle.jlr_laws.proofs.Clearing.{in_append, in_left, in_right}
use Rattle.jlr_laws.proofs.Checks.{at_beyond}

-- ---- Options

pub no_some : {A : Type 0} {P : Type 0} (x : A) → ◌≡◌ {A = Option A} None (Some x) → P
no_some x e = absurd (both_ways false refl (ap is_some e))

pub some_same : {A : Type 0} (x y : A) → Some x ≡ Some y → x ≡ y
some_same x y e = ap (λ o. unwrap_or o x) e

-- ---- Limits, and what was seen

pub change_as_long : {A : Type 0} (table : Table A) (n : ℕ) (f : A → A) → length (change_at table n f) ≡ length table
change_as_long table n f = length-set table n (option_map f (at table n))

pub limits_stay : (m n : Machine) → IsWithinLimits m → length n.objects ≡ length m.objects → length n.mutators ≡ length m.mutators
    → IsWithinLimits n
limits_stay m n l cells sessions =
    record { cells = subst (λ k. k ≤ 65536) (sym cells) l.cells; sessions = subst (λ k. k ≤ 64) (sym sessions) l.sessions }

pub seen_stays : (seen : List ℕ) (old new : Heap) → ((s : ℕ) → s ∈ seen → s < length old) → length new ≡ length old → (s : ℕ) → s ∈ seen
    → s < length new
seen_stays seen old new h same s e = subst (λ k. s < k) (sym same) (h s e)

-- ---- Tables

pub set_same : {A : Type 0} (table : Table A) (n : ℕ) (v : Option A) → n < length table → at (slice_set table n v) n ≡ v
set_same table n v l = get_or-set_same table n v None l

pub set_other : {A : Type 0} (table : Table A) (n j : ℕ) (v : Option A) → (j ≡ n → ⊥) → at (slice_set table n v) j ≡ at table j
set_other table n j v d = get_or-set_other table n j v None d

pub place_within : {A : Type 0} (table : Table A) (n : ℕ) (x : A) → at table n ≡ Some x → n < length table
place_within table n x e = elim (cases_lt n (length table)) [ inl l ↦ l | inr b ↦ no_some x (sym (at_beyond table n b) ∙ e) ]

-- what a table with v at n has at j: v, or what it had
pub set_cases : {A : Type 0} (table : Table A) (n j : ℕ) (v : Option A) (x : A) → at (slice_set table n v) j ≡ Some x
    → ((j ≡ n) × (v ≡ Some x)) ⊎ ((j ≡ n → ⊥) × (at table j ≡ Some x))
set_cases table n j v x e = elim (cases_eq j n) [
  | inl same ↦ elim (cases_lt n (length table)) [
    | inl l ↦ inl (same, sym (set_same table n v l) ∙ ap (at (slice_set table n v)) (sym same) ∙ e)
    | inr b ↦
        let long : length (slice_set table n v) ≤ n = subst (λ k. k ≤ n) (sym (length-set table n v)) b in
        no_some x (sym (at_beyond (slice_set table n v) n long) ∙ ap (at (slice_set table n v)) (sym same) ∙ e)
  ]
  | inr other ↦ inr (other, sym (set_other table n j v other) ∙ e)
]

-- ---- An object as one of a kind

pub is_reference_there : (o : Option Object) (r : ReferenceOf) → option_and_then as_reference o ≡ Some r → o ≡ Some (Reference r)
is_reference_there None r e = no_some r e
is_reference_there (Some (Plain fields)) r e = no_some r e
is_reference_there (Some (Reference x)) r e = ap (λ y. Some (Reference y)) (some_same x r e)
is_reference_there (Some (Queue members)) r e = no_some r e
is_reference_there (Some Cleaner) r e = no_some r e
is_reference_there (Some (Cleanable c)) r e = no_some r e
is_reference_there (Some (Guard g)) r e = no_some r e

pub is_queue_there : (o : Option Object) (r : List ℕ) → option_and_then as_members o ≡ Some r → o ≡ Some (Queue r)
is_queue_there None r e = no_some r e
is_queue_there (Some (Plain fields)) r e = no_some r e
is_queue_there (Some (Reference x)) r e = no_some r e
is_queue_there (Some (Queue x)) r e = ap (λ y. Some (Queue y)) (some_same x r e)
is_queue_there (Some Cleaner) r e = no_some r e
is_queue_there (Some (Cleanable c)) r e = no_some r e
is_queue_there (Some (Guard g)) r e = no_some r e

pub is_cleanable_there : (o : Option Object) (r : CleanableOf) → option_and_then as_cleanable o ≡ Some r → o ≡ Some (Cleanable r)
is_cleanable_there None r e = no_some r e
is_cleanable_there (Some (Plain fields)) r e = no_some r e
is_cleanable_there (Some (Reference x)) r e = no_some r e
is_cleanable_there (Some (Queue x)) r e = no_some r e
is_cleanable_there (Some Cleaner) r e = no_some r e
is_cleanable_there (Some (Cleanable x)) r e = ap (λ y. Some (Cleanable y)) (some_same x r e)
is_cleanable_there (Some (Guard g)) r e = no_some r e

pub is_guard_there : (o : Option Object) (r : GuardOf) → option_and_then as_guard o ≡ Some r → o ≡ Some (Guard r)
is_guard_there None r e = no_some r e
is_guard_there (Some (Plain fields)) r e = no_some r e
is_guard_there (Some (Reference x)) r e = no_some r e
is_guard_there (Some (Queue x)) r e = no_some r e
is_guard_there (Some Cleaner) r e = no_some r e
is_guard_there (Some (Cleanable x)) r e = no_some r e
is_guard_there (Some (Guard x)) r e = ap (λ y. Some (Guard y)) (some_same x r e)

pub is_plain_there : (o : Option Object) (r : Contents) → option_and_then as_fields o ≡ Some r → o ≡ Some (Plain r)
is_plain_there None r e = no_some r e
is_plain_there (Some (Plain x)) r e = ap (λ y. Some (Plain y)) (some_same x r e)
is_plain_there (Some (Reference x)) r e = no_some r e
is_plain_there (Some (Queue x)) r e = no_some r e
is_plain_there (Some Cleaner) r e = no_some r e
is_plain_there (Some (Cleanable x)) r e = no_some r e
is_plain_there (Some (Guard x)) r e = no_some r e

-- ---- The queue that a reference may be added to

pub fresh_unqueued : (s : RefState) → is_fresh s ≡ true → is_unqueued s ≡ true
fresh_unqueued Fresh e = refl
fresh_unqueued Pending e = absurd (cc e)
fresh_unqueued Queued e = absurd (cc e)
fresh_unqueued Removed e = absurd (cc e)

-- is its own
pub own_queue : (r : ReferenceOf) (q : ℕ) → queue_ahead r ≡ Some q → r.queue ≡ Some q
own_queue r q e =
    elim (is_unqueued r.state) as (λ b. cond b r.queue None ≡ Some q → r.queue ≡ Some q) [ true ↦ λ e. e | false ↦ λ e. no_some q e ] e

-- and a reference of a well-formed machine that has one may still be added to it
pub still_ahead : (r : ReferenceOf) (s : RefState) (q : ℕ) → FitsItsState r s → r.queue ≡ Some q
    → cond (is_unqueued s) r.queue None ≡ Some q
still_ahead r Fresh q h e = e
still_ahead r Pending q h e = e
still_ahead r Queued q h e = no_some q (sym h.0 ∙ e)
still_ahead r Removed q h e = no_some q (sym h.0 ∙ e)

-- ---- What a table of handles names

pub in_places : (table : Table ℕ) (x : ℕ) → x ∈ filter_map (λ h. h) table → (h : ℕ) × (at table h ≡ Some x)
in_places [] x m = nothing x m
in_places (None ∷ places) x m = let r = in_places places x m in (suc r.0, r.1)
in_places (Some y ∷ places) x m = elim (in_cons x y (filter_map (λ h. h) places) m) [
  | inl same ↦ (0, ap (λ z. Some z) (sym same))
  | inr later ↦ let r = in_places places x later in (suc r.0, r.1)
]

pub from_places : (table : Table ℕ) (h x : ℕ) → at table h ≡ Some x → x ∈ filter_map (λ h. h) table
from_places [] h x e = no_some x e
from_places (None ∷ places) zero x e = no_some x e
from_places (None ∷ places) (suc h) x e = from_places places h x e
from_places (Some y ∷ places) zero x e = in_front x y (filter_map (λ h. h) places) (some_same x y (sym e))
from_places (Some y ∷ places) (suc h) x e = in_right x (y ∷ []) (filter_map (λ h. h) places) (from_places places h x e)

pub in_sessions : (f : Session → List ℕ) (table : Table Session) (x : ℕ) → x ∈ flat_map f (filter_map (λ s. s) table) → (k : ℕ)
    × (s : Session) × (at table k ≡ Some s) × (x ∈ f s)
in_sessions f [] x m = nothing x m
in_sessions f (None ∷ table) x m = let r = in_sessions f table x m in (suc r.0, r.1, r.2, r.3)
in_sessions f (Some s ∷ table) x m = elim (in_append x (f s) (flat_map f (filter_map (λ s. s) table)) m) [
  | inl here ↦ (0, s, refl, here)
  | inr later ↦ let r = in_sessions f table x later in (suc r.0, r.1, r.2, r.3)
]

pub from_sessions : (f : Session → List ℕ) (table : Table Session) (k : ℕ) (s : Session) (x : ℕ) → at table k ≡ Some s → x ∈ f s
    → x ∈ flat_map f (filter_map (λ s. s) table)
from_sessions f [] k s x e m = no_some s e
from_sessions f (None ∷ table) zero s x e m = no_some s e
from_sessions f (None ∷ table) (suc k) s x e m = from_sessions f table k s x e m
from_sessions f (Some t ∷ table) zero s x e m =
    in_left x (f t) (flat_map f (filter_map (λ s. s) table)) (subst (λ s. x ∈ f s) (some_same s t (sym e)) m)
from_sessions f (Some t ∷ table) (suc k) s x e m =
    in_right x (f t) (flat_map f (filter_map (λ s. s) table)) (from_sessions f table k s x e m)

pub in_active : (n : ℕ) (heap : Heap) (x : ℕ) → x ∈ active_cleanables n heap → (i : ℕ) × (x ≡ n + i) × (is_own_root (at heap i) ≡ true)
in_active n [] x m = nothing x m
in_active n (o ∷ places) x m =
    let later : x ∈ active_cleanables (suc n) places → (i : ℕ) × (x ≡ n + i) × (is_own_root (at (o ∷ places) i) ≡ true) =
    λ m. let r = in_active (suc n) places x m in (suc r.0, omega (arith, r.1), r.2) in
    elim (is_own_root o) as (λ b. is_own_root o ≡ b → x ∈ (cond b (n ∷ []) [] ++ active_cleanables (suc n) places) → (i : ℕ) × (x ≡ n + i)
    × (is_own_root (at (o ∷ places) i) ≡ true)) [
      | true ↦ λ e m. elim (in_cons x n (active_cleanables (suc n) places) m) [
        | inl same ↦ (0, omega (arith, same), e)
        | inr m ↦ later m
      ]
      | false ↦ λ e m. later m
    ] refl m

pub from_active : (n : ℕ) (heap : Heap) (x i : ℕ) → x ≡ n + i → is_own_root (at heap i) ≡ true → x ∈ active_cleanables n heap
from_active n [] x i e h = absurd (both_ways false refl h)
from_active n (o ∷ places) x zero e h =
    in_left x (cond (is_own_root o) (n ∷ []) []) (active_cleanables (suc n) places)
    (subst (λ b. x ∈ cond b (n ∷ []) []) (sym h) (in_front x n [] (omega (arith, e))))
from_active n (o ∷ places) x (suc i) e h =
    in_right x (cond (is_own_root o) (n ∷ []) []) (active_cleanables (suc n) places) (from_active (suc n) places x i (omega (arith, e)) h)

-- ---- Roots, one by one

pub data IsRoot (m : Machine) (s : ℕ) : Type 0 where
  held : (k h : ℕ) (session : Session) → IsSessionAt m k session → at session.handles h ≡ Some s → IsRoot m s
  fencing : (k : ℕ) (session : Session) → IsSessionAt m k session → session.fence ≡ Some s → IsRoot m s
  named : s ∈ map (λ b. b.slot) m.names → IsRoot m s
  waiting : s ∈ m.pending → IsRoot m s
  lining : s ∈ m.line → IsRoot m s
  active : is_own_root (at m.objects s) ≡ true → IsRoot m s

in_fences : (s : ℕ) (o : Option ℕ) → s ∈ option_to_list o → o ≡ Some s
in_fences s None h = nothing s h
in_fences s (Some x) h = elim (in_cons s x [] h) [ inl e ↦ ap (λ y. Some y) (sym e) | inr h ↦ nothing s h ]

from_fences : (s : ℕ) (o : Option ℕ) → o ≡ Some s → s ∈ option_to_list o
from_fences s o e = subst (λ o. s ∈ option_to_list o) (sym e) (in_front s s [] refl)

module _ (m : Machine) (s : ℕ) where
  abbrev all_held : List ℕ
  all_held = flat_map (λ s. filter_map (λ h. h) s.handles) (sessions m)

  abbrev all_fences : List ℕ
  all_fences = flat_map (λ s. option_to_list s.fence) (sessions m)

  abbrev all_named : List ℕ
  all_named = map (λ b. b.slot) m.names

  abbrev all_active : List ℕ
  all_active = active_cleanables 0 m.objects

  pub root_gives : s ∈ roots m → IsRoot m s
  root_gives h = elim (in_append s (all_held ++ all_fences ++ all_named ++ m.pending ++ m.line) all_active h) [
    | inr h ↦ let r = in_active 0 m.objects s h in active (subst (λ i. is_own_root (at m.objects i) ≡ true) (omega (arith, r.1)) r.2)
    | inl h ↦ elim (in_append s (all_held ++ all_fences ++ all_named ++ m.pending) m.line h) [
      | inr h ↦ lining h
      | inl h ↦ elim (in_append s (all_held ++ all_fences ++ all_named) m.pending h) [
        | inr h ↦ waiting h
        | inl h ↦ elim (in_append s (all_held ++ all_fences) all_named h) [
          | inr h ↦ named h
          | inl h ↦ elim (in_append s all_held all_fences h) [
            | inr h ↦
                let r = in_sessions (λ s. option_to_list s.fence) m.mutators s h in
                fencing r.0 r.1 r.2 (in_fences s r.1.fence r.3)
            | inl h ↦
                let r = in_sessions (λ s. filter_map (λ h. h) s.handles) m.mutators s h in
                let p = in_places r.1.handles s r.3 in
                held r.0 p.0 r.1 r.2 p.1
          ]
        ]
      ]
    ]
  ]

  from_lists : s ∈ (all_held ++ all_fences ++ all_named) → s ∈ roots m
  from_lists h = in_left s (all_held ++ all_fences ++ all_named ++ m.pending ++ m.line) all_active
      (in_left s (all_held ++ all_fences ++ all_named ++ m.pending) m.line (in_left s (all_held ++ all_fences ++ all_named) m.pending h))

  pub root_from : IsRoot m s → s ∈ roots m
  root_from (held k h session e f) =
      from_lists (in_left s (all_held ++ all_fences) all_named
      (in_left s all_held all_fences (from_sessions (λ s. filter_map (λ h. h) s.handles) m.mutators k session s e
      (from_places session.handles h s f))))
  root_from (fencing k session e f) =
      from_lists (in_left s (all_held ++ all_fences) all_named
      (in_right s all_held all_fences (from_sessions (λ s. option_to_list s.fence) m.mutators k session s e
      (from_fences s session.fence f))))
  root_from (named h) = from_lists (in_right s (all_held ++ all_fences) all_named h)
  root_from (waiting h) =
      in_left s (all_held ++ all_fences ++ all_named ++ m.pending ++ m.line) all_active
      (in_left s (all_held ++ all_fences ++ all_named ++ m.pending) m.line
      (in_right s (all_held ++ all_fences ++ all_named) m.pending h))
  root_from (lining h) =
      in_left s (all_held ++ all_fences ++ all_named ++ m.pending ++ m.line) all_active
      (in_right s (all_held ++ all_fences ++ all_named ++ m.pending) m.line h)
  root_from (active h) =
      in_right s (all_held ++ all_fences ++ all_named ++ m.pending ++ m.line) all_active (from_active 0 m.objects s s (omega arith) h)
