-- Asks that add no root that was not seen.
use Rattle.std.proofs.Common.{◌≡◌, ℕ, true, false, List, [], ◌⊎◌, inl, inr, length, refl, sym, ◌∙◌, ap, subst, Option, Some, None}
use Rattle.std.proofs.lemmas.Bool.{both_ways}
use Rattle.jlr_types.specs.declared.FieldValue.{FieldValue}
use Rattle.jlr_types.specs.declared.FieldValue.TheVariants.{Int as IntValue, Ref as RefValue}
use Rattle.jlr_machine.specs.declared.object.Object.{Object}
use Rattle.jlr_machine.specs.declared.object.Object.TheVariants.{Plain, Reference, Queue, Cleaner, Cleanable, Guard}
use Rattle.jlr_machine.specs.declared.machine.Machine.{Machine}
use Rattle.jlr_machine.specs.declared.machine.Session.{Session}
use Rattle.jlr_machine.specs.declared.ask.Ask.{Ask}
use Rattle.jlr_machine.specs.declared.ask.Ask.TheVariants.{Put, Get, SetInt, Int, Dup, Drop, Same, Deref, Refers, Enqueued, Find, Names}
use Rattle.jlr_machine.specs.declared.ask.Ask.TheVariants.{Full, Stat, Notes, Faults, Collect}
use Rattle.jlr_machine.specs.declared.ask.Answer.{Answer}
use Rattle.jlr_machine.specs.Objects.{at, set_at, empty_at, ◌∈◌, with_field}
use Rattle.jlr_machine.specs.Edges.{roots, is_own_root, edges_from}
use Rattle.jlr_machine.specs.Edges.Chain.{UpToSoft}
use Rattle.jlr_machine.specs.Lookups.{on, with_session, with_object, with_handle, free_handle, slot_named}
use Rattle.jlr_machine.specs.Refusals.{given}
use Rattle.jlr_machine.specs.Calls.{after, with_given}
use Rattle.jlr_laws.proofs.Sets.{nothing}
use Rattle.jlr_laws.proofs.Frames.{no_some, some_same, set_cases, change_as_long, root_gives, root_from, IsRoot}
use Rattle.jlr_laws.proofs.Frames.IsRoot.{held, fencing, named, waiting, lining, active}
use Rattle.jlr_laws.proofs.SessionsKept.{change_back}
use Rattle.jlr_histories.proofs.Added.{adds_edges}
use Rattle.jlr_plain.specs.Following.{is_seen_given, adds_no_root}

pub record IsSmall (m d : Machine) : Type 0 where
  pub seen : d.seen ≡ m.seen
  pub still : d.cycle_open ≡ m.cycle_open
  pub cells : length d.objects ≡ length m.objects
  pub base : (s : ℕ) → s ∈ roots d → (s ∈ roots m) ⊎ (s ∈ m.seen)
  pub edges : (x y : ℕ) → y ∈ edges_from UpToSoft d.objects x → (y ∈ edges_from UpToSoft m.objects x) ⊎ ((y ∈ roots m) ⊎ (y ∈ roots d))

pub small_same : (m : Machine) → IsSmall m m
small_same m = record { seen = refl; still = refl; cells = refl; base = λ s h. inl h; edges = λ x y h. inl h }

-- ---- Changes of a session's handles

module _ (m : Machine) (k : ℕ) (f : Session → Session) (same_fence : (s : Session) → (f s).fence ≡ s.fence)
    (holds : (s : Session) (h x : ℕ) → at (f s).handles h ≡ Some x → (at s.handles h ≡ Some x) ⊎ (x ∈ m.seen)) where
  held_before : (j h x : ℕ) (t : Session) → at (with_session m k f).mutators j ≡ Some t → at t.handles h ≡ Some x → (x ∈ roots m)
      ⊎ (x ∈ m.seen)
  held_before j h x t e p =
      let back = change_back m.mutators k j f t e in
      elim back.2 [
        | inl here ↦ elim (holds back.0 h x (ap (λ (y : Session). at y.handles h) here.1 ∙ p)) [
          | inl was ↦ inl (root_from m x (held j h back.0 back.1 was))
          | inr seen ↦ inr seen
        ]
        | inr other ↦ inl (root_from m x (held j h back.0 back.1 (ap (λ (y : Session). at y.handles h) other.1 ∙ p)))
      ]

  fenced_before : (j x : ℕ) (t : Session) → at (with_session m k f).mutators j ≡ Some t → t.fence ≡ Some x → x ∈ roots m
  fenced_before j x t e p =
      let back = change_back m.mutators k j f t e in
      elim back.2 [
        | inl here ↦ root_from m x (fencing j back.0 back.1 (sym (same_fence back.0) ∙ ap (λ (y : Session). y.fence) here.1 ∙ p))
        | inr other ↦ root_from m x (fencing j back.0 back.1 (ap (λ (y : Session). y.fence) other.1 ∙ p))
      ]

  root_before : (x : ℕ) → IsRoot (with_session m k f) x → (x ∈ roots m) ⊎ (x ∈ m.seen)
  root_before x (held j h t e p) = held_before j h x t e p
  root_before x (fencing j t e p) = inl (fenced_before j x t e p)
  root_before x (named h) = inl (root_from m x (named h))
  root_before x (waiting h) = inl (root_from m x (waiting h))
  root_before x (lining h) = inl (root_from m x (lining h))
  root_before x (active h) = inl (root_from m x (active h))

  pub small_session : IsSmall m (with_session m k f)
  small_session = record {
    seen = refl;
    still = refl;
    cells = refl;
    base = λ s h. root_before s (root_gives (with_session m k f) s h);
    edges = λ x y h. inl h;
  }

small_handle : (m : Machine) (k s : ℕ) → s ∈ m.seen → IsSmall m (with_handle m k s)
small_handle m k s seen =
    small_session m k (λ session. record session { handles = set_at session.handles (free_handle session) s }) (λ t. refl)
    (λ t h x e. elim (set_cases t.handles (free_handle t) h (Some s) x e) [
      | inl here ↦ inr (subst (λ y. y ∈ m.seen) (some_same s x here.1) seen)
      | inr there ↦ inl there.1
    ])

small_drop : (m : Machine) (k h : ℕ) → IsSmall m (with_session m k (λ s. record s { handles = empty_at s.handles h }))
small_drop m k h =
    small_session m k (λ s. record s { handles = empty_at s.handles h }) (λ t. refl)
    (λ t j x e. elim (set_cases t.handles h j None x e) [ inl here ↦ no_some x here.1 | inr there ↦ inl there.1 ])

small_given : (m : Machine) (k : ℕ) (o : Option ℕ) → is_seen_given m.seen o ≡ true → IsSmall m (with_given m k o)
small_given m k None e = small_same m
small_given m k (Some s) e = small_handle m k s e

-- ---- Changes of a field

field_root : (f : ℕ) (v : FieldValue) (o : Object) → is_own_root (Some (with_field f v o)) ≡ is_own_root (Some o)
field_root f v (Plain fields) = refl
field_root f v (Reference r) = refl
field_root f v (Queue members) = refl
field_root f v Cleaner = refl
field_root f v (Cleanable c) = refl
field_root f v (Guard g) = refl

module _ (m : Machine) (s f : ℕ) (v : FieldValue) where
  active_before : (x : ℕ) (o : Option Object) → at (with_object m s (with_field f v)).objects x ≡ o → is_own_root o ≡ true
      → is_own_root (at m.objects x) ≡ true
  active_before x None e h = absurd (both_ways false refl h)
  active_before x (Some o) e h =
      let back = change_back m.objects s x (with_field f v) o e in
      ap is_own_root back.1
      ∙ elim back.2 as (λ _. is_own_root (Some back.0) ≡ true) [
        | inl here ↦ sym (field_root f v back.0) ∙ ap (λ p. is_own_root (Some p)) here.1 ∙ h
        | inr other ↦ ap (λ p. is_own_root (Some p)) other.1 ∙ h
      ]

  rooted_before : (x : ℕ) → IsRoot (with_object m s (with_field f v)) x → IsRoot m x
  rooted_before x (held j h t e p) = held j h t e p
  rooted_before x (fencing j t e p) = fencing j t e p
  rooted_before x (named h) = named h
  rooted_before x (waiting h) = waiting h
  rooted_before x (lining h) = lining h
  rooted_before x (active h) = active (active_before x (at (with_object m s (with_field f v)).objects x) refl h)

abbrev AddsNoEdge : Machine → Machine → Type 0
AddsNoEdge m d = (x y : ℕ) → y ∈ edges_from UpToSoft d.objects x → (y ∈ edges_from UpToSoft m.objects x) ⊎ ((y ∈ roots m) ⊎ (y ∈ roots d))

small_field : (m : Machine) (o : Option ℕ) (f : ℕ) (v : FieldValue) → AddsNoEdge m (on o (λ s. with_object m s (with_field f v)) m)
    → IsSmall m (on o (λ s. with_object m s (with_field f v)) m)
small_field m None f v adds = small_same m
small_field m (Some s) f v adds = record {
  seen = refl;
  still = refl;
  cells = change_as_long m.objects s (with_field f v);
  base = λ x h. inl (root_from m x (rooted_before m s f v x (root_gives (with_object m s (with_field f v)) x h)));
  edges = adds;
}

-- ---- All together

pub small : (m : Machine) (ask : Ask) (a : Answer) (fresh : List ℕ) → adds_no_root m ask ≡ true → IsSmall m (after m ask a fresh)
small m (Put k h f v) a fresh e =
    small_field m (slot_named m k h) f (RefValue (slot_named m k v)) (adds_edges m (Put k h f v) a [] (λ s n. nothing s n))
small m (Get k h f) a fresh e = small_given m k (given m (Get k h f)) e
small m (SetInt k h f n) a fresh e =
    small_field m (slot_named m k h) f (IntValue n) (adds_edges m (SetInt k h f n) a [] (λ s n. nothing s n))
small m (Int k h f) a fresh e = small_same m
small m (Dup k h) a fresh e = small_given m k (given m (Dup k h)) e
small m (Drop k h) a fresh e = small_drop m k h
small m (Same k x y) a fresh e = small_same m
small m (Deref k r) a fresh e = small_given m k (given m (Deref k r)) e
small m (Refers k r h) a fresh e = small_same m
small m (Enqueued k r) a fresh e = small_same m
small m (Find k name) a fresh e = small_given m k (given m (Find k name)) e
small m (Names k) a fresh e = small_same m
small m (Full k mode) a fresh e = small_same m
small m (Stat k) a fresh e = small_same m
small m (Notes k) a fresh e = small_same m
small m (Faults k) a fresh e = small_same m
small m Collect a fresh e = small_same m
small m _ a fresh e = absurd (both_ways false refl e)
