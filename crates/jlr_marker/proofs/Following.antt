-- Following edges from a base: how it begins, a step, and its end.
use Rattle.std.proofs.Common.{ℕ, suc, length, arith, ◌-◌, ◌<◌, ◌≡◌, ◌⊎◌, Option, Some, None, option_and_then, ap, cond, Bool, true, false}
use Rattle.std.proofs.Common.{IsTrue, is_some, get_or, count_by, List, [], ◌∷◌, ◌++◌, refl, sym, ◌∙◌, subst, inl, inr}
use Rattle.std.proofs.lemmas.Bool.{both_ways}
use Rattle.std.proofs.lemmas.Option.{slice_get-get_or}
use Rattle.jlr_types.specs.declared.RefKind.{RefKind}
use Rattle.jlr_types.specs.declared.RefKind.TheVariants.{Soft, Weak, Phantom}
use Rattle.jlr_machine.specs.Objects.{Heap, at, ◌∈◌}
use Rattle.jlr_machine.specs.Edges.{edges_from, referent}
use Rattle.jlr_machine.specs.Edges.Chain.{Strong, UpToSoft}
use Rattle.jlr_laws.proofs.Clearing.{HasReferent, edge_from, edge_gives, takes}
use Rattle.jlr_laws.proofs.Frames.{no_some, place_within}
use Rattle.jlr_laws.proofs.Sets.{in_front, in_rest, in_cons}
use Rattle.jlr_laws.specs.Laws.{followed, IsPathFollowed}
use Rattle.jlr_marks.specs.declared.part.Part.{Part}
use Rattle.jlr_marks.specs.Marking.{Marking, IsMarked, Shaded, grey_next, place, unmarked, upcoming}
use Rattle.jlr_marks.proofs.Shading.{shaded_same, shaded_then}
use Rattle.jlr_barrier.specs.Parts.{next_at, part_at}
use Rattle.jlr_barrier.specs.Scans.{Scanned, ScannedTo}
use Rattle.jlr_barrier.proofs.Ending.{none_marked}
use Rattle.jlr_marker.specs.Following.{FollowsSlot, IsFollowed, soft_at}

module _ (keeps : ℕ → Bool) (heap : Heap) (B : List ℕ) where
  -- ---- Paths

  pub one_more : (x : ℕ) (path : List ℕ) (y z : ℕ) → IsPathFollowed keeps heap x path y → z ∈ followed keeps heap y
      → IsPathFollowed keeps heap x (path ++ z ∷ []) z
  one_more x [] y z e h = (subst (λ w. z ∈ followed keeps heap w) (sym e) h, refl)
  one_more x (w ∷ path) y z p h = (p.0, one_more w path y z p.1 h)

  pub follows_on : (y z : ℕ) → IsFollowed keeps heap B y → z ∈ followed keeps heap y → IsFollowed keeps heap B z
  follows_on y z f h = (f.0, f.1, f.2 ++ z ∷ [], one_more f.0 f.2 y z f.3 h)

  pub follows_base : (x : ℕ) → x ∈ B → IsFollowed keeps heap B x
  follows_base x h = (x, h, [], refl)

  -- what holds of the base and goes along each followed edge holds of all that is followed
  pub along : (P : ℕ → Type 0) → ((x y : ℕ) → P x → y ∈ followed keeps heap x → P y) → (x : ℕ) (path : List ℕ) (y : ℕ) → P x
      → IsPathFollowed keeps heap x path y → P y
  along P step x [] y p e = subst P e p
  along P step x (z ∷ path) y p h = along P step z path y (step x z p h.0) h.1

  -- where the base is of objects and edges lead to objects, all that is followed is an object
  pub followed_objects : ((x : ℕ) → x ∈ B → IsTrue (is_some (at heap x)))
      → ((x y : ℕ) → y ∈ followed keeps heap x → IsTrue (is_some (at heap y))) → (x : ℕ) → IsFollowed keeps heap B x
      → IsTrue (is_some (at heap x))
  followed_objects base edges x f = along (λ y. IsTrue (is_some (at heap y))) (λ a b h t. edges a b t) f.0 f.2 x (base f.0 f.1) f.3

-- where none is marked, the count is 0
pub none_counted : (bits : List Bool) → ((x : ℕ) → get_or bits x false ≡ true → ⊥) → count_by (λ b. b) bits ≡ 0
none_counted [] none = refl
none_counted (true ∷ bits) none = absurd (none 0 refl)
none_counted (false ∷ bits) none = none_counted bits (λ x h. none (suc x) h)

-- ---- Strong edges are followed, and with them the soft ones that are kept

pub strong_is_followed : (keeps : ℕ → Bool) (heap : Heap) (s t : ℕ) → t ∈ edges_from Strong heap s → t ∈ followed keeps heap s
strong_is_followed keeps heap s t h =
    elim (keeps s) as (λ b. t ∈ edges_from (cond b UpToSoft Strong) heap s) [
      | true ↦ elim (edge_gives Strong heap s t h) [
        | inl e ↦ edge_from UpToSoft heap s t (inl e)
        | inr r ↦
            absurd (both_ways false refl r.1)
      ]
      | false ↦ h
    ]

pub followed_is_soft : (keeps : ℕ → Bool) (heap : Heap) (s t : ℕ) → t ∈ followed keeps heap s → t ∈ edges_from UpToSoft heap s
followed_is_soft keeps heap s t h =
    elim (keeps s) as (λ b. t ∈ edges_from (cond b UpToSoft Strong) heap s → t ∈ edges_from UpToSoft heap s) [
      | true ↦ λ h. h
      | false ↦ λ h. elim (edge_gives Strong heap s t h) [
        | inl e ↦ edge_from UpToSoft heap s t (inl e)
        | inr r ↦
            absurd (both_ways false refl r.1)
      ]
    ] h

-- the soft edge of a soft reference
pub soft_edge : (heap : Heap) (s t : ℕ) → soft_at heap s ≡ Some t → t ∈ edges_from UpToSoft heap s
soft_edge heap s t e =
    elim (at heap s) as (λ o. at heap s ≡ o → option_and_then (referent Soft) o ≡ Some t → t ∈ edges_from UpToSoft heap s) [
      | None ↦ λ there h. no_some t h
      | Some o ↦ λ there h. edge_from UpToSoft heap s t (inr (Soft, refl, (o, there, h)))
    ] refl e

pub followed_from : (keeps : ℕ → Bool) (heap : Heap) (s t : ℕ) → (t ∈ edges_from Strong heap s)
    ⊎ ((keeps s ≡ true) × (soft_at heap s ≡ Some t)) → t ∈ followed keeps heap s
followed_from keeps heap s t h = elim h [
  | inl e ↦ strong_is_followed keeps heap s t e
  | inr k ↦ subst (λ b. t ∈ edges_from (cond b UpToSoft Strong) heap s) (sym k.0) (soft_edge heap s t k.1)
]

soft_gives : (kind : RefKind) → takes UpToSoft kind ≡ true → (heap : Heap) (s t : ℕ) → HasReferent kind heap s t → soft_at heap s ≡ Some t
soft_gives Soft e heap s t h = ap (option_and_then (referent Soft)) h.1 ∙ h.2
soft_gives Weak e heap s t h = absurd (both_ways false refl e)
soft_gives Phantom e heap s t h = absurd (both_ways false refl e)

pub followed_gives : (keeps : ℕ → Bool) (heap : Heap) (s t : ℕ) → t ∈ followed keeps heap s → (t ∈ edges_from Strong heap s)
    ⊎ ((keeps s ≡ true) × (soft_at heap s ≡ Some t))
followed_gives keeps heap s t h =
    elim (keeps s) as (λ b. keeps s ≡ b → t ∈ edges_from (cond b UpToSoft Strong) heap s → (t ∈ edges_from Strong heap s)
    ⊎ ((keeps s ≡ true) × (soft_at heap s ≡ Some t))) [
      | true ↦ λ e h. elim (edge_gives UpToSoft heap s t h) [
        | inl k ↦ inl (edge_from Strong heap s t (inl k))
        | inr k ↦ inr (e, soft_gives k.0 k.1 heap s t k.2)
      ]
      | false ↦ λ e h. inl h
    ] refl h

-- an object lies within the heap
pub object_within : (heap : Heap) (s : ℕ) → IsTrue (is_some (at heap s)) → s < length heap
object_within heap s h = elim (at heap s) as (λ o. at heap s ≡ o → IsTrue (is_some o) → s < length heap) [
  | None ↦
      λ e h. absurd (both_ways false refl h)
  | Some o ↦ λ e h. place_within heap s o e
] refl h

-- ---- A grey slot is followed

-- the slot may stand in front all the while
shaded_front : (T : ℕ → Type 0) (slot : ℕ) (off on : Marking) (discovered : List ℕ) (part : Option Part) → Shaded T off on
    → Shaded T (record { bits = off.bits; grey = slot ∷ off.grey; discovered = discovered; part = part })
    (record { bits = on.bits; grey = slot ∷ on.grey; discovered = discovered; part = part })
shaded_front T slot off on discovered part s = record {
  long = s.long;
  kept = s.kept;
  added = λ x h. elim (s.added x h) [ inl o ↦ inl o | inr n ↦ inr (n.0, in_rest x slot on.grey n.1) ];
  grey_kept = λ x h. elim (in_cons x slot off.grey h) [
    | inl here ↦ in_front x slot on.grey here
    | inr o ↦
        in_rest x slot on.grey (s.grey_kept x o)
  ];
  grey_marked = λ x h. elim (in_cons x slot on.grey h) [
    | inl here ↦ inl (in_front x slot off.grey here)
    | inr o ↦ elim (s.grey_marked x o) [ inl z ↦ inl (in_rest x slot off.grey z) | inr z ↦ inr z ]
  ];
  fresh = λ x h. elim (in_cons x slot on.grey h) [
    | inl here ↦ inl (in_front x slot off.grey here)
    | inr o ↦ elim (s.fresh x o) [ inl z ↦ inl (in_rest x slot off.grey z) | inr z ↦ inr z ]
  ];
  all = s.all;
  black_same = omega (arith, s.black_same);
  discovered_same = refl;
  part_same = refl;
}

-- the marks with another list of discovered ones, and another part
abbrev beside : Marking → List ℕ → Option Part → Marking
beside m discovered part = record { bits = m.bits; grey = m.grey; discovered = discovered; part = part }

shaded_beside : (T : ℕ → Type 0) (off on : Marking) (discovered : List ℕ) (part : Option Part) → Shaded T off on
    → Shaded T (beside off discovered part) (beside on discovered part)
shaded_beside T off on discovered part s = record {
  long = s.long;
  kept = s.kept;
  added = s.added;
  grey_kept = s.grey_kept;
  grey_marked = s.grey_marked;
  fresh = s.fresh;
  all = s.all;
  black_same = s.black_same;
  discovered_same = refl;
  part_same = refl;
}

pub same_marking : (m n : Marking) → m.bits ≡ n.bits → m.grey ≡ n.grey → m.discovered ≡ n.discovered → m.part ≡ n.part → m ≡ n
same_marking m n eb eg ed ep =
    let with_bits : List Bool → Marking = λ b. record { bits = b; grey = m.grey; discovered = m.discovered; part = m.part } in
    let with_grey : List ℕ → Marking = λ g. record { bits = n.bits; grey = g; discovered = m.discovered; part = m.part } in
    let with_discovered : List ℕ → Marking = λ d. record { bits = n.bits; grey = n.grey; discovered = d; part = m.part } in
    let with_part : Option Part → Marking = λ p. record { bits = n.bits; grey = n.grey; discovered = n.discovered; part = p } in
    ap with_bits eb ∙ ap with_grey eg ∙ ap with_discovered ed ∙ ap with_part ep

scanned_to : (more : Option ℕ) (heap : Heap) (slot : ℕ) (old new : Marking) → ScannedTo more heap slot old new
    → FollowsSlot (λ x. x ∈ part_at heap (place old slot) slot) slot more old new
scanned_to None heap slot old new scan =
    let f = scan.followed in
    let after : Marking = beside scan.on new.discovered None in
    record {
      rest = scan.off.grey;
      off = beside scan.off new.discovered None;
      same_bits = f.same_bits;
      taken = f.taken;
      gone = f.gone;
      grey = refl;
      part = refl;
      shaded = subst (Shaded (λ x. x ∈ part_at heap (place old slot) slot) (beside scan.off new.discovered None))
          (sym (same_marking new after scan.bits scan.grey refl scan.part))
          (shaded_beside (λ x. x ∈ part_at heap (place old slot) slot) scan.off scan.on new.discovered None f.shaded);
    }
scanned_to (Some p) heap slot old new scan =
    let f = scan.followed in
    let here : Option Part = Some (record { slot = slot; place = p }) in
    let front : Marking → Marking = λ m. record { bits = m.bits; grey = slot ∷ m.grey; discovered = new.discovered; part = here } in
    record {
      rest = scan.off.grey;
      off = front scan.off;
      same_bits = f.same_bits;
      taken = f.taken;
      gone = f.gone;
      grey = refl;
      part = refl;
      shaded = subst (Shaded (λ x. x ∈ part_at heap (place old slot) slot) (front scan.off))
          (sym (same_marking new (front scan.on) scan.bits scan.grey refl scan.part))
          (shaded_front (λ x. x ∈ part_at heap (place old slot) slot) slot scan.off scan.on new.discovered here f.shaded);
    }

pub scanned_follows : (heap : Heap) (slot : ℕ) (old new : Marking) → Scanned heap slot old new
    → FollowsSlot (λ x. x ∈ part_at heap (place old slot) slot) slot (next_at heap (place old slot) slot) old new
scanned_follows heap slot old new scan = scanned_to (next_at heap (place old slot) slot) heap slot old new scan

-- what is followed may be said in other words, and more may be shaded after it
pub follows_same : (T U : ℕ → Type 0) (slot : ℕ) (more : Option ℕ) (old new : Marking) → ((x : ℕ) → T x → U x) → ((x : ℕ) → U x → T x)
    → FollowsSlot T slot more old new → FollowsSlot U slot more old new
follows_same T U slot more old new to from f = record {
  rest = f.rest;
  off = f.off;
  same_bits = f.same_bits;
  taken = f.taken;
  gone = f.gone;
  grey = f.grey;
  part = f.part;
  shaded = shaded_same T U to from f.off new f.shaded;
}

pub follows_then : (T U : ℕ → Type 0) (slot : ℕ) (more : Option ℕ) (old mid new : Marking) → FollowsSlot T slot more old mid
    → Shaded U mid new
    → FollowsSlot (λ x. T x ⊎ U x) slot more old new
follows_then T U slot more old mid new f s = record {
  rest = f.rest;
  off = f.off;
  same_bits = f.same_bits;
  taken = f.taken;
  gone = f.gone;
  grey = f.grey;
  part = f.part;
  shaded = shaded_then T U f.off mid new f.shaded s;
}

-- where none comes next, none is grey
none_next : (part : Option Part) (grey : List ℕ) → grey_next part grey ≡ None → grey ≡ []
none_next (Some p) grey e = no_some p.slot (sym e)
none_next None [] e = refl
none_next None (x ∷ grey) e =
    let i = length (x ∷ grey) - 1 in
    no_some (get_or (x ∷ grey) i 0) (sym e ∙ slice_get-get_or (x ∷ grey) i 0 (omega arith))

pub none_upcoming : (m : Marking) → upcoming m ≡ None → m.grey ≡ []
none_upcoming m e = none_next m.part m.grey e

pub none_in_unmarked : (n x : ℕ) → ¬ (IsMarked (unmarked n) x)
none_in_unmarked n x h = none_marked n x h
