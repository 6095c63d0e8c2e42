-- A grey slot is taken, and a part of its edges is followed.
use Rattle.std.proofs.Common.{◌≡◌, ◌++◌, ◌+◌, arith, ℕ, ◌⊎◌, inl, inr, Bool, true, false, cond, not, List, [], ◌∷◌, Option, Some, None}
use Rattle.std.proofs.Common.{option_and_then, length, get_or, refl, sym, subst, ap, ◌∙◌}
use Rattle.std.specs.Prelude.{nat_eq}
use Rattle.std.proofs.lemmas.List.Sorted.{list_any-IsPermutation}
use Rattle.std.proofs.lemmas.Bool.{cases_eq, false_from_ne_true, not_from_false}
use Rattle.jlr_machine.specs.declared.object.Object.{Object}
use Rattle.jlr_machine.specs.Objects.{any_referent, at, some_and, ◌∈◌}
use Rattle.jlr_laws.proofs.Sets.{in_cons, in_front, in_rest}
use Rattle.jlr_laws.proofs.Clearing.{in_left, in_right}
use Rattle.jlr_laws.proofs.Frames.{no_some, some_same}
use Rattle.jlr_marks.specs.declared.part.Part.{Part}
use Rattle.jlr_marks.specs.Marking.{Marking, IsMarked, Shaded, is_marked, place, place_in}
use Rattle.jlr_barrier.specs.Graphs.{Known}
use Rattle.jlr_barrier.specs.Snapshots.{FitsTogether, IsEdge, IsObject, RefersTo, cycle_of}
use Rattle.jlr_barrier.specs.Parts.{IsInProgress, ahead_at, next_at, part_at}
use Rattle.jlr_barrier.specs.Scans.{FollowedPart, Scanned, ScannedTo, awaits}
use Rattle.jlr_barrier.proofs.Parts.{ahead_edge, at_its_place, begun_by, edge_ahead, next_gives, not_begun, part_edge, split}
use Rattle.jlr_barrier.proofs.Keeping.{snapshot_of_shaded}
use Rattle.jlr_barrier.proofs.Fitting.{marked_or_not}

-- an object that refers to one that is not marked awaits it
awaits_it : (m : Marking) (o : Option Object) (y : ℕ) → option_and_then any_referent o ≡ Some y → is_marked m y ≡ false
    → some_and (awaits m) o ≡ true
awaits_it m None y e off = no_some y e
awaits_it m (Some o) y e off = subst (λ r. some_and (λ x. not (is_marked m x)) r ≡ true) (sym e) (not_from_false (is_marked m y) off)

module _ (k : Known) (a b s : ℕ) (off on : Marking) (f : FitsTogether k a b) (part : FollowedPart k.graph.objects s k.marking off on) where
  abbrev from : ℕ
  from = place k.marking s

  shade : Shaded (λ x. x ∈ part_at k.graph.objects from s) off on
  shade = part.shaded

  in_bits : (l m : List Bool) (x : ℕ) → l ≡ m → get_or l x false ≡ true → get_or m x false ≡ true
  in_bits l m x e h = subst (λ v. get_or v x false ≡ true) e h

  was_marked : (x : ℕ) → IsMarked off x → IsMarked k.marking x
  was_marked x h = in_bits off.bits k.marking.bits x part.same_bits h

  then_marked : (x : ℕ) → IsMarked k.marking x → IsMarked on x
  then_marked x h = shade.kept x (in_bits k.marking.bits off.bits x (sym part.same_bits) h)

  grey_cases : (x : ℕ) → x ∈ k.marking.grey → (x ≡ s) ⊎ (x ∈ off.grey)
  grey_cases x h = in_cons x s off.grey (sym (list_any-IsPermutation (nat_eq x) _ _ part.taken) ∙ h)

  was_grey : (x : ℕ) → x ∈ off.grey → x ∈ k.marking.grey
  was_grey x h = list_any-IsPermutation (nat_eq x) _ _ part.taken ∙ in_rest x s off.grey h

  slot_grey : s ∈ k.marking.grey
  slot_grey = list_any-IsPermutation (nat_eq s) _ _ part.taken ∙ in_front s s off.grey refl

  slot_marked : IsMarked k.marking s
  slot_marked = f.snapshot.grey s slot_grey

  grey_then : (x : ℕ) → x ∈ on.grey → IsMarked on x
  grey_then x h = elim (shade.grey_marked x h) [ inl o ↦ then_marked x (f.snapshot.grey x (was_grey x o)) | inr m ↦ m ]

  -- what is ahead is ahead from the front on
  from_front : (x y : ℕ) → y ∈ ahead_at k.graph.objects (place k.marking x) x → y ∈ ahead_at k.graph.objects 0 x
  from_front x y h = edge_ahead k.graph.objects x y (ahead_edge k.graph.objects (place k.marking x) x y h)

  -- ---- Nothing more is to follow

  module _ (n : Marking) (next : next_at k.graph.objects from s ≡ None) (bits : n.bits ≡ on.bits) (grey : n.grey ≡ on.grey)
      (discovered : n.discovered ≡ on.discovered ++ cond (some_and (awaits on) (at k.graph.objects s)) (s ∷ []) []) (none : n.part ≡ None)
      (objects : (y : ℕ) → IsEdge k.graph.objects s y → IsObject k.graph.objects y) where
    on_new : (x : ℕ) → IsMarked on x → IsMarked n x
    on_new x h = in_bits on.bits n.bits x (sym bits) h

    new_on : (x : ℕ) → IsMarked n x → IsMarked on x
    new_on x h = in_bits n.bits on.bits x bits h

    grey_on : (x : ℕ) → x ∈ on.grey → x ∈ n.grey
    grey_on x h = subst (λ l. x ∈ l) (sym grey) h

    on_grey : (x : ℕ) → x ∈ n.grey → x ∈ on.grey
    on_grey x h = subst (λ l. x ∈ l) grey h

    all_ahead : (x y : ℕ) → y ∈ ahead_at k.graph.objects (place k.marking x) x → y ∈ ahead_at k.graph.objects (place n x) x
    all_ahead x y h = subst (λ o. y ∈ ahead_at k.graph.objects (place_in o x) x) (sym none) (from_front x y h)

    abbrev added_notes : List ℕ
    added_notes = cond (some_and (awaits on) (at k.graph.objects s)) (s ∷ []) []

    noted : (x : ℕ) → x ∈ k.marking.discovered → x ∈ n.discovered
    noted x h = subst (λ l. x ∈ l) (sym discovered) (in_left x on.discovered added_notes
        (subst (λ l. x ∈ l) (sym (shade.discovered_same ∙ part.same_discovered)) h))

    now_noted : (y : ℕ) → RefersTo k.graph.objects s y → is_marked on y ≡ false → s ∈ n.discovered
    now_noted y q white =
        subst (λ l. s ∈ l) (sym discovered)
        (in_right s on.discovered added_notes
        (subst (λ c. s ∈ cond c (s ∷ []) []) (sym (awaits_it on (at k.graph.objects s) y q white)) (in_front s s [] refl)))

    looked : (x y : ℕ) → x ∈ k.marking.grey → RefersTo k.graph.objects x y → (x ∈ n.grey) ⊎ (IsMarked n y ⊎ (x ∈ n.discovered))
    looked x y h q = elim (grey_cases x h) [
      | inl here ↦ elim (marked_or_not on y) [
        | inl m ↦ inr (inl (on_new y m))
        | inr white ↦ inr (inr (subst (λ z. z ∈ n.discovered) (sym here)
            (now_noted y (subst (λ z. RefersTo k.graph.objects z y) here q) (false_from_ne_true (is_marked on y) white))))
      ]
      | inr still ↦ inl (grey_on x (shade.grey_kept x still))
    ]

    followed_all : (y : ℕ) → y ∈ ahead_at k.graph.objects from s → IsMarked n y
    followed_all y h =
        elim (split k.graph.objects from s y h) [ inl now ↦ on_new y (shade.all y now) | inr later ↦ no_some later.0 (sym next ∙ later.1) ]

    pub last_fits : FitsTogether (record k { marking = n }) a b
    last_fits = record {
      few = f.few;
      bits = ap length bits ∙ shade.long ∙ ap length part.same_bits ∙ f.bits;
      ages = f.ages;
      links = f.links;
      two = f.two;
      objects = λ x h. elim (shade.added x (new_on x h)) [
        | inl o ↦ f.objects x (was_marked x o)
        | inr new ↦
            objects x (part_edge k.graph.objects from s x new.0)
      ];
      started = λ q e. no_some q (sym none ∙ e);
      placed = λ q e. no_some q (sym none ∙ e);
      snapshot =
          snapshot_of_shaded (cycle_of k.graph k.marking) (λ x y. y ∈ ahead_at k.graph.objects (place n x) x) (IsMarked n) (λ x. x ∈ n.grey)
          (λ x. x ∈ n.discovered) f.snapshot (marked_or_not k.marking) (marked_or_not n) (λ x h. on_new x (then_marked x h))
          (λ x h. elim (shade.added x (new_on x h)) [ inl o ↦ inl (was_marked x o) | inr new ↦ inr (grey_on x new.1) ])
          (λ x h. on_new x (grey_then x (on_grey x h)))
          (λ x y h e. elim (grey_cases x h) [
            | inl here ↦ inr (followed_all y (subst (λ z. y ∈ ahead_at k.graph.objects (place k.marking z) z) here e))
            | inr still ↦ inl (grey_on x (shade.grey_kept x still), all_ahead x y e)
          ])
          (λ x y white e. all_ahead x y e)
          noted looked;
    }

  -- ---- More is to follow, from the place p on

  module _ (n : Marking) (p : ℕ) (next : next_at k.graph.objects from s ≡ Some p) (bits : n.bits ≡ on.bits) (grey : n.grey ≡ s ∷ on.grey)
      (discovered : n.discovered ≡ on.discovered)
      (begun : n.part ≡ Some (record { slot = s; place = p }))
      (objects : (y : ℕ) → IsEdge k.graph.objects s y → IsObject k.graph.objects y) where
    on_then : (x : ℕ) → IsMarked on x → IsMarked n x
    on_then x h = in_bits on.bits n.bits x (sym bits) h

    then_on : (x : ℕ) → IsMarked n x → IsMarked on x
    then_on x h = in_bits n.bits on.bits x bits h

    still_grey : (x : ℕ) → x ∈ k.marking.grey → x ∈ n.grey
    still_grey x h = subst (λ l. x ∈ l) (sym grey) (elim
        (grey_cases x h) [ inl here ↦ in_front x s on.grey here | inr o ↦ in_rest x s on.grey (shade.grey_kept x o) ])

    now_grey : (x : ℕ) → x ∈ on.grey → x ∈ n.grey
    now_grey x h = subst (λ l. x ∈ l) (sym grey) (in_rest x s on.grey h)

    grey_is : (x : ℕ) → x ∈ n.grey → IsMarked n x
    grey_is x h = elim (in_cons x s on.grey (subst (λ l. x ∈ l) grey h)) [
      | inl here ↦ subst (IsMarked n) (sym here) (on_then s (then_marked s slot_marked))
      | inr o ↦ on_then x (grey_then x o)
    ]

    place_here : place n s ≡ p
    place_here = ap (λ o. place_in o s) begun ∙ at_its_place s p

    place_beside : (x : ℕ) → (x ≡ s → ⊥) → place n x ≡ 0
    place_beside x other = ap (λ o. place_in o x) begun
        ∙ not_begun (Some (record { slot = s; place = p })) x
        (λ q e same. other (sym (ap (λ (r : Part). r.slot) (some_same (record { slot = s; place = p }) q e) ∙ same)))

    beside_ahead : (x y : ℕ) → (x ≡ s → ⊥) → y ∈ ahead_at k.graph.objects (place k.marking x) x → y ∈ ahead_at k.graph.objects (place n x) x
    beside_ahead x y other h = subst (λ q. y ∈ ahead_at k.graph.objects q x) (sym (place_beside x other)) (from_front x y h)

    followed_part : (y : ℕ) → y ∈ ahead_at k.graph.objects from s → (y ∈ ahead_at k.graph.objects (place n s) s) ⊎ IsMarked n y
    followed_part y h = elim (split k.graph.objects from s y h) [
      | inl now ↦ inr (on_then y (shade.all y now))
      | inr later ↦ inl (subst (λ q. y ∈ ahead_at k.graph.objects q s) (some_same later.0 p (sym later.1 ∙ next) ∙ sym place_here) later.2)
    ]

    in_progress : IsInProgress k.graph.objects (record { slot = s; place = p })
    in_progress =
        let g = next_gives (at k.graph.objects s) from p next in
        let whole = begun_by k.graph.objects k.marking.part s f.placed (f.objects s slot_marked) in
        record { elements = g.0; there = g.1; parts = whole.0 + 1; whole = omega (arith, g.2, whole.1); more = g.3 }

    pub part_fits : FitsTogether (record k { marking = n }) a b
    part_fits = record {
      few = f.few;
      bits = ap length bits ∙ shade.long ∙ ap length part.same_bits ∙ f.bits;
      ages = f.ages;
      links = f.links;
      two = f.two;
      objects = λ x h. elim (shade.added x (then_on x h)) [
        | inl o ↦ f.objects x (was_marked x o)
        | inr new ↦
            objects x (part_edge k.graph.objects from s x new.0)
      ];
      started = λ q e. subst (λ l. q.slot ∈ l) (sym grey)
          (in_front q.slot s on.grey (ap (λ (r : Part). r.slot) (some_same q (record { slot = s; place = p }) (sym e ∙ begun))));
      placed = λ q e. subst (IsInProgress k.graph.objects) (some_same (record { slot = s; place = p }) q (sym begun ∙ e)) in_progress;
      snapshot =
          snapshot_of_shaded (cycle_of k.graph k.marking) (λ x y. y ∈ ahead_at k.graph.objects (place n x) x) (IsMarked n) (λ x. x ∈ n.grey)
          (λ x. x ∈ n.discovered) f.snapshot (marked_or_not k.marking) (marked_or_not n) (λ x h. on_then x (then_marked x h))
          (λ x h. elim (shade.added x (then_on x h)) [ inl o ↦ inl (was_marked x o) | inr new ↦ inr (now_grey x new.1) ])
          grey_is
          (λ x y h e. elim (cases_eq x s) [
            | inl here ↦ elim (followed_part y (subst (λ z. y ∈ ahead_at k.graph.objects (place k.marking z) z) here e)) [
              | inl later ↦ inl (still_grey x h, subst (λ z. y ∈ ahead_at k.graph.objects (place n z) z) (sym here) later)
              | inr m ↦ inr m
            ]
            | inr other ↦ inl (still_grey x h, beside_ahead x y other e)
          ])
          (λ x y white e. beside_ahead x y (λ here. white (subst (IsMarked k.marking) (sym here) slot_marked)) e)
          (λ x h. subst (λ l. x ∈ l) (sym (discovered ∙ shade.discovered_same ∙ part.same_discovered)) h)
          (λ x y h q. inl (still_grey x h));
    }

scanned_to : (k : Known) (a b s : ℕ) (n : Marking) (o : Option ℕ) → FitsTogether k a b → next_at k.graph.objects (place k.marking s) s ≡ o
    → ScannedTo o k.graph.objects s k.marking n → ((y : ℕ) → IsEdge k.graph.objects s y → IsObject k.graph.objects y)
    → FitsTogether (record k { marking = n }) a b
scanned_to k a b s n None f next scan objects =
    last_fits k a b s scan.off scan.on f scan.followed n next scan.bits scan.grey scan.discovered scan.part objects
scanned_to k a b s n (Some p) f next scan objects =
    part_fits k a b s scan.off scan.on f scan.followed n p next scan.bits scan.grey scan.discovered scan.part objects

pub scanned_fits : (k : Known) (a b s : ℕ) (n : Marking) → FitsTogether k a b → Scanned k.graph.objects s k.marking n
    → ((y : ℕ) → IsEdge k.graph.objects s y → IsObject k.graph.objects y) → FitsTogether (record k { marking = n }) a b
scanned_fits k a b s n f scan objects = scanned_to k a b s n (next_at k.graph.objects (place k.marking s) s) f refl scan objects
