-- Which objects fit in place of none, of a plain object, of a reference and of a queue.
use Rattle.std.proofs.Common.{◌≡◌, ℕ, zero, suc, ◌<◌, true, false, List, [], ◌∷◌, length, refl, sym, ◌∙◌, ap, subst, ◌⊎◌, inl, inr, arith}
use Rattle.std.proofs.Common.{Option, Some, None, option_map, option_and_then, is_some, slice_set, filter_map, slice_get}
use Rattle.std.specs.List.{list_all, cons_option}
use Rattle.std.proofs.lemmas.Bool.{both_ways, and_parts}
use Rattle.jlr_types.specs.declared.FieldValue.{FieldValue}
use Rattle.jlr_types.specs.declared.FieldValue.TheVariants.{Int as IntValue, Ref as RefValue}
use Rattle.jlr_machine.specs.declared.object.Contents.{Contents}
use Rattle.jlr_machine.specs.declared.object.Contents.TheVariants.{Typed, Elements}
use Rattle.jlr_machine.specs.declared.object.Object.{Object}
use Rattle.jlr_machine.specs.declared.object.Object.TheVariants.{Plain, Reference, Queue}
use Rattle.jlr_machine.specs.declared.object.Reference.{Reference as ReferenceOf}
use Rattle.jlr_machine.specs.declared.object.RefState.TheVariants.{Fresh, Pending, Queued, Removed}
use Rattle.jlr_machine.specs.declared.object.CleanState.TheVariants.{Pending as PendingClean, Spent}
use Rattle.jlr_machine.specs.declared.machine.Machine.{Machine}
use Rattle.jlr_machine.specs.declared.machine.Session.{Session}
use Rattle.jlr_machine.specs.declared.machine.Call.TheVariants.{Free}
use Rattle.jlr_machine.specs.Objects.{Heap, at, ◌∈◌, is_distinct, as_fields, as_reference, as_members, as_cleanable, as_guard, any_referent}
use Rattle.jlr_machine.specs.Objects.{queue_ahead, with_value}
use Rattle.jlr_machine.specs.Edges.{edges, slot_in, slots_in, strong_edges}
use Rattle.jlr_machine.specs.Lookups.{with_new, with_object, with_handle}
use Rattle.jlr_machine.specs.Run.{is_free, IsFresh}
use Rattle.jlr_machine.specs.WellFormed.{IsObjectAt, IsReferenceAt, IsQueueAt, IsSessionAt, IsWellFormed, FitsItsState, IsPrivate}
use Rattle.jlr_machine.specs.Edges.Chain.{UpToPhantom}
use Rattle.jlr_laws.proofs.Sets.{nothing, in_front, in_rest, in_cons}
use Rattle.jlr_laws.proofs.Clearing.{one_of, edge_from, referent_is, some_kind, in_option}
use Rattle.jlr_laws.proofs.Frames.{own_queue, no_some, some_same, set_same, place_within, waiting, root_from}
use Rattle.jlr_laws.proofs.ObjectsKept.{IsFit, keeps_new, IsPendingKind}
use Rattle.jlr_laws.proofs.SessionsKept.{keeps_handle}

-- an object changed in place is a new one there
pub changed_is_new : (m : Machine) (s : ℕ) (f : Object → Object) (o : Object) → at m.objects s ≡ Some o
    → with_object m s f ≡ with_new m s (f o)
changed_is_new m s f o e = ap {A = Option Object} {B = Machine} (λ p. record m { objects = slice_set m.objects s (option_map f p) }) e

-- an edge is strong, or the referent
pub edge_split : (o : Object) (x : ℕ) → x ∈ edges UpToPhantom o → (x ∈ strong_edges o) ⊎ (any_referent o ≡ Some x)
edge_split o x h = elim (one_of UpToPhantom o x h) [ inl s ↦ inl s | inr r ↦ inr (referent_is r.0 o x r.2) ]

pub strong_object : (m : Machine) → IsWellFormed m → (s x : ℕ) (o : Object) → at m.objects s ≡ Some o → x ∈ strong_edges o → IsObjectAt m x
strong_object m w s x o e h = w.slots.edges s x (edge_from UpToPhantom m.objects s x (inl (o, e, h)))

pub queue_object : (m : Machine) → IsWellFormed m → (s q : ℕ) (r : ReferenceOf) → IsReferenceAt m s r → r.queue ≡ Some q → IsObjectAt m q
queue_object m w s q r e f = ap is_some (w.slots.queues s q r e f).1

pub referent_object : (m : Machine) → IsWellFormed m → (s x : ℕ) (o : Object) → at m.objects s ≡ Some o → any_referent o ≡ Some x
    → IsObjectAt m x
referent_object m w s x o e h = let k = some_kind o x h in
    w.slots.edges s x (edge_from UpToPhantom m.objects s x (inr (k.0, refl, (o, e, k.1))))

abbrev pub Shown : Machine → ℕ → Type 0
Shown m x = IsObjectAt m x × ¬ (IsPrivate m x)

-- ---- A new object in a free slot

pub free_is : (heap : Heap) (s : ℕ) → is_free heap s ≡ true → (s < length heap) × (at heap s ≡ None)
free_is [] s e = absurd (both_ways false refl e)
free_is (None ∷ places) zero e = (omega arith, refl)
free_is (Some o ∷ places) zero e = absurd (both_ways false refl e)
free_is (o ∷ places) (suc s) e = let r = free_is places s e in (omega (arith, r.0), r.1)

pub fresh_one : (heap : Heap) (fresh : List ℕ) → IsFresh heap 1 fresh → (s : ℕ) × (slice_get fresh 0 ≡ Some s) × (s < length heap)
    × (at heap s ≡ None)
fresh_one heap [] f = absurd (omega (arith, f.count))
fresh_one heap (s ∷ fresh) f = let r = free_is heap s (and_parts (is_free heap s) (list_all (is_free heap) fresh) f.free).0 in
    (s, refl, r.0, r.1)

pub record IsNew (m : Machine) (o : Object) : Type 0 where
  pub new_cleanable : as_cleanable o ≡ None
  pub new_guard : as_guard o ≡ None
  pub edges : (x : ℕ) → x ∈ edges UpToPhantom o → IsObjectAt m x
  pub queue_fits : (q : ℕ) (r : ReferenceOf) → as_reference o ≡ Some r → r.queue ≡ Some q → (xs : List ℕ) × IsQueueAt m q xs
  pub fresh : (r : ReferenceOf) → as_reference o ≡ Some r → r.state ≡ Fresh
  pub public_referent : (x : ℕ) (r : ReferenceOf) → as_reference o ≡ Some r → r.referent ≡ Some x → ¬ (IsPrivate m x)
  pub empty : (xs : List ℕ) → as_members o ≡ Some xs → xs ≡ []
  pub public_fields : (x : ℕ) (fields : Contents) → as_fields o ≡ Some fields → x ∈ slots_in fields → ¬ (IsPrivate m x)

module _ (m : Machine) (s : ℕ) (o : Object) (w : IsWellFormed m) (f : IsNew m o) (inside : s < length m.objects)
    (free : at m.objects s ≡ None) where
  no_object : {P : Type 0} → IsObjectAt m s → P
  no_object h = absurd (both_ways false refl (sym (ap is_some free) ∙ h))

  pub new_fits : IsFit m s o
  new_fits =
      record {
        inside = inside;
        old_cleanable = ap (option_and_then as_cleanable) free;
        old_guard = ap (option_and_then as_guard) free;
        new_cleanable = f.new_cleanable;
        new_guard = f.new_guard;
        edges = f.edges;
        queue_stays = λ xs e. no_some (Queue xs) (sym free ∙ e);
        queued_stays = λ q xs e h. let r = w.references.members q s xs e h in no_some (Reference r.0) (sym free ∙ r.1);
        pending_stays = λ h. no_object (w.slots.roots s (root_from m s (waiting h)));
        queue_fits = f.queue_fits;
        state_fits = λ r e. subst (FitsItsState r) (sym (f.fresh r e)) tt;
        pending_there = λ r e g. let a : Fresh ≡ Pending = sym (f.fresh r e) ∙ g in absurd (cc a);
        public_referent = f.public_referent;
        members = λ t xs e h. nothing t (subst (λ l. t ∈ l) (f.empty xs e) h);
        once = λ xs e. subst (λ l. is_distinct l ≡ true) (sym (f.empty xs e)) refl;
        in_one = λ t p xs ys e h. nothing t (subst (λ l. t ∈ l) (f.empty xs e) h);
        public_fields = f.public_fields;
      }

  new_shown : ¬ (IsPrivate (with_new m s o) s)
  new_shown (inl p) = no_some p.0 (sym f.new_cleanable ∙ ap as_cleanable (some_same o _ (sym (set_same m.objects s (Some o) inside) ∙ p.2)))
  new_shown (inr p) = no_some p.0 (sym f.new_guard ∙ ap as_guard (some_same o _ (sym (set_same m.objects s (Some o) inside) ∙ p.2)))

  pub keeps_made : (k : ℕ) → ((session : Session) → IsSessionAt m k session → session.call ≡ Free)
      → IsWellFormed (with_handle (with_new m s o) k s)
  keeps_made k idle =
      keeps_handle (with_new m s o) (keeps_new m s o w new_fits) k s (ap is_some (set_same m.objects s (Some o) inside)) new_shown idle

-- ---- A plain object in place of another

pub in_more : (o : Option ℕ) (x : ℕ) (xs : List ℕ) → x ∈ xs → x ∈ cons_option o xs
in_more None x xs h = h
in_more (Some y) x xs h = in_rest x y xs h

pub no_kind : {P : Type 0} → IsPendingKind None None → P
no_kind (inl e) = no_some Pending e
no_kind (inr (inl e)) = no_some Queued e
no_kind (inr (inr (inl e))) = no_some Removed e
no_kind (inr (inr (inr (inl e)))) = no_some PendingClean e
no_kind (inr (inr (inr (inr e)))) = no_some Spent e

in_set_fields : (fields : List FieldValue) (i : ℕ) (v : FieldValue) (x : ℕ) → x ∈ filter_map slot_in (slice_set fields i v)
    → (x ∈ filter_map slot_in fields) ⊎ (slot_in v ≡ Some x)
in_set_fields [] i v x h = nothing x h
in_set_fields (f ∷ fields) zero v x h =
    elim (slot_in v) as (λ o. slot_in v ≡ o → x ∈ cons_option o (filter_map slot_in fields) → (x ∈ filter_map slot_in (f ∷ fields))
    ⊎ (slot_in v ≡ Some x)) [
      | None ↦ λ e h. inl (in_more (slot_in f) x (filter_map slot_in fields) h)
      | Some y ↦ λ e h. elim (in_cons x y (filter_map slot_in fields) h) [
        | inl same ↦ inr (e ∙ ap (λ z. Some z) (sym same))
        | inr later ↦ inl (in_more (slot_in f) x (filter_map slot_in fields) later)
      ]
    ] refl h
in_set_fields (f ∷ fields) (suc i) v x h =
    elim (slot_in f) as (λ o. x ∈ cons_option o (filter_map slot_in (slice_set fields i v))
    → (x ∈ cons_option o (filter_map slot_in fields)) ⊎ (slot_in v ≡ Some x)) [
      | None ↦ λ h. in_set_fields fields i v x h
      | Some y ↦ λ h. elim (in_cons x y (filter_map slot_in (slice_set fields i v)) h) [
        | inl same ↦ inl (in_front x y (filter_map slot_in fields) same)
        | inr later ↦ elim (in_set_fields fields i v x later) [ inl a ↦ inl (in_rest x y (filter_map slot_in fields) a) | inr b ↦ inr b ]
      ]
    ] h

-- the same of an array's elements
in_set_elements : (elements : List (Option ℕ)) (i : ℕ) (v : Option ℕ) (x : ℕ) → x ∈ filter_map (λ s. s) (slice_set elements i v)
    → (x ∈ filter_map (λ s. s) elements) ⊎ (v ≡ Some x)
in_set_elements [] i v x h = nothing x h
in_set_elements (f ∷ elements) zero v x h =
    elim v as (λ o. v ≡ o → x ∈ cons_option o (filter_map (λ s. s) elements) → (x ∈ filter_map (λ s. s) (f ∷ elements)) ⊎ (v ≡ Some x)) [
      | None ↦ λ e h. inl (in_more f x (filter_map (λ s. s) elements) h)
      | Some y ↦ λ e h. elim (in_cons x y (filter_map (λ s. s) elements) h) [
        | inl same ↦ inr (e ∙ ap (λ z. Some z) (sym same))
        | inr later ↦ inl (in_more f x (filter_map (λ s. s) elements) later)
      ]
    ] refl h
in_set_elements (f ∷ elements) (suc i) v x h =
    elim f as (λ o. x ∈ cons_option o (filter_map (λ s. s) (slice_set elements i v)) → (x ∈ cons_option o (filter_map (λ s. s) elements))
    ⊎ (v ≡ Some x)) [
      | None ↦ λ h. in_set_elements elements i v x h
      | Some y ↦ λ h. elim (in_cons x y (filter_map (λ s. s) (slice_set elements i v)) h) [
        | inl same ↦ inl (in_front x y (filter_map (λ s. s) elements) same)
        | inr later ↦
            elim (in_set_elements elements i v x later) [ inl a ↦ inl (in_rest x y (filter_map (λ s. s) elements) a) | inr b ↦ inr b ]
      ]
    ] h

-- what is referred to after a change was so before, or is the new value
pub in_set : (fields : Contents) (i : ℕ) (v : FieldValue) (x : ℕ) → x ∈ slots_in (with_value i v fields) → (x ∈ slots_in fields)
    ⊎ (slot_in v ≡ Some x)
in_set (Typed fields) i v x h = in_set_fields fields i v x h
in_set (Elements elements) i (RefValue s) x h = in_set_elements elements i s x h
in_set (Elements elements) i (IntValue n) x h = inl h

pub keeps_field : (m : Machine) → IsWellFormed m → (s : ℕ) (fields : Contents) → at m.objects s ≡ Some (Plain fields)
    → (i : ℕ) (v : FieldValue) → ((x : ℕ) → slot_in v ≡ Some x → Shown m x) → IsWellFormed (with_new m s (Plain (with_value i v fields)))
keeps_field m w s fields e i v shown =
    keeps_new m s (Plain (with_value i v fields)) w (record {
      inside = place_within m.objects s (Plain fields) e;
      old_cleanable = ap (option_and_then as_cleanable) e;
      old_guard = ap (option_and_then as_guard) e;
      new_cleanable = refl;
      new_guard = refl;
      edges = λ x h. elim (edge_split (Plain (with_value i v fields)) x h) [
        | inl h ↦ elim (in_set fields i v x h) [ inl a ↦ strong_object m w s x (Plain fields) e a | inr b ↦ (shown x b).0 ]
        | inr h ↦ no_some x h
      ];
      queue_stays = λ xs g. let a : Plain fields ≡ Queue xs = some_same (Plain fields) (Queue xs) (sym e ∙ g) in absurd (cc a);
      queued_stays = λ q xs g h. let r = w.references.members q s xs g h in let a : Plain fields ≡ Reference r.0 =
          some_same (Plain fields) (Reference r.0) (sym e ∙ r.1) in absurd (cc a);
      pending_stays = λ h. no_kind (subst (λ o. IsPendingKind (option_and_then (λ r. Some r.state) (option_and_then as_reference o))
          (option_and_then (λ c. Some c.state) (option_and_then as_cleanable o))) e (w.lists.pending_others s h));
      queue_fits = λ q r g. no_some r g;
      state_fits = λ r g. no_some r g;
      pending_there = λ r g. no_some r g;
      public_referent = λ x r g. no_some r g;
      members = λ t xs g. no_some xs g;
      once = λ xs g. no_some xs g;
      in_one = λ t p xs ys g. no_some xs g;
      public_fields =
          λ x xs g h. elim (in_set fields i v x (subst (λ l. x ∈ slots_in l) (sym (some_same (with_value i v fields) xs g)) h)) [
            | inl a ↦ w.unnamed.fields s x fields e a
            | inr b ↦ (shown x b).1
          ];
    })

-- ---- A reference in place of the same one

pub record IsReferenceChange (m : Machine) (s : ℕ) (r t : ReferenceOf) : Type 0 where
  pub no_referent : t.referent ≡ None
  pub queue : (q : ℕ) → t.queue ≡ Some q → r.queue ≡ Some q
  pub fits : FitsItsState t t.state
  pub pending : t.state ≡ Pending → r.state ≡ Pending
  pub queued : (q : ℕ) (xs : List ℕ) → IsQueueAt m q xs → s ∈ xs → t.state ≡ Queued
  pub waits : s ∈ m.pending → (t.state ≡ Pending) ⊎ ((t.state ≡ Queued) ⊎ (t.state ≡ Removed))

pub pending_state : (m : Machine) → IsWellFormed m → (s : ℕ) (r : ReferenceOf) → IsReferenceAt m s r → s ∈ m.pending → (r.state ≡ Pending)
    ⊎ ((r.state ≡ Queued) ⊎ (r.state ≡ Removed))
pending_state m w s r e h =
    elim (subst (λ o. IsPendingKind (option_and_then (λ r. Some r.state) (option_and_then as_reference o))
    (option_and_then (λ c. Some c.state) (option_and_then as_cleanable o))) e (w.lists.pending_others s h)) [
      | inl e ↦ inl (some_same r.state Pending e)
      | inr (inl e) ↦ inr (inl (some_same r.state Queued e))
      | inr (inr (inl e)) ↦ inr (inr (some_same r.state Removed e))
      | inr (inr (inr (inl e))) ↦ no_some PendingClean e
      | inr (inr (inr (inr e))) ↦ no_some Spent e
    ]

pub keeps_reference : (m : Machine) → IsWellFormed m → (s : ℕ) (r t : ReferenceOf) → IsReferenceAt m s r → IsReferenceChange m s r t
    → IsWellFormed (with_new m s (Reference t))
keeps_reference m w s r t e c =
    keeps_new m s (Reference t) w (record {
      inside = place_within m.objects s (Reference r) e;
      old_cleanable = ap (option_and_then as_cleanable) e;
      old_guard = ap (option_and_then as_guard) e;
      new_cleanable = refl;
      new_guard = refl;
      edges = λ x h. elim (edge_split (Reference t) x h) [
        | inl h ↦ queue_object m w s x r e (c.queue x (own_queue t x (in_option x (queue_ahead t) h)))
        | inr h ↦ no_some x (sym c.no_referent ∙ h)
      ];
      queue_stays = λ xs g. let a : Reference r ≡ Queue xs = some_same (Reference r) (Queue xs) (sym e ∙ g) in absurd (cc a);
      queued_stays = λ q xs g h. (t, refl, c.queued q xs g h);
      pending_stays = λ h. (t, refl, c.waits h);
      queue_fits = λ q x g h. w.slots.queues s q r e (c.queue q (ap (λ r. r.queue) (some_same t x g) ∙ h));
      state_fits = λ x g. subst (λ r. FitsItsState r r.state) (some_same t x g) c.fits;
      pending_there = λ x g h. w.lists.pending_references s
          (ap (λ o. option_and_then (λ r. Some r.state) (option_and_then as_reference o)) e
          ∙ ap (λ st. Some st) (c.pending (ap (λ r. r.state) (some_same t x g) ∙ h)));
      public_referent = λ y x g h. no_some y (sym c.no_referent ∙ ap (λ r. r.referent) (some_same t x g) ∙ h);
      members = λ t xs g. no_some xs g;
      once = λ xs g. no_some xs g;
      in_one = λ t p xs ys g. no_some xs g;
      public_fields = λ x xs g h. no_some xs g;
    })

-- ---- A queue in place of the same one

pub record IsQueueChange (m : Machine) (q : ℕ) (xs ys : List ℕ) : Type 0 where
  pub members : (t : ℕ) → t ∈ ys → (t ∈ xs) ⊎ ((r : ReferenceOf) × IsReferenceAt m t r × (r.state ≡ Queued)
      × ((p : ℕ) (zs : List ℕ) → IsQueueAt m p zs → t ∈ zs → ⊥))
  pub once : is_distinct ys ≡ true

pub keeps_members : (m : Machine) → IsWellFormed m → (q : ℕ) (xs ys : List ℕ) → IsQueueAt m q xs → IsQueueChange m q xs ys
    → IsWellFormed (with_new m q (Queue ys))
keeps_members m w q xs ys e c =
    let queued : (t : ℕ) → t ∈ ys → (r : ReferenceOf) × IsReferenceAt m t r × (r.state ≡ Queued) =
    λ t h. elim (c.members t h) [ inl a ↦ w.references.members q t xs e a | inr b ↦ (b.0, b.1, b.2) ] in
    keeps_new m q (Queue ys) w (record {
      inside = place_within m.objects q (Queue xs) e;
      old_cleanable = ap (option_and_then as_cleanable) e;
      old_guard = ap (option_and_then as_guard) e;
      new_cleanable = refl;
      new_guard = refl;
      edges = λ x h. elim (edge_split (Queue ys) x h) [
        | inl h ↦ let r = queued x h in ap is_some r.1
        | inr h ↦ no_some x h
      ];
      queue_stays = λ zs g. (ys, refl);
      queued_stays = λ p zs g h. let r = w.references.members p q zs g h in let a : Queue xs ≡ Reference r.0 =
          some_same (Queue xs) (Reference r.0) (sym e ∙ r.1) in absurd (cc a);
      pending_stays = λ h. no_kind (subst (λ o. IsPendingKind (option_and_then (λ r. Some r.state) (option_and_then as_reference o))
          (option_and_then (λ c. Some c.state) (option_and_then as_cleanable o))) e (w.lists.pending_others q h));
      queue_fits = λ q r g. no_some r g;
      state_fits = λ r g. no_some r g;
      pending_there = λ r g. no_some r g;
      public_referent = λ x r g. no_some r g;
      members = λ t zs g h.
          let r = queued t (subst (λ l. t ∈ l) (sym (some_same ys zs g)) h) in (
            λ same. let a : Queue xs ≡ Reference r.0 = some_same (Queue xs) (Reference r.0) (sym e ∙ ap (at m.objects) (sym same) ∙ r.1) in
                cc a,
            r,
          );
      once = λ zs g. subst (λ l. is_distinct l ≡ true) (some_same ys zs g) c.once;
      in_one = λ t p zs us g h f k. elim (c.members t (subst (λ l. t ∈ l) (sym (some_same ys zs g)) h)) [
        | inl a ↦ w.references.in_one p q t us xs f e k a
        | inr b ↦ absurd (b.3 p us f k)
      ];
      public_fields = λ x zs g h. no_some zs g;
    })
