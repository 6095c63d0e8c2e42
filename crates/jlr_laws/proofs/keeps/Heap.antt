-- The asks on mutators, handles and plain objects leave a well-formed machine.
use Rattle.std.proofs.Common.{◌≡◌, ℕ, zero, suc, true, false, List, [], ◌∷◌, length, refl, sym, ◌∙◌, ap, subst, inl, inr, arith, Option}
use Rattle.std.proofs.Common.{Some, None, option_and_then, option_map, is_some, filter_map, slice_get, map, replicate, ℤ}
use Rattle.std.specs.List.{cons_option}
use Rattle.std.proofs.lemmas.Bool.{both_ways, cases_eq, or_parts, or_from}
use Rattle.std.proofs.lemmas.List.{length-set}
use Rattle.jlr_types.specs.declared.FieldKind.{FieldKind}
use Rattle.jlr_types.specs.declared.FieldKind.TheVariants.{Int as IntField, Ref as RefField}
use Rattle.jlr_types.specs.declared.FieldValue.{FieldValue}
use Rattle.jlr_types.specs.declared.FieldValue.TheVariants.{Int as IntValue, Ref as RefValue}
use Rattle.jlr_types.specs.declared.Refusal.TheVariants.{Busy, NoHandle, NoSession, Null, WrongKind}
use Rattle.jlr_machine.specs.declared.object.Contents.{Contents}
use Rattle.jlr_machine.specs.declared.object.Contents.TheVariants.{Typed, Elements}
use Rattle.jlr_machine.specs.declared.object.Object.{Object}
use Rattle.jlr_machine.specs.declared.object.Object.TheVariants.{Plain, Reference, Queue, Cleaner, Cleanable, Guard}
use Rattle.jlr_machine.specs.declared.machine.Machine.{Machine}
use Rattle.jlr_machine.specs.declared.machine.Session.{Session}
use Rattle.jlr_machine.specs.declared.ask.Ask.TheVariants.{Join, Leave, New, Put, Get, SetInt, Dup, Drop, Array}
use Rattle.jlr_machine.specs.declared.ask.Answer.{Answer}
use Rattle.jlr_machine.specs.Objects.{Table, at, set_at, empty_at, as_fields, ◌∈◌, with_field, value_at}
use Rattle.jlr_machine.specs.Edges.{slot_in, slots_in}
use Rattle.jlr_machine.specs.Lookups.{slot_named, object_named, with_new, with_object, with_handle, blank, field_named, on}
use Rattle.jlr_machine.specs.Refusals.{refusal, is_joined, has_call, is_plain, is_record, given}
use Rattle.jlr_machine.specs.Calls.{after, fresh_session, field_set}
use Rattle.jlr_machine.specs.Run.{IsFresh}
use Rattle.jlr_machine.specs.WellFormed.{IsSessionAt, IsWellFormed}
use Rattle.jlr_laws.proofs.Sets.{nothing, in_front}
use Rattle.jlr_laws.proofs.Frames.{no_some, some_same, set_same, set_other, set_cases, is_plain_there}
use Rattle.jlr_laws.proofs.SessionsKept.{sessions_kept, keeps_session, keeps_given, held_object, free_has_room}
use Rattle.jlr_laws.proofs.Allowed.{allowed, IsNamed, only_operand, free_session, and_then_gives}
use Rattle.jlr_laws.proofs.Fits.{Shown, changed_is_new, edge_split, strong_object, fresh_one, keeps_made, keeps_field, in_more}

-- what a handle names may be held, put into fields, and referred to
pub shown_slot : (m : Machine) → IsWellFormed m → (k h x : ℕ) → slot_named m k h ≡ Some x → Shown m x
shown_slot m w k h x e = let r = and_then_gives (λ s. at s.handles h) (at m.mutators k) x e in held_object m w k h x r.0 r.1 r.2

-- ---- Join and Leave

nobody_there : {P : Type 0} (n h x : ℕ) → at (replicate n None) h ≡ Some x → P
nobody_there zero h x e = no_some x e
nobody_there (suc n) zero x e = no_some x e
nobody_there (suc n) (suc h) x e = nobody_there n h x e

pub keeps_Join : (m : Machine) → IsWellFormed m → (k : ℕ) → refusal m (Join k) ≡ None → (a : Answer) (fresh : List ℕ)
    → IsWellFormed (after m (Join k) a fresh)
keeps_Join m w k no_refusal a fresh =
    let out : is_joined m k ≡ false = (or_parts (is_joined m k) _ (allowed m (Join k) no_refusal NoSession refl)).0 in
    let absent : (s : Session) → IsSessionAt m k s → ⊥ = λ s e. both_ways (is_joined m k) out (ap is_some e) in
    sessions_kept m (set_at m.mutators k fresh_session) w (record {
      as_many = length-set m.mutators k (Some fresh_session);
      back = λ j t e. elim (set_cases m.mutators k j (Some fresh_session) t e) [
        | inl new ↦ let same = some_same fresh_session t new.1 in inr (ap (λ s. s.fence) (sym same), ap (λ s. s.call) (sym same))
        | inr old ↦ inl (t, old.1, refl, refl)
      ];
      forth = λ j s e d. elim (cases_eq j k) [
        | inl same ↦ absurd (absent s (ap (at m.mutators) (sym same) ∙ e))
        | inr other ↦ (s, set_other m.mutators k j (Some fresh_session) other ∙ e, refl)
      ];
      held = λ j h x t e f. elim (set_cases m.mutators k j (Some fresh_session) t e) [
        | inl new ↦ nobody_there 251 h x (ap (λ s. at s.handles h) (some_same fresh_session t new.1) ∙ f)
        | inr old ↦ held_object m w j h x t old.1 f
      ];
      places = λ j t e. elim (set_cases m.mutators k j (Some fresh_session) t e) [
        | inl new ↦ subst (λ t. (length t.handles ≡ 251) × (at t.handles 0 ≡ None)) (some_same fresh_session t new.1) (refl, refl)
        | inr old ↦ w.sessions.places j t old.1
      ];
      opening = λ j t e. elim (set_cases m.mutators k j (Some fresh_session) t e) [
        | inl new ↦ free_has_room t t.call (ap (λ s. s.call) (sym (some_same fresh_session t new.1)))
        | inr old ↦ w.sessions.opening j t old.1
      ];
    })

pub keeps_Leave : (m : Machine) → IsWellFormed m → (k : ℕ) → refusal m (Leave k) ≡ None → (a : Answer) (fresh : List ℕ)
    → IsWellFormed (after m (Leave k) a fresh)
keeps_Leave m w k no_refusal a fresh =
    let idle : has_call m k ≡ false = (allowed m (Leave k) no_refusal Busy refl) in
    let old : (j : ℕ) (t : Session) → at (empty_at m.mutators k) j ≡ Some t → IsSessionAt m j t =
    λ j t e. elim (set_cases m.mutators k j None t e) [ inl none ↦ no_some t none.1 | inr old ↦ old.1 ] in
    sessions_kept m (empty_at m.mutators k) w (record {
      as_many = length-set m.mutators k None;
      back = λ j t e. inl (t, old j t e, refl, refl);
      forth = λ j s e d. elim (cases_eq j k) [
        | inl same ↦ absurd (d (free_session m k s (ap (at m.mutators) (sym same) ∙ e) idle))
        | inr other ↦ (s, set_other m.mutators k j None other ∙ e, refl)
      ];
      held = λ j h x t e f. held_object m w j h x t (old j t e) f;
      places = λ j t e. w.sessions.places j t (old j t e);
      opening = λ j t e. w.sessions.opening j t (old j t e);
    })

-- ---- Handles

pub keeps_Dup : (m : Machine) → IsWellFormed m → (k h : ℕ) → refusal m (Dup k h) ≡ None → (a : Answer) (fresh : List ℕ)
    → IsWellFormed (after m (Dup k h) a fresh)
keeps_Dup m w k h no_refusal a fresh =
    keeps_given m w k (slot_named m k h) (shown_slot m w k h) (λ s e. free_session m k s e (allowed m (Dup k h) no_refusal Busy refl))

still_none : (table : Table ℕ) (h : ℕ) → length table ≡ 251 → at table 0 ≡ None → at (empty_at table h) 0 ≡ None
still_none table h l e = elim (cases_eq 0 h) [
  | inl same ↦ ap (at (empty_at table h)) same ∙ set_same table h None (omega (arith, l, same))
  | inr other ↦ set_other table h 0 None other ∙ e
]

pub keeps_Drop : (m : Machine) → IsWellFormed m → (k h : ℕ) → refusal m (Drop k h) ≡ None → (a : Answer) (fresh : List ℕ)
    → IsWellFormed (after m (Drop k h) a fresh)
keeps_Drop m w k h no_refusal a fresh =
    let old : (s : Session) (p x : ℕ) → at (empty_at s.handles h) p ≡ Some x → at s.handles p ≡ Some x =
    λ s p x e. elim (set_cases s.handles h p None x e) [ inl none ↦ no_some x none.1 | inr old ↦ old.1 ] in
    keeps_session m w k (λ s. record s { handles = empty_at s.handles h }) (λ s e. record {
      fence = refl;
      call = refl;
      held = λ p x f. held_object m w k p x s e (old s p x f);
      places = (
        length-set s.handles h None ∙ (w.sessions.places k s e).0,
        still_none s.handles h (w.sessions.places k s e).0 (w.sessions.places k s e).1,
      );
      opening = free_has_room (record s { handles = empty_at s.handles h }) s.call
          (free_session m k s e (allowed m (Drop k h) no_refusal Busy refl));
    })

-- ---- Plain objects

no_blank : {P : Type 0} (layout : List FieldKind) (x : ℕ) → x ∈ filter_map slot_in (map blank layout) → P
no_blank [] x h = nothing x h
no_blank (IntField ∷ layout) x h = no_blank layout x h
no_blank (RefField ∷ layout) x h = no_blank layout x h

pub keeps_New : (m : Machine) → IsWellFormed m → (k : ℕ) (layout : List FieldKind) → refusal m (New k layout) ≡ None
    → (a : Answer) (fresh : List ℕ) → IsFresh m.objects 1 fresh → IsWellFormed (after m (New k layout) a fresh)
keeps_New m w k layout no_refusal a fresh f =
    let s = fresh_one m.objects fresh f in
    subst (λ o. IsWellFormed (on o (λ s. with_handle (with_new m s (Plain (Typed (map blank layout)))) k s) m)) (sym s.1)
    (keeps_made m s.0 (Plain (Typed (map blank layout))) w (record {
      new_cleanable = refl;
      new_guard = refl;
      edges = λ x h. elim (edge_split (Plain (Typed (map blank layout))) x h) [ inl h ↦ no_blank layout x h | inr h ↦ no_some x h ];
      queue_fits = λ q r g. no_some r g;
      fresh = λ r g. no_some r g;
      public_referent = λ x r g. no_some r g;
      empty = λ xs g. no_some xs g;
      public_fields = λ x xs g h. no_blank layout x (subst (λ l. x ∈ slots_in l) (sym (some_same (Typed (map blank layout)) xs g)) h);
    }) s.2 s.3 k (λ session e. free_session m k session e (allowed m (New k layout) no_refusal Busy refl)))

-- an array of nulls refers to nothing
pub no_null : {P : Type 0} (n x : ℕ) → x ∈ filter_map (λ s. s) (replicate n None) → P
no_null zero x h = nothing x h
no_null (suc n) x h = no_null n x h

pub keeps_Array : (m : Machine) → IsWellFormed m → (k n : ℕ) → refusal m (Array k n) ≡ None → (a : Answer) (fresh : List ℕ)
    → IsFresh m.objects 1 fresh → IsWellFormed (after m (Array k n) a fresh)
keeps_Array m w k n no_refusal a fresh f =
    let s = fresh_one m.objects fresh f in
    subst (λ o. IsWellFormed (on o (λ s. with_handle (with_new m s (Plain (Elements (replicate n None)))) k s) m)) (sym s.1)
    (keeps_made m s.0 (Plain (Elements (replicate n None))) w (record {
      new_cleanable = refl;
      new_guard = refl;
      edges = λ x h. elim (edge_split (Plain (Elements (replicate n None))) x h) [ inl h ↦ no_null n x h | inr h ↦ no_some x h ];
      queue_fits = λ q r g. no_some r g;
      fresh = λ r g. no_some r g;
      public_referent = λ x r g. no_some r g;
      empty = λ xs g. no_some xs g;
      public_fields = λ x xs g h. no_null n x (subst (λ l. x ∈ slots_in l) (sym (some_same (Elements (replicate n None)) xs g)) h);
    }) s.2 s.3 k (λ session e. free_session m k session e (allowed m (Array k n) no_refusal Busy refl)))

-- what may hold integers is plain
record_is_plain : (o : Object) → is_record o ≡ true → is_plain o ≡ true
record_is_plain (Plain fields) e = refl
record_is_plain (Reference r) e = absurd (cc e)
record_is_plain (Queue members) e = absurd (cc e)
record_is_plain Cleaner e = absurd (cc e)
record_is_plain (Cleanable c) e = absurd (cc e)
record_is_plain (Guard g) e = absurd (cc e)

plain_of : (o : Object) → is_plain o ≡ true → (fields : Contents) × (o ≡ Plain fields)
plain_of (Plain fields) e = (fields, refl)
plain_of (Reference r) e = absurd (cc e)
plain_of (Queue members) e = absurd (cc e)
plain_of Cleaner e = absurd (cc e)
plain_of (Cleanable c) e = absurd (cc e)
plain_of (Guard g) e = absurd (cc e)

-- a field of the plain object that a handle names
set_field : (m : Machine) → IsWellFormed m → (k h s : ℕ) (session : Session) (o : Object) → IsNamed m k h s session o → is_plain o ≡ true
    → (i : ℕ) (v : FieldValue) → ((x : ℕ) → slot_in v ≡ Some x → Shown m x) → IsWellFormed (field_set m k h i v)
set_field m w k h s session o n plain i v shown =
    let fields = plain_of o plain in
    let e : at m.objects s ≡ Some (Plain fields.0) = n.there ∙ ap (λ o. Some o) fields.1 in
    subst (λ o. IsWellFormed (on o (λ s. with_object m s (with_field i v)) m)) (sym n.slot)
    (subst IsWellFormed (sym (changed_is_new m s (with_field i v) (Plain fields.0) e)) (keeps_field m w s fields.0 e i v shown))

pub keeps_Put : (m : Machine) → IsWellFormed m → (k h f v : ℕ) → refusal m (Put k h f v) ≡ None → (a : Answer) (fresh : List ℕ)
    → IsWellFormed (after m (Put k h f v) a fresh)
keeps_Put m w k h f v no_refusal a fresh =
    let ok = allowed m (Put k h f v) no_refusal in
    let r = only_operand m k h is_plain w (or_from _ false (or_parts _ _ (ok NoHandle refl)).0 refl)
    (or_from _ false (or_parts _ _ (ok Null refl)).0 refl) (or_from _ false (or_parts _ _ (ok WrongKind refl)).0 refl) in
    set_field m w k h r.0 r.1 r.2 r.3 r.4 f (RefValue (slot_named m k v)) (shown_slot m w k v)

pub keeps_SetInt : (m : Machine) → IsWellFormed m → (k h f : ℕ) (v : ℤ) → refusal m (SetInt k h f v) ≡ None → (a : Answer) (fresh : List ℕ)
    → IsWellFormed (after m (SetInt k h f v) a fresh)
keeps_SetInt m w k h f v no_refusal a fresh =
    let ok = allowed m (SetInt k h f v) no_refusal in
    let r = only_operand m k h is_record w (ok NoHandle refl) (ok Null refl) (ok WrongKind refl) in
    set_field m w k h r.0 r.1 r.2 r.3 (record_is_plain r.2 r.4) f (IntValue v) (λ x e. no_some x e)

in_fields : (fields : List FieldValue) (i : ℕ) (v : FieldValue) (x : ℕ) → slice_get fields i ≡ Some v → slot_in v ≡ Some x
    → x ∈ filter_map slot_in fields
in_fields [] i v x e g = no_some v e
in_fields (y ∷ fields) zero v x e g =
    subst (λ o. x ∈ cons_option o (filter_map slot_in fields)) (sym (ap slot_in (some_same y v e) ∙ g))
    (in_front x x (filter_map slot_in fields) refl)
in_fields (y ∷ fields) (suc i) v x e g = in_more (slot_in y) x (filter_map slot_in fields) (in_fields fields i v x e g)

in_elements : (elements : List (Option ℕ)) (i x : ℕ) → slice_get elements i ≡ Some (Some x) → x ∈ filter_map (λ s. s) elements
in_elements [] i x e = no_some (Some x) e
in_elements (y ∷ elements) zero x e =
    subst (λ o. x ∈ cons_option o (filter_map (λ s. s) elements)) (sym (some_same y (Some x) e))
    (in_front x x (filter_map (λ s. s) elements) refl)
in_elements (y ∷ elements) (suc i) x e = in_more y x (filter_map (λ s. s) elements) (in_elements elements i x e)

pub in_value : (fields : Contents) (i : ℕ) (v : FieldValue) (x : ℕ) → value_at fields i ≡ Some v → slot_in v ≡ Some x → x ∈ slots_in fields
in_value (Typed fields) i v x e g = in_fields fields i v x e g
in_value (Elements elements) i v x e g =
    elim (slice_get elements i) as (λ o. slice_get elements i ≡ o → option_map RefValue o ≡ Some v → x ∈ filter_map (λ s. s) elements) [
      | None ↦ λ d e. no_some v e
      | Some y ↦ λ d e. in_elements elements i x (d ∙ ap (λ z. Some z) (ap slot_in (some_same (RefValue y) v e) ∙ g))
    ] refl e

pub keeps_Get : (m : Machine) → IsWellFormed m → (k h f : ℕ) → refusal m (Get k h f) ≡ None → (a : Answer) (fresh : List ℕ)
    → IsWellFormed (after m (Get k h f) a fresh)
keeps_Get m w k h f no_refusal a fresh =
    keeps_given m w k (given m (Get k h f)) (λ x e.
    let v = and_then_gives slot_in (field_named m k h f) x e in
    let fields = and_then_gives (λ fields. value_at fields f) (option_and_then as_fields (object_named m k h)) v.0 v.1 in
    let o = and_then_gives (at m.objects) (slot_named m k h) (Plain fields.0) (is_plain_there (object_named m k h) fields.0 fields.1) in
    let there : x ∈ slots_in fields.0 = in_value fields.0 f v.0 x fields.2 v.2 in
    (strong_object m w o.0 x (Plain fields.0) o.2 there, w.unnamed.fields o.0 x fields.0 o.2 there))
    (λ s e. free_session m k s e (allowed m (Get k h f) no_refusal Busy refl))
