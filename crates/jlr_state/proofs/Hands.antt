-- What handles, names and fences hold, and what the fields of what a handle names hold, is in hand; and what is shaded is an object.
use Rattle.std.proofs.Common.{◌≡◌, ◌++◌, ℕ, zero, suc, cond, inl, inr, IsTrue, true, false, List, [], ◌∷◌, Option, Some, None}
use Rattle.std.proofs.Common.{option_and_then, option_map, is_some, filter_map, find, map, refl, sym, subst, ap, ◌∙◌}
use Rattle.std.specs.List.{flat_map}
use Rattle.std.specs.Option.{option_to_list}
use Rattle.jlr_types.specs.declared.FieldValue.TheVariants.{Ref}
use Rattle.jlr_types.specs.declared.FieldKind.{FieldKind}
use Rattle.jlr_types.specs.declared.FieldKind.TheVariants.{Int as IntField, Ref as RefField}
use Rattle.jlr_machine.specs.declared.object.Contents.{Contents}
use Rattle.jlr_machine.specs.declared.object.Object.{Object}
use Rattle.jlr_machine.specs.declared.object.Object.TheVariants.{Plain, Reference}
use Rattle.jlr_machine.specs.declared.object.Reference.{Reference as ReferenceOf}
use Rattle.jlr_machine.specs.declared.machine.Session.{Session}
use Rattle.jlr_machine.specs.declared.machine.Binding.{Binding}
use Rattle.jlr_machine.specs.declared.machine.Machine.{Machine}
use Rattle.jlr_machine.specs.Objects.{Heap, at, ◌∈◌, change_at, as_fields, as_reference, value_at}
use Rattle.jlr_machine.specs.Edges.{edges_from, strong_edges, slot_in, slots_in, is_kind}
use Rattle.jlr_machine.specs.Edges.Chain.{Strong}
use Rattle.jlr_machine.specs.Lookups.{blank, same_name, slot_bound, slot_named}
use Rattle.jlr_machine.specs.Refusals.{gotten}
use Rattle.jlr_machine.specs.Calls.{fence_of}
use Rattle.jlr_machine.specs.WellFormed.{IsWellFormed, IsObjectAt}
use Rattle.jlr_types.specs.declared.RefKind.TheVariants.{Phantom}
use Rattle.jlr_roots.specs.Walk.{slots_held, slots_of_session}
use Rattle.jlr_roots.specs.Naming.{named}
use Rattle.jlr_laws.proofs.Sets.{nothing, in_front, in_rest}
use Rattle.jlr_laws.proofs.Clearing.{in_append, in_left}
use Rattle.jlr_laws.proofs.Fits.{referent_object, strong_object}
use Rattle.jlr_laws.proofs.keeps.Heap.{in_value}
use Rattle.jlr_laws.proofs.Frames.{no_some, some_same, root_from, is_plain_there, is_reference_there, from_places, from_sessions}
use Rattle.jlr_laws.proofs.Frames.IsRoot.{fencing}
use Rattle.jlr_cells.specs.Contents.{field_at}
use Rattle.jlr_barrier.specs.Graphs.{Known, gotten_at}
use Rattle.jlr_barrier.specs.Snapshots.{IsInHand}
use Rattle.jlr_barrier.proofs.Held.{by_name, by_session}

-- ---- What handles and names hold

pub has_session : (o : Option Session) (f : Session → Option ℕ) (y : ℕ) → option_and_then f o ≡ Some y → (s : Session) × (o ≡ Some s)
    × (f s ≡ Some y)
has_session None f y e = no_some y e
has_session (Some s) f y e = (s, refl, e)

pub named_held : (m : Machine) (k h y : ℕ) → slot_named m k h ≡ Some y → y ∈ slots_held m.mutators
named_held m k h y e =
    let s = has_session (at m.mutators k) (λ s. at s.handles h) y e in
    from_sessions slots_of_session m.mutators k s.0 y s.1 (in_left y (filter_map (λ h. h) s.0.handles) (option_to_list s.0.fence)
    (from_places s.0.handles h y s.2))

bound_named : (names : List Binding) (name : List ℕ) (y : ℕ) → slot_bound names name ≡ Some y → y ∈ named names
bound_named [] name y e = no_some y e
bound_named (b ∷ names) name y e =
    elim (same_name b.name name) as (λ c. option_map (λ b. b.slot) (cond c (Some b) (find (λ b. same_name b.name name) names)) ≡ Some y
    → y ∈ named (b ∷ names)) [
      | true ↦ λ e. in_front y b.slot (named names) (sym (some_same b.slot y e))
      | false ↦ λ e. in_rest y b.slot (named names) (bound_named names name y e)
    ] e

-- ---- Fields

has_fields : (o : Option Contents) (f y : ℕ) → option_and_then (λ fields. value_at fields f) o ≡ Some (Ref (Some y)) → (fields : Contents)
    × (o ≡ Some fields) × (value_at fields f ≡ Some (Ref (Some y)))
has_fields None f y e = no_some (Ref (Some y)) e
has_fields (Some fields) f y e = (fields, refl, e)

pub loads : (heap : Heap) (x f y : ℕ) → field_at heap x f ≡ Some (Ref (Some y)) → y ∈ edges_from Strong heap x
loads heap x f y e =
    let s = has_fields (option_and_then as_fields (at heap x)) f y e in
    subst (λ o. y ∈ flat_map strong_edges (option_to_list o)) (sym (is_plain_there (at heap x) s.0 s.1))
    (in_left y (slots_in s.0) [] (in_value s.0 f (Ref (Some y)) y s.2 refl))

-- ---- In hand

module _ (k : Known) where
  pub held_in_hand : (y : ℕ) → y ∈ slots_held k.graph.mutators → IsInHand k y
  held_in_hand y h = inr (y, by_session k.graph y h, ([], refl))

  pub bound_in_hand : (name : List ℕ) (y : ℕ) → slot_bound k.graph.names name ≡ Some y → IsInHand k y
  bound_in_hand name y e = inr (y, by_name k.graph y (bound_named k.graph.names name y e), ([], refl))

  pub loaded_in_hand : (x f y : ℕ) → x ∈ slots_held k.graph.mutators → field_at k.graph.objects x f ≡ Some (Ref (Some y)) → IsInHand k y
  loaded_in_hand x f y h e = inr (x, by_session k.graph x h, (y ∷ [], (loads k.graph.objects x f y e, refl)))

-- ---- A new object that refers to nothing

blank_fields : {P : Type 0} (layout : List FieldKind) (y : ℕ) → y ∈ filter_map slot_in (map blank layout) → P
blank_fields [] y h = nothing y h
blank_fields (IntField ∷ layout) y h = blank_fields layout y h
blank_fields (RefField ∷ layout) y h = blank_fields layout y h

pub blank_refers_to_none : {P : Type 0} (layout : List FieldKind) (y : ℕ) → y ∈ (filter_map slot_in (map blank layout) ++ []) → P
blank_refers_to_none layout y h =
    elim (in_append y (filter_map slot_in (map blank layout)) [] h) [ inl i ↦ blank_fields layout y i | inr n ↦ nothing y n ]

-- ---- What is shaded is an object

module _ (m : Machine) (w : IsWellFormed m) where
  pub field_object : (x f y : ℕ) → field_at m.objects x f ≡ Some (Ref (Some y)) → IsObjectAt m y
  field_object x f y e =
      let s = has_fields (option_and_then as_fields (at m.objects x)) f y e in
      strong_object m w x y (Plain s.0) (is_plain_there (at m.objects x) s.0 s.1) (in_value s.0 f (Ref (Some y)) y s.2 refl)

  given_referent : (r : ReferenceOf) (y : ℕ) → gotten r ≡ Some y → r.referent ≡ Some y
  given_referent r y e = elim (is_kind Phantom r.kind) as (λ b. cond b None r.referent ≡ Some y → r.referent ≡ Some y) [
    | true ↦
        λ e. no_some y e
    | false ↦ λ e. e
  ] e

  has_reference : (o : Option ReferenceOf) (y : ℕ) → option_and_then gotten o ≡ Some y → (r : ReferenceOf) × (o ≡ Some r)
      × (gotten r ≡ Some y)
  has_reference None y e = no_some y e
  has_reference (Some r) y e = (r, refl, e)

  pub gotten_object : (x y : ℕ) → gotten_at m.objects x ≡ Some y → IsObjectAt m y
  gotten_object x y e =
      let r = has_reference (option_and_then as_reference (at m.objects x)) y e in
      referent_object m w x y (Reference r.0) (is_reference_there (at m.objects x) r.0 r.1) (given_referent r.0 y r.2)

  pub fence_object : (k y : ℕ) → fence_of m k ≡ Some y → IsObjectAt m y
  fence_object k y e = let s = has_session (at m.mutators k) (λ s. s.fence) y e in w.slots.roots y (root_from m y (fencing k s.0 s.1 s.2))

changed_there : (o : Option Object) (f : Object → Object) → is_some o ≡ true → is_some (option_map f o) ≡ true
changed_there None f h = h
changed_there (Some o) f h = refl

-- where an object is changed, there still is one
changed_object : (heap : Heap) (s x : ℕ) (f : Object → Object) → is_some (at heap x) ≡ true → is_some (at (change_at heap s f) x) ≡ true
changed_object [] s x f h = h
changed_object (o ∷ heap) zero zero f h = changed_there o f h
changed_object (o ∷ heap) zero (suc x) f h = h
changed_object (o ∷ heap) (suc s) zero f h = h
changed_object (o ∷ heap) (suc s) (suc x) f h = changed_object heap s x f h

pub still_object : (heap other : Heap) (s x : ℕ) (f : Object → Object) → other ≡ change_at heap s f → IsTrue (is_some (at heap x))
    → IsTrue (is_some (at other x))
still_object heap other s x f e h = ap (λ l. is_some (at l x)) e ∙ changed_object heap s x f h
