-- A field is overwritten.
use Rattle.std.proofs.Common.{◌≡◌, ℕ, zero, suc, ◌⊎◌, inl, inr, false, IsTrue, List, [], ◌∷◌, Option}
use Rattle.std.proofs.Common.{Some, None, length, filter_map, slice_set, slice_get, is_some, option_map, option_and_then, refl, sym, subst}
use Rattle.std.proofs.Common.{ap, ◌∙◌, drop, length-set}
use Rattle.std.specs.List.{cons_option}
use Rattle.std.proofs.lemmas.Bool.{both_ways}
use Rattle.jlr_types.specs.declared.FieldValue.{FieldValue}
use Rattle.jlr_types.specs.declared.FieldValue.TheVariants.{Int, Ref}
use Rattle.jlr_machine.specs.declared.object.Contents.TheVariants.{Typed, Elements}
use Rattle.jlr_machine.specs.declared.object.Object.{Object}
use Rattle.jlr_machine.specs.declared.object.Object.TheVariants.{Plain, Reference, Queue, Cleaner, Cleanable, Guard}
use Rattle.jlr_machine.specs.Objects.{any_referent, at, change_at, with_element, with_field, ◌∈◌}
use Rattle.jlr_machine.specs.Edges.{strong_edges, is_own_root, slot_in, slots_in}
use Rattle.jlr_cells.specs.Contents.{field_at, field_in}
use Rattle.jlr_laws.proofs.Sets.{nothing, in_front, in_rest, in_cons}
use Rattle.jlr_marks.specs.Marking.{Marking, Shaded}
use Rattle.jlr_barrier.specs.Graphs.{Known, with_objects}
use Rattle.jlr_barrier.specs.Parts.{edges_ahead}
use Rattle.jlr_barrier.specs.Snapshots.{IsInHand, IsObject, FitsTogether}
use Rattle.jlr_barrier.proofs.Fitting.{in_hand_safe}
use Rattle.jlr_barrier.proofs.Changing.{changed_object, more_marks}
use Rattle.jlr_marks.proofs.Shading.{shaded_same}
use Rattle.std.proofs.lemmas.Option.{same_Some}

-- ---- Lists of fields

in_one : (o : Option ℕ) (y : ℕ) (rest : List ℕ) → y ∈ cons_option o rest → (o ≡ Some y) ⊎ (y ∈ rest)
in_one None y rest h = inr h
in_one (Some x) y rest h = elim (in_cons y x rest h) [ inl e ↦ inl (ap (λ z. Some z) (sym e)) | inr r ↦ inr r ]

one_in : (o : Option ℕ) (y : ℕ) (rest : List ℕ) → (o ≡ Some y) ⊎ (y ∈ rest) → y ∈ cons_option o rest
one_in None y rest (inl e) = absurd (both_ways false refl (ap is_some e))
one_in None y rest (inr h) = h
one_in (Some x) y rest (inl e) = in_front y x rest (sym (ap (λ o. Rattle.std.proofs.Common.unwrap_or o x) e))
one_in (Some x) y rest (inr h) = in_rest y x rest h

gained_by_set : {A : Type 0} (g : A → Option ℕ) (fields : List A) (f : ℕ) (v : A) (y : ℕ) → y ∈ filter_map g (slice_set fields f v)
    → (y ∈ filter_map g fields) ⊎ (g v ≡ Some y)
gained_by_set g [] f v y h = nothing y h
gained_by_set g (x ∷ xs) zero v y h =
    elim (in_one (g v) y (filter_map g xs) h) [ inl e ↦ inr e | inr r ↦ inl (one_in (g x) y (filter_map g xs) (inr r)) ]
gained_by_set g (x ∷ xs) (suc f) v y h = elim (in_one (g x) y (filter_map g (slice_set xs f v)) h) [
  | inl e ↦ inl (one_in (g x) y (filter_map g xs) (inl e))
  | inr r ↦ elim (gained_by_set g xs f v y r) [ inl o ↦ inl (one_in (g x) y (filter_map g xs) (inr o)) | inr e ↦ inr e ]
]

lost_by_set : {A : Type 0} (g : A → Option ℕ) (fields : List A) (f : ℕ) (v : A) (y : ℕ) → y ∈ filter_map g fields
    → (y ∈ filter_map g (slice_set fields f v)) ⊎ (option_and_then g (slice_get fields f) ≡ Some y)
lost_by_set g [] f v y h = nothing y h
lost_by_set g (x ∷ xs) zero v y h =
    elim (in_one (g x) y (filter_map g xs) h) [ inl e ↦ inr e | inr r ↦ inl (one_in (g v) y (filter_map g xs) (inr r)) ]
lost_by_set g (x ∷ xs) (suc f) v y h = elim (in_one (g x) y (filter_map g xs) h) [
  | inl e ↦ inl (one_in (g x) y (filter_map g (slice_set xs f v)) (inl e))
  | inr r ↦ elim (lost_by_set g xs f v y r) [ inl o ↦ inl (one_in (g x) y (filter_map g (slice_set xs f v)) (inr o)) | inr e ↦ inr e ]
]

is_ref : (v : FieldValue) (y : ℕ) → slot_in v ≡ Some y → v ≡ Ref (Some y)
is_ref (Int n) y e = absurd (both_ways false refl (ap is_some e))
is_ref (Ref s) y e = ap (λ o. Ref o) e

held_ref : (o : Option FieldValue) (y : ℕ) → option_and_then slot_in o ≡ Some y → o ≡ Some (Ref (Some y))
held_ref None y e = absurd (both_ways false refl (ap is_some e))
held_ref (Some v) y e = ap (λ x. Some x) (is_ref v y e)

held_element : (o : Option (Option ℕ)) (y : ℕ) → option_and_then (λ s. s) o ≡ Some y → option_map Ref o ≡ Some (Ref (Some y))
held_element None y e = absurd (both_ways false refl (ap is_some e))
held_element (Some s) y e = ap (λ z. Some (Ref z)) e

-- an element that is overwritten
gained_by_element : (elements : List (Option ℕ)) (f : ℕ) (v : FieldValue) (y : ℕ) → y ∈ slots_in (Elements (with_element elements f v))
    → (y ∈ slots_in (Elements elements)) ⊎ (v ≡ Ref (Some y))
gained_by_element elements f (Int n) y h = inl h
gained_by_element elements f (Ref s) y h =
    elim (gained_by_set (λ l. l) elements f s y h) [ inl o ↦ inl o | inr e ↦ inr (ap (λ o. Ref o) e) ]

lost_ahead_by_set : (elements : List (Option ℕ)) (from f : ℕ) (v : Option ℕ) (y : ℕ) → y ∈ slots_in (Elements (drop from elements))
    → (y ∈ slots_in (Elements (drop from (slice_set elements f v)))) ⊎ (option_and_then (λ s. s) (slice_get elements f) ≡ Some y)
lost_ahead_by_set elements zero f v y h = lost_by_set (λ l. l) elements f v y h
lost_ahead_by_set [] (suc from) f v y h = nothing y h
lost_ahead_by_set (x ∷ xs) (suc from) zero v y h = inl h
lost_ahead_by_set (x ∷ xs) (suc from) (suc f) v y h = lost_ahead_by_set xs from f v y h

lost_ahead_by_element : (elements : List (Option ℕ)) (from f : ℕ) (v : FieldValue) (y : ℕ) → y ∈ slots_in (Elements (drop from elements))
    → (y ∈ slots_in (Elements (drop from (with_element elements f v)))) ⊎ (option_map Ref (slice_get elements f) ≡ Some (Ref (Some y)))
lost_ahead_by_element elements from f (Int n) y h = inl h
lost_ahead_by_element elements from f (Ref s) y h =
    elim (lost_ahead_by_set elements from f s y h) [ inl o ↦ inl o | inr e ↦ inr (held_element (slice_get elements f) y e) ]

as_many : (elements : List (Option ℕ)) (f : ℕ) (v : FieldValue) → length (with_element elements f v) ≡ length elements
as_many elements f (Int n) = refl
as_many elements f (Ref s) = length-set elements f s

-- ---- Objects

gained_by_field : (f : ℕ) (v : FieldValue) (o : Object) (y : ℕ) → y ∈ strong_edges (with_field f v o) → (y ∈ strong_edges o)
    ⊎ (v ≡ Ref (Some y))
gained_by_field f v (Plain (Elements elements)) y h = gained_by_element elements f v y h
gained_by_field f v (Plain (Typed fields)) y h = elim (gained_by_set slot_in fields f v y h) [ inl o ↦ inl o | inr e ↦ inr (is_ref v y e) ]
gained_by_field f v (Reference r) y h = inl h
gained_by_field f v (Queue members) y h = inl h
gained_by_field f v Cleaner y h = inl h
gained_by_field f v (Cleanable c) y h = inl h
gained_by_field f v (Guard g) y h = inl h

lost_by_field : (f : ℕ) (v : FieldValue) (o : Object) (from y : ℕ) → y ∈ edges_ahead from o → (y ∈ edges_ahead from (with_field f v o))
    ⊎ (field_in (Some o) f ≡ Some (Ref (Some y)))
lost_by_field f v (Plain (Elements elements)) from y h = lost_ahead_by_element elements from f v y h
lost_by_field f v (Plain (Typed fields)) from y h =
    elim (lost_by_set slot_in fields f v y h) [ inl o ↦ inl o | inr e ↦ inr (held_ref (slice_get fields f) y e) ]
lost_by_field f v (Reference r) from y h = inl h
lost_by_field f v (Queue members) from y h = inl h
lost_by_field f v Cleaner from y h = inl h
lost_by_field f v (Cleanable c) from y h = inl h
lost_by_field f v (Guard g) from y h = inl h

own_by_field : (f : ℕ) (v : FieldValue) (o : Object) → IsTrue (is_own_root (Some (with_field f v o))) → IsTrue (is_own_root (Some o))
own_by_field f v (Plain fields) h = h
own_by_field f v (Reference r) h = h
own_by_field f v (Queue members) h = h
own_by_field f v Cleaner h = h
own_by_field f v (Cleanable c) h = h
own_by_field f v (Guard g) h = h

referent_by_field : (f : ℕ) (v : FieldValue) (o : Object) (y : ℕ) → any_referent (with_field f v o) ≡ Some y → any_referent o ≡ Some y
referent_by_field f v (Plain fields) y h = h
referent_by_field f v (Reference r) y h = h
referent_by_field f v (Queue members) y h = h
referent_by_field f v Cleaner y h = h
referent_by_field f v (Cleanable c) y h = h
referent_by_field f v (Guard g) y h = h

has_object : (o : Option Object) (f : ℕ) → IsTrue (is_some (field_in o f)) → IsTrue (is_some o)
has_object None f h = absurd (both_ways false refl h)
has_object (Some o) f h = refl

-- ---- The heap: what the field held is shaded, then it is overwritten

pub overwritten : (k : Known) (a b s field : ℕ) (v : FieldValue) (n : Marking) → FitsTogether k a b
    → IsTrue (is_some (field_at k.graph.objects s field))
    → ((y : ℕ) → v ≡ Ref (Some y) → IsInHand k y)
    → ((y : ℕ) → field_at k.graph.objects s field ≡ Some (Ref (Some y)) → IsObject k.graph.objects y)
    → Shaded (λ y. field_at k.graph.objects s field ≡ Some (Ref (Some y))) k.marking n
    → FitsTogether (record k { graph = with_objects k.graph (change_at k.graph.objects s (with_field field v)); marking = n }) a b
overwritten k a b s field v n f there held objects shaded =
    let m : Known = record k { marking = n } in
    let fm : FitsTogether m a b = more_marks (λ y. field_at k.graph.objects s field ≡ Some (Ref (Some y))) k a b n f objects shaded in
    changed_object m a b s (with_field field v) fm
    (λ o e. record {
      gained = λ y h. elim (gained_by_field field v o y h) [
        | inl was ↦ inl was
        | inr new ↦ inr (in_hand_safe m fm.snapshot y (elim (held y new) [ inl on ↦ inl (shaded.kept y on) | inr r ↦ inr r ]))
      ];
      ahead = λ from y h. elim (lost_by_field field v o from y h) [
        | inl still ↦ inl still
        | inr was ↦ inr (shaded.all y (subst (λ z. field_in z field ≡ Some (Ref (Some y))) (sym e) was))
      ];
      array = λ l is. (with_element l field v, ap (with_field field v) is, as_many l field v);
      refers = λ y h. inl (referent_by_field field v o y h);
      own = λ h. inl (own_by_field field v o h);
    })
    (has_object (at k.graph.objects s) field there)

-- what was read from the field is what is shaded
pub shaded_as_held : (o : Option FieldValue) (v : FieldValue) (m n : Marking) → o ≡ Some v → Shaded (λ y. v ≡ Ref (Some y)) m n
    → Shaded (λ y. o ≡ Some (Ref (Some y))) m n
shaded_as_held o v m n e s =
    shaded_same (λ y. v ≡ Ref (Some y)) (λ y. o ≡ Some (Ref (Some y))) (λ y h. e ∙ ap (λ x. Some x) h)
    (λ y h. same_Some v (Ref (Some y)) (sym e ∙ h)) m n s
