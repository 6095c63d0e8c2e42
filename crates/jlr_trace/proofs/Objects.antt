-- The objects of a well-formed machine have spellings.
use Rattle.std.proofs.Common.{◌≡◌, ◌<◌, ℕ, suc, ◌+◌, false, List, [], ◌∷◌, length, refl, sym, ◌∙◌, subst, inl, inr, arith, Option, Some}
use Rattle.std.proofs.Common.{None, filter_map, is_some}
use Rattle.std.specs.List.{AllByRecursion}
use Rattle.std.proofs.lemmas.Bool.{both_ways, cases_lt}
use Rattle.jlr_types.specs.declared.FieldValue.{FieldValue}
use Rattle.jlr_types.specs.declared.FieldValue.TheVariants.{Int, Ref}
use Rattle.jlr_types.specs.declared.RefKind.{RefKind}
use Rattle.jlr_types.specs.declared.RefKind.TheVariants.{Soft, Weak, Phantom}
use Rattle.jlr_machine.specs.declared.object.Object.{Object}
use Rattle.jlr_machine.specs.declared.object.Object.TheVariants.{Plain, Reference, Queue, Cleaner, Cleanable, Guard}
use Rattle.jlr_machine.specs.declared.object.Contents.TheVariants.{Typed, Elements}
use Rattle.jlr_machine.specs.declared.object.Reference.{Reference as ReferenceOf}
use Rattle.jlr_machine.specs.declared.machine.Machine.{Machine}
use Rattle.jlr_machine.specs.Objects.{at, ◌∈◌}
use Rattle.jlr_machine.specs.Edges.{slot_in, strong_edges, referent}
use Rattle.jlr_machine.specs.Edges.Chain.{UpToPhantom}
use Rattle.jlr_machine.specs.WellFormed.{IsWellFormed, IsObjectAt}
use Rattle.jlr_laws.proofs.Checks.{at_beyond}
use Rattle.jlr_laws.proofs.Clearing.{edge_from}
use Rattle.jlr_laws.proofs.Frames.{place_within}
use Rattle.jlr_laws.proofs.Sets.{in_front, in_rest}
use Rattle.jlr_trace_fields.specs.declared.version.Version.TheVariants.{Two}
use Rattle.jlr_trace_fields.specs.Spelling.{SlotFits}
use Rattle.jlr_trace_fields.specs.Objects.{ValueFits, ObjectFits}
use Rattle.jlr_trace.specs.Ranges.{ValueRange, ObjectRange, PlaceRange}
use Rattle.jlr_trace.proofs.ListLengths.{short}
use Rattle.jlr_trace.proofs.Tables.{PlaceFits}

-- ---- Slots

pub object_within : (m : Machine) (s : ℕ) → IsObjectAt m s → s < length m.objects
object_within m s there = elim (cases_lt s (length m.objects)) [
  | inl lt ↦ lt
  | inr le ↦ absurd (both_ways (is_some (at m.objects s)) (subst (λ o. is_some o ≡ false) (sym (at_beyond m.objects s le)) refl) there)
]

pub slot_fits : (o : Option ℕ) → ((s : ℕ) → o ≡ Some s → s < 65536) → SlotFits o
slot_fits None h = tt
slot_fits (Some s) h = let lt = h s refl in omega (arith, lt)

values_fit : (fields : List FieldValue) → AllByRecursion ValueRange fields → ((s : ℕ) → s ∈ filter_map slot_in fields → s < 65536)
    → AllByRecursion ValueFits fields
values_fit [] range there = tt
values_fit (Int n ∷ fields) range there = (range.0, values_fit fields range.1 there)
values_fit (Ref None ∷ fields) range there = (tt, values_fit fields range.1 there)
values_fit (Ref (Some s) ∷ fields) range there =
    let lt = there s (in_front s s (filter_map slot_in fields) refl) in
    (omega (arith, lt), values_fit fields range.1 (λ t h. there t (in_rest t s (filter_map slot_in fields) h)))

elements_fit : (elements : List (Option ℕ)) → ((s : ℕ) → s ∈ filter_map (λ o. o) elements → s < 65536) → AllByRecursion SlotFits elements
elements_fit [] there = tt
elements_fit (None ∷ elements) there = (tt, elements_fit elements there)
elements_fit (Some s ∷ elements) there =
    let others : List ℕ = filter_map (λ (o : Option ℕ). o) elements in
    let lt = there s (in_front s s others refl) in
    (omega (arith, lt), elements_fit elements (λ t h. there t (in_rest t s others h)))

-- ---- Places counted from a number

pub one_on : (n k : ℕ) → n + suc k ≡ suc n + k
one_on n k = omega arith

pub none_on : (n : ℕ) → n + 0 ≡ n
none_on n = omega arith

pub from_none : (k : ℕ) → k ≡ 0 + k
from_none k = omega arith

-- ---- Objects

its_referent : (r : ReferenceOf) → referent r.kind (Reference r) ≡ r.referent
its_referent r = elim r.kind as (λ kind. referent kind (Reference (record r { kind = kind })) ≡ r.referent) [
  | Soft ↦ refl
  | Weak ↦ refl
  | Phantom ↦ refl
]

module _ (m : Machine) (w : IsWellFormed m) where
  within : (s : ℕ) → IsObjectAt m s → s < 65536
  within s there = let lt = object_within m s there in omega (arith, lt, w.limits.cells)

  strong_within : (s x : ℕ) (o : Object) → at m.objects s ≡ Some o → x ∈ strong_edges o → x < 65536
  strong_within s x o e h = within x (w.slots.edges s x (edge_from UpToPhantom m.objects s x (inl (o, e, h))))

  referent_within : (s x : ℕ) (kind : RefKind) (o : Object) → at m.objects s ≡ Some o → referent kind o ≡ Some x → x < 65536
  referent_within s x kind o e h = within x (w.slots.edges s x (edge_from UpToPhantom m.objects s x (inr (kind, refl, (o, e, h)))))

  pub object_fits : (s : ℕ) (o : Object) → at m.objects s ≡ Some o → ObjectRange o → ObjectFits Two o
  object_fits s (Plain (Typed fields)) e range = (range.0, values_fit fields range.1 (λ x h. strong_within s x (Plain (Typed fields)) e h))
  object_fits s (Plain (Elements elements)) e range =
      (range, elements_fit elements (λ x h. strong_within s x (Plain (Elements elements)) e h))
  object_fits s (Reference r) e range = record {
    referent = slot_fits r.referent (λ x h. referent_within s x r.kind (Reference r) e (its_referent r ∙ h));
    queue = slot_fits r.queue (λ q h.
        let at_q = w.slots.queues s q r e h in
        let lt = place_within m.objects q (Queue at_q.0) at_q.1 in
        omega (arith, lt, w.limits.cells));
  }
  object_fits s (Queue members) e range =
      let few = short members 65536 (w.references.once s members e) (λ x h. strong_within s x (Queue members) e h) in
      record { count = omega (arith, few); each = range }
  object_fits s Cleaner e range = tt
  object_fits s (Cleanable c) e range = record {
    referent = slot_fits c.referent (λ x h. referent_within s x Phantom (Cleanable c) e h);
    action = range.0;
    work = range.1;
  }
  object_fits s (Guard g) e range = range

  -- place by place, counted from a number
  places_fit : (n : ℕ) (xs : List (Option Object)) → ((k : ℕ) (o : Object) → at xs k ≡ Some o → at m.objects (n + k) ≡ Some o)
      → AllByRecursion PlaceRange xs → AllByRecursion PlaceFits xs
  places_fit n [] here range = tt
  places_fit n (None ∷ xs) here range =
      (tt, places_fit (suc n) xs (λ k o e. subst (λ (j : ℕ). at m.objects j ≡ Some o) (one_on n k) (here (suc k) o e)) range.1)
  places_fit n (Some o ∷ xs) here range = (
    object_fits n o (subst (λ (j : ℕ). at m.objects j ≡ Some o) (none_on n) (here 0 o refl)) range.0,
    places_fit (suc n) xs (λ k p e. subst (λ (j : ℕ). at m.objects j ≡ Some p) (one_on n k) (here (suc k) p e)) range.1,
  )

  pub all_objects_fit : AllByRecursion PlaceRange m.objects → AllByRecursion PlaceFits m.objects
  all_objects_fit range = places_fit 0 m.objects (λ k o e. subst (λ (j : ℕ). at m.objects j ≡ Some o) (from_none k) e) range
