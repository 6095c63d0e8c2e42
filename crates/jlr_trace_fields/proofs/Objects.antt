-- Objects: what is read is what was written, and what was written is read again.
use Rattle.std.proofs.Common.{◌≡◌, ℕ, zero, suc, ◌≤◌, ◌^◌, Bool, true, false, List, [], ◌∷◌, ◌++◌, length, Option, Ok, refl, sym, ap, ◌∙◌}
use Rattle.std.proofs.Common.{append_assoc, arith}
use Rattle.std.specs.Int.{w16}
use Rattle.std.specs.List.{flat_map, AllByRecursion}
use Rattle.jlr_types.specs.declared.FieldValue.{FieldValue}
use Rattle.jlr_types.specs.declared.FieldValue.TheVariants.{Int, Ref}
use Rattle.jlr_types.specs.declared.Work.TheVariants.{Note, Resource as WorkOn}
use Rattle.jlr_machine.specs.declared.object.Object.TheVariants.{Plain, Reference, Queue, Cleaner, Cleanable, Guard}
use Rattle.jlr_machine.specs.declared.object.Contents.TheVariants.{Typed, Elements}
use Rattle.jlr_trace_fields.specs.declared.version.Version.{Version}
use Rattle.jlr_trace_fields.specs.declared.version.Version.TheVariants.{One, Two}
use Rattle.jlr_trace_fields.specs.Reading.{Reader, one_field, option_at, number_within_at}
use Rattle.jlr_trace_fields.specs.Spelling.{spelled_flag, spelled_16, spelled_option, SlotFits, IsWithin}
use Rattle.jlr_trace_fields.specs.Items.{items_at}
use Rattle.jlr_trace_fields.specs.Laws.{TakesBehind, TakesSpelled, ReadsAgain, IsField}
use Rattle.jlr_trace_fields.proofs.Numbers.{two_bytes, four_bytes, eight_bytes, four_least}
use Rattle.jlr_trace_fields.proofs.Basics.{byte, within, number_within, flag, option, signed}
use Rattle.jlr_trace_fields.proofs.Lists.{items_take, items_again, list_field}
use Rattle.jlr_trace_fields.proofs.Products.{then_takes, made_takes, one_takes, two_takes, four_takes, then_again, one_again, two_again}
use Rattle.jlr_trace_fields.proofs.Products.{four_again}
use Rattle.jlr_trace_fields.specs.Objects.{spelled_value, ValueFits, value_behind, value_read, spelled_work, WorkFits, work_behind}
use Rattle.jlr_trace_fields.specs.Objects.{work_read}
use Rattle.jlr_trace_fields.specs.Objects.{spelled_object, ElementsFit, ObjectFits, typed, plain_read, array, array_read, array_in}
use Rattle.jlr_trace_fields.specs.Objects.{reference_read}
use Rattle.jlr_trace_fields.specs.Objects.{queue_read, cleanable_read, guard_read, object_behind, object_read}
use Rattle.jlr_trace_fields.proofs.TableLaws.{ref_kind, ref_state, clean_state}

-- ---- Fields

value_behind_takes : (b : Bool) → TakesBehind (spelled_flag b) (value_behind b) spelled_value ValueFits
value_behind_takes false = one_takes signed (0 ∷ []) Int spelled_value ValueFits (λ n. refl) (λ n f. f)
value_behind_takes true = one_takes option (1 ∷ []) Ref spelled_value ValueFits (λ s. refl) (λ s f. f)

value_takes : TakesSpelled value_read spelled_value ValueFits
unfolding value_read
value_takes = then_takes flag [] value_behind spelled_value ValueFits (λ b f. value_behind_takes b)

value_again : ReadsAgain value_read spelled_value ValueFits
unfolding value_read
value_again (Int n) rest fits =
    then_again flag false tt value_behind (spelled_value (Int n) ++ rest) _ (Int n) rest refl (one_again signed Int n fits rest)
value_again (Ref s) rest fits =
    then_again flag true tt value_behind (spelled_value (Ref s) ++ rest) _ (Ref s) rest refl (one_again option Ref s fits rest)

pub value : IsField value_read spelled_value ValueFits
value = record { takes = value_takes; again = value_again }

-- ---- Works

work_behind_takes : (b : Bool) → TakesBehind (spelled_flag b) (work_behind b) spelled_work WorkFits
work_behind_takes false = one_takes four_bytes (0 ∷ []) Note spelled_work WorkFits (λ n. refl) (λ n f. f)
work_behind_takes true = one_takes four_bytes (1 ∷ []) WorkOn spelled_work WorkFits (λ n. refl) (λ n f. f)

work_takes : TakesSpelled work_read spelled_work WorkFits
unfolding work_read
work_takes = then_takes flag [] work_behind spelled_work WorkFits (λ b f. work_behind_takes b)

work_again : ReadsAgain work_read spelled_work WorkFits
unfolding work_read
work_again (Note n) rest fits =
    then_again flag false tt work_behind (spelled_work (Note n) ++ rest) _ (Note n) rest refl (one_again four_bytes Note n fits rest)
work_again (WorkOn n) rest fits =
    then_again flag true tt work_behind (spelled_work (WorkOn n) ++ rest) _ (WorkOn n) rest refl (one_again four_bytes WorkOn n fits rest)

pub work : IsField work_read spelled_work WorkFits
work = record { takes = work_takes; again = work_again }

-- ---- Objects

-- so many items that fit
abbrev AreSo : {A : Type 0} → (A → Type 0) → ℕ → List A → Type 0
AreSo Fits count xs = (length xs ≡ count) × AllByRecursion Fits xs

so_many : {A : Type 0} (read : Reader A) (spelled : A → List ℕ) (Fits : A → Type 0) → IsField read spelled Fits → (count : ℕ)
    → IsField (items_at read count) (flat_map spelled) (AreSo Fits count)
so_many read spelled Fits field count = record {
  takes = λ bytes xs rest fits e. let t = items_take read spelled Fits field.takes count bytes xs rest fits e in (t.0, (t.1, t.2));
  again = λ xs rest fits. ap (λ n. items_at read n (flat_map spelled xs ++ rest)) (sym fits.0)
      ∙ items_again read spelled Fits field.again xs rest fits.1;
}

fields : (count : ℕ) → IsField (items_at value_read count) (flat_map spelled_value) (AreSo ValueFits count)
fields = so_many value_read spelled_value ValueFits value

elements : (count : ℕ) → IsField (items_at option_at count) (flat_map spelled_option) (AreSo SlotFits count)
elements = so_many option_at spelled_option SlotFits option

plain_text : (count : ℕ) (xs : List FieldValue) → length xs ≡ count → spelled_object (typed xs) ≡ (1 ∷ count ∷ [])
    ++ flat_map spelled_value xs
plain_text count xs e = ap (λ n. 1 ∷ n ∷ flat_map spelled_value xs) e

-- the fields of a plain object, whose count stands before them
plain_fields : (version : Version) (count : ℕ) → count ≤ 8
    → TakesBehind (1 ∷ count ∷ []) (one_field (items_at value_read count) typed) spelled_object (ObjectFits version)
plain_fields version count few =
    then_takes (fields count) (1 ∷ count ∷ []) (λ xs bytes. Ok (typed xs, bytes)) spelled_object (ObjectFits version)
    (λ xs f. made_takes ((1 ∷ count ∷ []) ++ flat_map spelled_value xs) (typed xs) spelled_object (ObjectFits version)
    (plain_text count xs f.0) (omega (arith, f.0), f.1))

plain_takes : (version : Version) → TakesBehind (1 ∷ []) plain_read spelled_object (ObjectFits version)
unfolding plain_read
plain_takes version = then_takes (within 0 8) (1 ∷ []) (λ count. one_field (items_at value_read count) typed) spelled_object
    (ObjectFits version) (λ count f. plain_fields version count f.1)

array_text : (count : ℕ) (xs : List (Option ℕ)) → length xs ≡ count → spelled_object (array xs) ≡ (7 ∷ spelled_16 count)
    ++ flat_map spelled_option xs
array_text count xs e = ap (λ n. 7 ∷ spelled_16 n ++ flat_map spelled_option xs) e

array_elements : (count : ℕ) → IsWithin 1 4096 count
    → TakesBehind (7 ∷ spelled_16 count) (one_field (items_at option_at count) array) spelled_object (ObjectFits Two)
array_elements count within =
    then_takes (elements count) (7 ∷ spelled_16 count) (λ xs bytes. Ok (array xs, bytes)) spelled_object (ObjectFits Two)
    (λ xs f. made_takes ((7 ∷ spelled_16 count) ++ flat_map spelled_option xs) (array xs) spelled_object (ObjectFits Two)
    (array_text count xs f.0) ((omega (arith, f.0, within.0), omega (arith, f.0, within.1)), f.1))

-- how many elements
element_count : IsField (number_within_at w16 1 4096) spelled_16 (IsWithin 1 4096)
element_count = number_within w16 (2 ^ 16) 1 4096 (omega arith) two_bytes

array_takes : TakesBehind (7 ∷ []) array_read spelled_object (ObjectFits Two)
unfolding array_read
array_takes =
    then_takes element_count (7 ∷ []) (λ count. one_field (items_at option_at count) array) spelled_object (ObjectFits Two) array_elements

array_in_takes : (version : Version) → TakesBehind (7 ∷ []) (array_in version) spelled_object (ObjectFits version)
array_in_takes One = λ bytes x rest fits e. absurd cc
array_in_takes Two = array_takes

reference_takes : (version : Version) → TakesBehind (2 ∷ []) reference_read spelled_object (ObjectFits version)
unfolding reference_read
reference_takes version = four_takes ref_kind option option ref_state (2 ∷ [])
    (λ kind referent queue state. Reference (record { kind = kind; referent = referent; queue = queue; state = state })) spelled_object
    (ObjectFits version) (λ k r q s. refl) (λ k r q s f g h i. record { referent = g; queue = h })

queue_takes : (version : Version) → TakesBehind (3 ∷ []) queue_read spelled_object (ObjectFits version)
unfolding queue_read
queue_takes version =
    one_takes (list_field four_bytes four_least) (3 ∷ []) Queue spelled_object (ObjectFits version) (λ xs. refl) (λ xs f. f)

cleanable_takes : (version : Version) → TakesBehind (5 ∷ []) cleanable_read spelled_object (ObjectFits version)
unfolding cleanable_read
cleanable_takes version = four_takes option eight_bytes work clean_state (5 ∷ [])
    (λ referent action work state. Cleanable (record { referent = referent; action = action; work = work; state = state })) spelled_object
    (ObjectFits version) (λ r a w s. refl) (λ r a w s f g h i. record { referent = f; action = g; work = h })

guard_takes : (version : Version) → TakesBehind (6 ∷ []) guard_read spelled_object (ObjectFits version)
unfolding guard_read
guard_takes version = two_takes four_bytes four_bytes (6 ∷ []) (λ rid cleanable. Guard (record { rid = rid; cleanable = cleanable }))
    spelled_object (ObjectFits version) (λ r c. refl) (λ r c f g. record { rid = f; cleanable = g })

object_behind_takes : (version : Version) (kind : ℕ)
    → TakesBehind (kind ∷ []) (object_behind version kind) spelled_object (ObjectFits version)
object_behind_takes version zero = λ bytes x rest fits e. absurd cc
object_behind_takes version (suc zero) = plain_takes version
object_behind_takes version (suc (suc zero)) = reference_takes version
object_behind_takes version (suc (suc (suc zero))) = queue_takes version
object_behind_takes version (suc (suc (suc (suc zero)))) = made_takes (4 ∷ []) Cleaner spelled_object (ObjectFits version) refl tt
object_behind_takes version (suc (suc (suc (suc (suc zero))))) = cleanable_takes version
object_behind_takes version (suc (suc (suc (suc (suc (suc zero)))))) = guard_takes version
object_behind_takes version (suc (suc (suc (suc (suc (suc (suc zero))))))) = array_in_takes version
object_behind_takes version (suc (suc (suc (suc (suc (suc (suc (suc n)))))))) = λ bytes x rest fits e. absurd cc

object_takes : (version : Version) → TakesSpelled (object_read version) spelled_object (ObjectFits version)
unfolding object_read
object_takes version =
    then_takes byte [] (object_behind version) spelled_object (ObjectFits version) (λ kind f. object_behind_takes version kind)

array_again : (version : Version) (xs : List (Option ℕ)) (rest : List ℕ) → ElementsFit version xs
    → array_in version ((spelled_16 (length xs) ++ flat_map spelled_option xs) ++ rest) ≡ Ok (array xs, rest)
unfolding array_read
array_again One xs rest fits = absurd fits
array_again Two xs rest fits =
    then_again element_count (length xs) fits.0 (λ count. one_field (items_at option_at count) array)
    ((spelled_16 (length xs) ++ flat_map spelled_option xs) ++ rest) (flat_map spelled_option xs ++ rest) (array xs) rest
    (append_assoc (spelled_16 (length xs)) (flat_map spelled_option xs) rest)
    (one_again (elements (length xs)) array xs (refl, fits.1) rest)

object_again : (version : Version) → ReadsAgain (object_read version) spelled_object (ObjectFits version)
unfolding object_read plain_read reference_read queue_read cleanable_read guard_read
object_again version (Plain (Typed xs)) rest fits =
    then_again (within 0 8) (length xs) (omega arith, fits.0) (λ count. one_field (items_at value_read count) typed)
    ((length xs ∷ flat_map spelled_value xs) ++ rest) _ (typed xs) rest refl (one_again (fields (length xs)) typed xs (refl, fits.1) rest)
object_again version (Plain (Elements xs)) rest fits = array_again version xs rest fits
object_again version (Reference r) rest fits = four_again ref_kind option option ref_state
    (λ kind referent queue state. Reference (record { kind = kind; referent = referent; queue = queue; state = state })) r.kind r.referent
    r.queue r.state tt fits.referent fits.queue tt rest
object_again version (Queue xs) rest fits = one_again (list_field four_bytes four_least) Queue xs fits rest
object_again version Cleaner rest fits = refl
object_again version (Cleanable c) rest fits = four_again option eight_bytes work clean_state
    (λ referent action work state. Cleanable (record { referent = referent; action = action; work = work; state = state })) c.referent
    c.action c.work c.state fits.referent fits.action fits.work tt rest
object_again version (Guard g) rest fits = two_again four_bytes four_bytes
    (λ rid cleanable. Guard (record { rid = rid; cleanable = cleanable })) g.rid g.cleanable fits.rid fits.cleanable rest

pub object : (version : Version) → IsField (object_read version) spelled_object (ObjectFits version)
object version = record { takes = object_takes version; again = object_again version }
