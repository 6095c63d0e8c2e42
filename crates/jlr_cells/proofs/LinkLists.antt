-- The links of objects: of new ones, of one whose field changes, and what they lead to.
use Rattle.std.proofs.Common.{◌≡◌, ℕ, zero, suc, ◌+◌, ◌-◌, ◌<◌, ◌≤◌, true, false, List, [], ◌∷◌, ◌++◌, Option, Some, None, length, set}
use Rattle.std.proofs.Common.{get_or, map, replicate, refl, sym, ap, ◌∙◌, arith, length-set}
use Rattle.std.specs.Prelude.{filter_map, is_some, option_and_then, option_map, option_to_list, slice_get}
use Rattle.std.proofs.lemmas.List.{append-nil, map-set, length-map, set-append_left, replicate-append-replicate}
use Rattle.std.proofs.lemmas.List.Elements.{filter_map-append}
use Rattle.jlr_types.specs.declared.FieldKind.{FieldKind}
use Rattle.jlr_types.specs.declared.FieldKind.TheVariants as kind
use Rattle.jlr_types.specs.declared.FieldValue.{FieldValue}
use Rattle.jlr_types.specs.declared.FieldValue.TheVariants as field
use Rattle.jlr_machine.specs.declared.object.Contents.TheVariants.{Typed, Elements}
use Rattle.jlr_machine.specs.declared.object.Object.{Object}
use Rattle.jlr_machine.specs.declared.object.Object.TheVariants as object
use Rattle.jlr_machine.specs.declared.object.Reference.{Reference as ReferenceOf}
use Rattle.jlr_machine.specs.declared.object.Cleanable.{Cleanable as CleanableOf}
use Rattle.jlr_machine.specs.Lookups.{blank}
use Rattle.jlr_machine.specs.Objects.{at, some_and, with_cleanable, with_field, with_reference}
use Rattle.jlr_machine.specs.Edges.{edges_from, slot_in}
use Rattle.jlr_machine.specs.Edges.Chain.{Strong}
use Rattle.jlr_machine.specs.Refusals.{is_plain, is_record}
use Rattle.jlr_cells.specs.declared.cell.Cell.{Cell}
use Rattle.jlr_cells.specs.declared.cell.Cell.TheVariants.{Free, Plain, Array, Reference, Queue, Cleaner, Cleanable, Guard}
use Rattle.jlr_cells.specs.Contents.{is_array, next_in, field_in, members_in, object_in, objects_in}
use Rattle.jlr_cells.specs.Visits.{elements_of}
use Rattle.jlr_cells.specs.Links.{linked, links_in, links_of, links_to, no_links}

-- ---- New objects

blank_refers : (kinds : List FieldKind) → map slot_in (map blank kinds) ≡ replicate (length kinds) None
blank_refers [] = refl
blank_refers (kind.Int ∷ kinds) = ap (λ l. None ∷ l) (blank_refers kinds)
blank_refers (kind.Ref ∷ kinds) = ap (λ l. None ∷ l) (blank_refers kinds)

pub blank_links : (kinds : List FieldKind) → length (map blank kinds) ≤ 8 → links_to (map blank kinds) ≡ no_links
blank_links kinds few =
    let long : length (map blank kinds) ≡ length kinds = length-map kinds blank in
    let room : length kinds + (8 - length kinds) ≡ 8 = omega (arith, long, few) in
    rw (blank_refers kinds, long) (replicate-append-replicate (length kinds) (8 - length kinds) None ∙ ap (λ n. replicate n None) room)

-- ---- Changes of an object

links_to-set : (fields : List FieldValue) (i : ℕ) (v : FieldValue) → i < length fields
    → links_to (set fields i v) ≡ set (links_to fields) i (slot_in v)
links_to-set fields i v h =
    let within : i < length (map slot_in fields) = rw (length-map fields slot_in) h in
    rw (length-set fields i v, map-set slot_in fields i v)
    (sym (set-append_left (map slot_in fields) (replicate (8 - length fields) None) i (slot_in v) within))

get_within : (fields : List FieldValue) (i : ℕ) → is_some (slice_get fields i) ≡ true → i < length fields
get_within [] i h = cc
get_within (v ∷ fields) zero h = omega arith
get_within (v ∷ fields) (suc i) h = let below : i < length fields = get_within fields i h in omega arith

pub links_with_field : (o : Option Object) (i : ℕ) (v : FieldValue) → is_some (field_in o i) ≡ true → some_and is_record o ≡ true
    → links_of (option_map (with_field i v) o) ≡ set (links_of o) i (slot_in v)
links_with_field None i v h typed = cc
links_with_field (Some (object.Plain (Elements elements))) i v h typed = cc
links_with_field (Some (object.Plain (Typed fields))) i v h typed = links_to-set fields i v (get_within fields i h)
links_with_field (Some (object.Reference r)) i v h typed = cc
links_with_field (Some (object.Queue members)) i v h typed = cc
links_with_field (Some object.Cleaner) i v h typed = cc
links_with_field (Some (object.Cleanable c)) i v h typed = cc
links_with_field (Some (object.Guard g)) i v h typed = cc

pub links_with_reference : (f : ReferenceOf → ReferenceOf) (o : Option Object) → links_of (option_map (with_reference f) o) ≡ links_of o
links_with_reference f None = refl
links_with_reference f (Some (object.Plain (Typed fields))) = refl
links_with_reference f (Some (object.Plain (Elements elements))) = refl
links_with_reference f (Some (object.Reference r)) = refl
links_with_reference f (Some (object.Queue members)) = refl
links_with_reference f (Some object.Cleaner) = refl
links_with_reference f (Some (object.Cleanable c)) = refl
links_with_reference f (Some (object.Guard g)) = refl

pub links_with_cleanable : (f : CleanableOf → CleanableOf) (o : Option Object) → links_of (option_map (with_cleanable f) o) ≡ links_of o
links_with_cleanable f None = refl
links_with_cleanable f (Some (object.Plain (Typed fields))) = refl
links_with_cleanable f (Some (object.Plain (Elements elements))) = refl
links_with_cleanable f (Some (object.Reference r)) = refl
links_with_cleanable f (Some (object.Queue members)) = refl
links_with_cleanable f (Some object.Cleaner) = refl
links_with_cleanable f (Some (object.Cleanable c)) = refl
links_with_cleanable f (Some (object.Guard g)) = refl

-- ---- What links lead to

nulls_lead_nowhere : (n : ℕ) → linked (replicate n None) ≡ []
nulls_lead_nowhere zero = refl
nulls_lead_nowhere (suc n) = nulls_lead_nowhere n

mapped_leads : (fields : List FieldValue) → linked (map slot_in fields) ≡ filter_map slot_in fields
mapped_leads [] = refl
mapped_leads (field.Int n ∷ fields) = mapped_leads fields
mapped_leads (field.Ref None ∷ fields) = mapped_leads fields
mapped_leads (field.Ref (Some s) ∷ fields) = ap (λ l. s ∷ l) (mapped_leads fields)

links_lead : (fields : List FieldValue) → linked (links_to fields) ≡ filter_map slot_in fields
links_lead fields =
    filter_map-append (λ (l : Option ℕ). l) (map slot_in fields) (replicate (8 - length fields) None)
    ∙ ap (λ l. linked (map slot_in fields) ++ l) (nulls_lead_nowhere (8 - length fields))
    ∙ append-nil (linked (map slot_in fields))
    ∙ mapped_leads fields

plain_edges : (c : Cell) → some_and is_record (object_in c) ≡ true
    → edges_from Strong (object_in c ∷ []) 0 ≡ linked (links_of (object_in c))
plain_edges Free h = cc
plain_edges (Array elements) h = cc
plain_edges (Plain fields) h = append-nil (filter_map slot_in fields) ∙ sym (links_lead fields)
plain_edges (Reference r) h = cc
plain_edges Queue h = cc
plain_edges Cleaner h = cc
plain_edges (Cleanable c) h = cc
plain_edges (Guard g) h = cc

-- a plain object's strong edges are what its links lead to
pub plain_edges_at : (cells : List Cell) (s : ℕ) (d : List (Option ℕ)) → some_and is_record (at (objects_in cells) s) ≡ true
    → edges_from Strong (objects_in cells) s ≡ linked (get_or (links_in cells) s d)
plain_edges_at [] s d h = cc
plain_edges_at (c ∷ cells) zero d h = plain_edges c h
plain_edges_at (c ∷ cells) (suc s) d h = plain_edges_at cells s d h

-- an object with fields is a plain one; what is a plain one is that, or an array
pub record_is_plain : (o : Option Object) → some_and is_record o ≡ true → some_and is_plain o ≡ true
record_is_plain None h = h
record_is_plain (Some (object.Plain fields)) h = refl
record_is_plain (Some (object.Reference r)) h = cc
record_is_plain (Some (object.Queue members)) h = cc
record_is_plain (Some object.Cleaner) h = cc
record_is_plain (Some (object.Cleanable c)) h = cc
record_is_plain (Some (object.Guard g)) h = cc

pub array_is_plain : (o : Option Object) → some_and is_array o ≡ true → some_and is_plain o ≡ true
array_is_plain None h = h
array_is_plain (Some (object.Plain fields)) h = refl
array_is_plain (Some (object.Reference r)) h = cc
array_is_plain (Some (object.Queue members)) h = cc
array_is_plain (Some object.Cleaner) h = cc
array_is_plain (Some (object.Cleanable c)) h = cc
array_is_plain (Some (object.Guard g)) h = cc

pub no_plain : (o : Option Object) → some_and is_record o ≡ false → some_and is_array o ≡ false → some_and is_plain o ≡ false
no_plain None h n = refl
no_plain (Some (object.Plain (Typed fields))) h n = cc
no_plain (Some (object.Plain (Elements elements))) h n = cc
no_plain (Some (object.Reference r)) h n = refl
no_plain (Some (object.Queue members)) h n = refl
no_plain (Some object.Cleaner) h n = refl
no_plain (Some (object.Cleanable c)) h n = refl
no_plain (Some (object.Guard g)) h n = refl

-- an array's strong edges are what its elements lead to
pub array_edges : (o : Option Object) (elements : List (Option ℕ)) → o ≡ Some (object.Plain (Elements elements))
    → edges_from Strong (o ∷ []) 0 ≡ linked elements
array_edges o elements e = ap (λ x. edges_from Strong (x ∷ []) 0) e ∙ append-nil (linked elements)

-- what is no array has no elements
pub record_has_none : (o : Option Object) → some_and is_record o ≡ true → option_and_then elements_of o ≡ None
record_has_none None h = refl
record_has_none (Some (object.Plain (Typed fields))) h = refl
record_has_none (Some (object.Plain (Elements elements))) h = cc
record_has_none (Some (object.Reference r)) h = refl
record_has_none (Some (object.Queue members)) h = refl
record_has_none (Some object.Cleaner) h = refl
record_has_none (Some (object.Cleanable c)) h = refl
record_has_none (Some (object.Guard g)) h = refl

pub other_has_none : (o : Option Object) → some_and is_array o ≡ false → option_and_then elements_of o ≡ None
other_has_none None h = refl
other_has_none (Some (object.Plain (Typed fields))) h = refl
other_has_none (Some (object.Plain (Elements elements))) h = cc
other_has_none (Some (object.Reference r)) h = refl
other_has_none (Some (object.Queue members)) h = refl
other_has_none (Some object.Cleaner) h = refl
other_has_none (Some (object.Cleanable c)) h = refl
other_has_none (Some (object.Guard g)) h = refl

-- another object's are what is next to it, and its members
pub other_edges : (o : Option Object) → some_and is_plain o ≡ false → edges_from Strong (o ∷ []) 0 ≡ option_to_list (next_in o)
    ++ members_in o
other_edges None h = refl
other_edges (Some (object.Plain fields)) h = cc
other_edges (Some (object.Reference r)) h = refl
other_edges (Some (object.Queue members)) h = append-nil members
other_edges (Some object.Cleaner) h = refl
other_edges (Some (object.Cleanable c)) h = refl
other_edges (Some (object.Guard g)) h = refl
