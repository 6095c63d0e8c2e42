-- The kinds and the links that stand by themselves, after a change of one cell.
use Rattle.std.proofs.Common.{◌≡◌, ℕ, zero, suc, ◌<◌, ◌^◌, true, false, List, [], ◌∷◌, Option, Some, None, length, set, get_or, replicate}
use Rattle.std.proofs.Common.{refl, sym, ap, ◌∙◌, arith, length-set}
use Rattle.std.specs.Prelude.{MatchOption, drop, is_some, option_map, slice_index_or}
use Rattle.std.proofs.Math.Seq.{map-set_same}
use Rattle.std.proofs.lemmas.List.{map-set, get_or-map, length-replicate}
use Rattle.jlr_machine.specs.declared.object.Object.{Object}
use Rattle.jlr_types.specs.declared.FieldValue.{FieldValue}
use Rattle.jlr_machine.specs.declared.object.Reference.{Reference as ReferenceOf}
use Rattle.jlr_machine.specs.declared.object.Cleanable.{Cleanable as CleanableOf}
use Rattle.jlr_machine.specs.Edges.{slot_in}
use Rattle.jlr_machine.specs.declared.object.Object.TheVariants as object
use Rattle.jlr_machine.specs.Objects.{Heap, at, some_and, with_cleanable, with_field, with_reference}
use Rattle.jlr_machine.specs.Refusals.{is_cleanable, is_record}
use Rattle.jlr_machine.specs.declared.object.Contents.TheVariants as contents
use Rattle.jlr_cells.specs.Kinds.{IsNoArray, IsNoCleanable}
use Rattle.jlr_cells.specs.declared.shape.Kind.TheVariants.{Array as ArrayKind, Cleanable as CleanableKind}
use Rattle.jlr_cells.proofs.Slots.{at-read, object_of_field, within_cells}
use Rattle.jlr_cells.proofs.LinkLists.{links_with_cleanable, links_with_field, links_with_reference}
use Rattle.jlr_cells.specs.declared.cell.Cell.{Cell}
use Rattle.jlr_cells.specs.declared.cell.Cell.TheVariants.{Free}
use Rattle.jlr_cells.specs.declared.shape.Kind.{Kind}
use Rattle.jlr_cells.specs.Contents.{is_array, object_in, objects_in, kind_of, kind_in, kinds_in, field_in}
use Rattle.jlr_cells.specs.Links.{cell_links, links_in, links_of, no_links}
use Rattle.jlr_cells.specs.Keeping.{AreKept}

-- a kind by itself is that of the object in the cell
pub kind_at : (cells : List Cell) (s : ℕ) → slice_index_or (kinds_in cells) s None ≡ option_map kind_of (at (objects_in cells) s)
kind_at [] s = refl
kind_at (c ∷ cells) zero = refl
kind_at (c ∷ cells) (suc s) = kind_at cells s

pub kind_seen : (cells : List Cell) (kinds : List (Option Kind)) (s : ℕ) → kinds ≡ kinds_in cells
    → slice_index_or kinds s None ≡ option_map kind_of (at (objects_in cells) s)
kind_seen cells kinds s by_kind = ap (λ l. slice_index_or l s None) by_kind ∙ kind_at cells s

-- what is of another kind is no cleanable
no_cleanable : (o : Option Object) → (option_map kind_of o ≡ Some CleanableKind → ⊥) → some_and is_cleanable o ≡ false
no_cleanable None other = refl
no_cleanable (Some (object.Plain fields)) other = refl
no_cleanable (Some (object.Reference r)) other = refl
no_cleanable (Some (object.Queue members)) other = refl
no_cleanable (Some object.Cleaner) other = refl
no_cleanable (Some (object.Cleanable c)) other = absurd (other refl)
no_cleanable (Some (object.Guard g)) other = refl

pub none_at_kind : (kinds : List (Option Kind)) (heap : Heap) (s : ℕ) → slice_index_or kinds s None ≡ option_map kind_of (at heap s)
    → IsNoCleanable kinds s → some_and is_cleanable (at heap s) ≡ false
none_at_kind kinds heap s same none = no_cleanable (at heap s) (λ e. none (same ∙ e))

-- what is of another kind is no array
no_array : (o : Option Object) → (option_map kind_of o ≡ Some ArrayKind → ⊥) → some_and is_array o ≡ false
no_array None other = refl
no_array (Some (object.Plain (contents.Typed fields))) other = refl
no_array (Some (object.Plain (contents.Elements elements))) other = absurd (other refl)
no_array (Some (object.Reference r)) other = refl
no_array (Some (object.Queue members)) other = refl
no_array (Some object.Cleaner) other = refl
no_array (Some (object.Cleanable c)) other = refl
no_array (Some (object.Guard g)) other = refl

pub no_array_kind : (kinds : List (Option Kind)) (heap : Heap) (s : ℕ) → slice_index_or kinds s None ≡ option_map kind_of (at heap s)
    → IsNoArray kinds s → some_and is_array (at heap s) ≡ false
no_array_kind kinds heap s same none = no_array (at heap s) (λ e. none (same ∙ e))

pub found_alike : {P P' : Type 0} {Q Q' : ℕ → Type 0} (r : Option ℕ) → (P → P') → ((s : ℕ) → Q s → Q' s) → MatchOption r P Q
    → MatchOption r P' Q'
found_alike None f g h = f h
found_alike (Some s) f g h = g s h

-- each object has a kind
pub has_kind : (o : Option Object) → is_some (option_map kind_of o) ≡ is_some o
has_kind None = refl
has_kind (Some o) = refl

-- the links of the object in a cell that was read
links_read :
    (cells : List Cell) (links : List (List (Option ℕ))) (s : ℕ) (c : Cell) → s < length cells → links ≡ links_in cells
    → c ≡ get_or cells s c → get_or links s [] ≡ cell_links c
links_read cells links s c within by_links read =
    ap (λ l. get_or l s []) by_links ∙ get_or-map cell_links cells s c [] within ∙ ap cell_links (sym read)

-- the object in a cell becomes another of its kind
pub kept_changed :
    (cells : List Cell) (kinds : List (Option Kind)) (links : List (List (Option ℕ))) (s : ℕ) (c d : Cell) (f : Object → Object)
    → AreKept cells kinds links → c ≡ get_or cells s c → object_in d ≡ option_map f (object_in c) → kind_in d ≡ kind_in c
    → cell_links d ≡ cell_links c
    → AreKept (set cells s d) kinds links
kept_changed cells kinds links s c d f kept read becomes same linked =
    record {
      by_kind = kept.by_kind ∙ sym (map-set_same kind_in cells s d c (same ∙ ap kind_in read));
      by_links = kept.by_links ∙ sym (map-set_same cell_links cells s d c (linked ∙ ap cell_links read));
      small = rw (length-set cells s d) kept.small;
    }

-- a reference changes, or a cleanable
pub kept_reference :
    (cells : List Cell) (kinds : List (Option Kind)) (links : List (List (Option ℕ))) (s : ℕ) (c d : Cell) (f : ReferenceOf → ReferenceOf)
    → AreKept cells kinds links → c ≡ get_or cells s c → object_in d ≡ option_map (with_reference f) (object_in c) → kind_in d ≡ kind_in c
    → AreKept (set cells s d) kinds links
kept_reference cells kinds links s c d f kept read becomes same =
    kept_changed cells kinds links s c d (with_reference f) kept read becomes same
    (ap links_of becomes ∙ links_with_reference f (object_in c))

pub kept_cleanable :
    (cells : List Cell) (kinds : List (Option Kind)) (links : List (List (Option ℕ))) (s : ℕ) (c d : Cell) (f : CleanableOf → CleanableOf)
    → AreKept cells kinds links → c ≡ get_or cells s c → object_in d ≡ option_map (with_cleanable f) (object_in c) → kind_in d ≡ kind_in c
    → AreKept (set cells s d) kinds links
kept_cleanable cells kinds links s c d f kept read becomes same =
    kept_changed cells kinds links s c d (with_cleanable f) kept read becomes same
    (ap links_of becomes ∙ links_with_cleanable f (object_in c))

-- a field changes, and its link with it
pub kept_field :
    (cells : List Cell) (kinds : List (Option Kind)) (links : List (List (Option ℕ))) (s : ℕ) (c d : Cell) (i : ℕ) (v : FieldValue)
    (links' : List (List (Option ℕ)))
    → AreKept cells kinds links → is_some (field_in (at (objects_in cells) s) i) ≡ true
    → some_and is_record (at (objects_in cells) s) ≡ true → c ≡ get_or cells s c
    → object_in d ≡ option_map (with_field i v) (object_in c) → kind_in d ≡ kind_in c
    → links' ≡ set links s (set (get_or links s []) i (slot_in v)) → AreKept (set cells s d) kinds links'
kept_field cells kinds links s c d i v links' kept holds typed read becomes same written =
    let object : is_some (at (objects_in cells) s) ≡ true = object_of_field (at (objects_in cells) s) i holds in
    let within : s < length cells = within_cells cells s object in
    let holds' : is_some (field_in (object_in c) i) ≡ true = rw (← at-read cells s c within read) holds in
    let typed' : some_and is_record (object_in c) ≡ true = rw (← at-read cells s c within read) typed in
    let was : get_or links s [] ≡ cell_links c = links_read cells links s c within kept.by_links read in
    let is : set (get_or links s []) i (slot_in v) ≡ cell_links d = ap (λ l. set l i (slot_in v)) was
    ∙ sym (links_with_field (object_in c) i v holds' typed') ∙ sym (ap links_of becomes) in
    record {
      by_kind = kept.by_kind ∙ sym (map-set_same kind_in cells s d c (same ∙ ap kind_in read));
      by_links = written ∙ ap (set links s) is ∙ ap (λ l. set l s (cell_links d)) kept.by_links ∙ sym (map-set cell_links cells s d);
      small = rw (length-set cells s d) kept.small;
    }

-- an object is put into a cell
pub kept_put :
    (cells : List Cell) (kinds : List (Option Kind)) (links links' : List (List (Option ℕ))) (s : ℕ) (c : Cell) (kind : Option Kind)
    → AreKept cells kinds links → kind ≡ kind_in c → links' ≡ set links s no_links → cell_links c ≡ no_links
    → AreKept (set cells s c) (set kinds s kind) links'
kept_put cells kinds links links' s c kind kept is cleared blank =
    record {
      by_kind = rw (kept.by_kind, is) (sym (map-set kind_in cells s c));
      by_links = cleared ∙ ap (λ l. set l s no_links) kept.by_links ∙ ap (set (links_in cells) s) (sym blank)
          ∙ sym (map-set cell_links cells s c);
      small = rw (length-set cells s c) kept.small;
    }

-- free cells have no kinds, and no links
no_kinds : (cells : List Cell) (n : ℕ) → objects_in cells ≡ replicate n None → kinds_in cells ≡ replicate n None
no_kinds [] zero e = refl
no_kinds [] (suc n) e = absurd (cc)
no_kinds (c ∷ cells) zero e = cc
no_kinds (c ∷ cells) (suc n) e =
    let first : object_in c ≡ None = ap (λ l. slice_index_or l 0 None) e in
    rw (no_kinds cells n (ap (drop 1) e)) (ap (λ o. option_map kind_of o ∷ replicate n None) first)

null_links : (cells : List Cell) (n : ℕ) → objects_in cells ≡ replicate n None → links_in cells ≡ replicate n no_links
null_links [] zero e = refl
null_links [] (suc n) e = absurd (cc)
null_links (c ∷ cells) zero e = cc
null_links (c ∷ cells) (suc n) e =
    let first : object_in c ≡ None = ap (λ l. slice_index_or l 0 None) e in
    rw (null_links cells n (ap (drop 1) e)) (ap (λ o. links_of o ∷ replicate n no_links) first)

pub empty_objects : (count : ℕ) → objects_in (replicate count Free) ≡ replicate count None
empty_objects zero = refl
empty_objects (suc n) = ap (λ l. None ∷ l) (empty_objects n)

pub new_kept :
    (cells : List Cell) (kinds : List (Option Kind)) (links : List (List (Option ℕ))) (count : ℕ) → cells ≡ replicate count Free
    → count < 2 ^ 32 → kinds ≡ replicate count None → links ≡ replicate count no_links
    → AreKept cells kinds links
new_kept cells kinds links count empty fits by_kind by_links =
    let none = ap objects_in empty ∙ empty_objects count in
    record {
      by_kind = by_kind ∙ sym (no_kinds cells count none);
      by_links = by_links ∙ sym (null_links cells count none);
      small = omega (arith, fits, ap length empty, length-replicate {A = Cell} count Free);
    }
