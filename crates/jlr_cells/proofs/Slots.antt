-- The objects in cells, at one slot.
use Rattle.std.proofs.Common.{◌≡◌, ◌≢◌, ℕ, zero, suc, ◌+◌, ◌<◌, Bool, true, cond, List, [], ◌∷◌, Option, Some, None, length, set, get_or}
use Rattle.std.proofs.Common.{refl, ap, sym, ◌∙◌, arith}
use Rattle.std.specs.Prelude.{slice_get, is_some, option_and_then, option_map}
use Rattle.std.proofs.lemmas.List.{map-set, length-map}
use Rattle.std.proofs.lemmas.Option.{slice_get_read}
use Rattle.std.proofs.lemmas.List.Sums.{sum_by-set}
use Rattle.jlr_machine.specs.declared.object.Object.{Object}
use Rattle.jlr_machine.specs.Objects.{at, occupied, change_at, some_and}
use Rattle.jlr_machine.specs.Refusals.{is_cleanable, is_queue, is_reference}
use Rattle.jlr_cells.specs.declared.cell.Cell.{Cell}
use Rattle.jlr_cells.specs.declared.cell.Cell.TheVariants.{Free}
use Rattle.jlr_cells.specs.Contents.{object_in, objects_in, field_in}

-- what is at a slot is what its cell holds
pub at-objects_in : (cells : List Cell) (s : ℕ) → at (objects_in cells) s ≡ option_and_then object_in (slice_get cells s)
at-objects_in [] s = refl
at-objects_in (c ∷ cells) zero = refl
at-objects_in (c ∷ cells) (suc s) = at-objects_in cells s

-- another cell is as it was
pub slice_get-set_other : {X : Type 0} (xs : List X) (s t : ℕ) (x : X) → t ≢ s → slice_get (set xs s x) t ≡ slice_get xs t
slice_get-set_other [] s t x ne = refl
slice_get-set_other (y ∷ ys) zero zero x ne = absurd (ne refl)
slice_get-set_other (y ∷ ys) zero (suc t) x ne = refl
slice_get-set_other (y ∷ ys) (suc s) zero x ne = refl
slice_get-set_other (y ∷ ys) (suc s) (suc t) x ne = slice_get-set_other ys s t x (λ e. ne (ap suc e))

pub slice_get-set_same : {X : Type 0} (xs : List X) (s : ℕ) (x : X) → s < length xs → slice_get (set xs s x) s ≡ Some x
slice_get-set_same [] s x h = absurd (omega arith)
slice_get-set_same (y ∷ ys) zero x h = refl
slice_get-set_same (y ∷ ys) (suc s) x h = slice_get-set_same ys s x (omega arith)

-- a cell with an object, or without
abbrev pub one_if : Bool → ℕ
one_if b = cond b 1 0

-- how many objects there are when a cell is put in the place of another
pub occupied-set :
    (cells : List Cell) (s : ℕ) (c : Cell) (was now : Option Object) → s < length cells
    → at (objects_in cells) s ≡ was → object_in c ≡ now
    → occupied (objects_in (set cells s c)) + one_if (is_some was) ≡ occupied (objects_in cells) + one_if (is_some now)
occupied-set cells s c was now within e_was e_now =
    let f : Option Object → ℕ = λ o. cond (is_some o) 1 0 in
    let within' : s < length (objects_in cells) = simp length-map within in
    rw (map-set object_in cells s c, ← e_was, ← e_now) (sum_by-set f (objects_in cells) s (object_in c) None within')

-- an object lies within the cells
pub within_cells : (cells : List Cell) (s : ℕ) → is_some (at (objects_in cells) s) ≡ true → s < length cells
within_cells [] s h = cc
within_cells (c ∷ cells) zero h = omega arith
within_cells (c ∷ cells) (suc s) h = let below : s < length cells = within_cells cells s h in omega arith

-- a plain object, a reference, a cleanable or a queue is an object
pub object_of_field : (o : Option Object) (field : ℕ) → is_some (field_in o field) ≡ true → is_some o ≡ true
object_of_field None field h = h
object_of_field (Some o) field h = refl

pub object_of_reference : (o : Option Object) → some_and is_reference o ≡ true → is_some o ≡ true
object_of_reference None h = h
object_of_reference (Some o) h = refl

pub object_of_cleanable : (o : Option Object) → some_and is_cleanable o ≡ true → is_some o ≡ true
object_of_cleanable None h = h
object_of_cleanable (Some o) h = refl

pub object_of_queue : (o : Option Object) → some_and is_queue o ≡ true → is_some o ≡ true
object_of_queue None h = h
object_of_queue (Some o) h = refl

-- what is in a cell that was read
pub at-read : (cells : List Cell) (s : ℕ) (c : Cell) → s < length cells → c ≡ get_or cells s c → at (objects_in cells) s ≡ object_in c
at-read cells s c within read =
    at-objects_in cells s ∙ ap (option_and_then object_in) (slice_get_read cells (length cells) s c refl within read)

-- what is at a slot, by the cell that was found there
at_or_free : (cells : List Cell) (s : ℕ) → at (objects_in cells) s ≡ object_in (get_or cells s Free)
at_or_free [] s = refl
at_or_free (c ∷ cells) zero = refl
at_or_free (c ∷ cells) (suc s) = at_or_free cells s

pub at_gotten : (cells : List Cell) (n s : ℕ) (c : Cell) → n ≡ s → c ≡ get_or cells n Free → at (objects_in cells) s ≡ object_in c
at_gotten cells n s c e got = ap (at (objects_in cells)) (sym e) ∙ at_or_free cells n ∙ ap object_in (sym got)

-- a cell whose object is changed is put in its place
pub change_at-objects_in :
    (cells : List Cell) (s : ℕ) (c d : Cell) (f : Object → Object) → s < length cells
    → c ≡ get_or cells s c → object_in d ≡ option_map f (object_in c) → objects_in (set cells s d) ≡ change_at (objects_in cells) s f
change_at-objects_in cells s c d f within read becomes =
    rw (map-set object_in cells s d, becomes, at-read cells s c within read) refl
