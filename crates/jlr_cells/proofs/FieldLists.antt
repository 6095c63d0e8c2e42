-- Fields that become blank, one after another.
use Rattle.std.proofs.Common.{◌≡◌, ℕ, ◌+◌, ◌<◌, List, [], ◌∷◌, ◌++◌, refl, Some, length, map, take, get_or, sym}
use Rattle.std.specs.Prelude.{slice_get}
use Rattle.std.proofs.lemmas.List.{take_more, map-append}
use Rattle.std.proofs.lemmas.Option.{slice_get_within, get_or_from_slice_get}
use Rattle.jlr_types.specs.declared.FieldKind.{FieldKind}
use Rattle.jlr_types.specs.declared.FieldValue.{FieldValue}
use Rattle.jlr_machine.specs.Lookups.{blank}

pub blank_more :
    (fields fields' : List FieldValue) (kinds : List FieldKind) (i : ℕ) (kind : FieldKind) (v : FieldValue)
    → fields ≡ map blank (take i kinds) → Some kind ≡ slice_get kinds i → v ≡ blank kind → fields' ≡ fields ++ v ∷ []
    → fields' ≡ map blank (take (i + 1) kinds)
blank_more fields fields' kinds i kind v so_far here is_blank added =
    let within : i < length kinds = slice_get_within kinds i kind (sym here) in
    let read : get_or kinds i kind ≡ kind = get_or_from_slice_get kinds i kind kind (sym here) in
    rw (added, so_far, is_blank, take_more kinds i kind within, read, map-append blank (take i kinds) (kind ∷ [])) refl
