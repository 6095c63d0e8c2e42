-- What limits allow.
use Rattle.std.proofs.Common.{◌≡◌, ℕ, ◌≤◌, Bool, true, false, cond, nat_le, Option, None, Some, refl, sym}
use Rattle.std.proofs.lemmas.Bool.{and_parts, leb-true}
use Rattle.jlr_types.specs.declared.limits.Limits.{Limits}
use Rattle.jlr_types.specs.declared.limits.LimitFault.{LimitFault}
use Rattle.jlr_types.specs.declared.limits.LimitFault.TheVariants.{Cells, Sessions}
use Rattle.jlr_types.specs.Ranges.{is_within}
use Rattle.jlr_laws.proofs.Frames.{no_some}

passes : (b : Bool) (rest : Option LimitFault) (fault : LimitFault) → cond b rest (Some fault) ≡ None → (b ≡ true) × (rest ≡ None)
passes true rest fault e = (refl, e)
passes false rest fault e = no_some fault (sym e)

lies_within : (low high n : ℕ) → is_within low high n ≡ true → (low ≤ n) × (n ≤ high)
lies_within low high n e =
    let both = and_parts (nat_le low n) (nat_le n high) e in
    (leb-true low n both.0, leb-true n high both.1)

pub limits_hold : (limits : Limits) → (limits.cells ≤ 65536) × (1 ≤ limits.sessions) × (limits.sessions ≤ 64)
limits_hold limits =
    let cells = passes (is_within 16 65536 limits.cells) _ Cells limits.in_range in
    let sessions = passes (is_within 1 64 limits.sessions) _ Sessions cells.1 in
    let many = lies_within 1 64 limits.sessions sessions.0 in
    ((lies_within 16 65536 limits.cells cells.0).1, many.0, many.1)
