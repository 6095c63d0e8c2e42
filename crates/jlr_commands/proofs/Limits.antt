-- The image of a book has limits that a trace file can tell.
use Rattle.std.proofs.Common.{◌≡◌, ℕ, ◌≤◌, Bool, true, false, cond, nat_le, Option, None, Some, refl, sym, subst}
use Rattle.std.proofs.lemmas.Bool.{and_parts, leb-true}
use Rattle.jlr_types.specs.declared.limits.Limits.{Limits}
use Rattle.jlr_types.specs.declared.limits.LimitFault.{LimitFault}
use Rattle.jlr_types.specs.declared.limits.LimitFault.TheVariants.{Cells, Sessions, Resources}
use Rattle.jlr_types.specs.Ranges.{is_within}
use Rattle.jlr_machine.specs.declared.machine.Machine.{Machine}
use Rattle.jlr_laws.proofs.Frames.{no_some}
use Rattle.jlr_book.specs.Histories.{HasLimits}
use Rattle.jlr_trace.specs.Ranges.{LimitsInRange}

passes : (b : Bool) (rest : Option LimitFault) (fault : LimitFault) → cond b rest (Some fault) ≡ None → (b ≡ true) × (rest ≡ None)
passes true rest fault e = (refl, e)
passes false rest fault e = no_some fault (sym e)

lies_within : (low high n : ℕ) → is_within low high n ≡ true → (low ≤ n) × (n ≤ high)
lies_within low high n e =
    let both = and_parts (nat_le low n) (nat_le n high) e in
    (leb-true low n both.0, leb-true n high both.1)

pub are_limits : (limits : Limits) (m : Machine) → HasLimits limits m → LimitsInRange m
are_limits limits m h =
    let cells = passes (is_within 16 65536 limits.cells) _ Cells limits.in_range in
    let sessions = passes (is_within 1 64 limits.sessions) _ Sessions cells.1 in
    let resources = passes (is_within 1 256 limits.resources) _ Resources sessions.1 in
    let some = lies_within 1 256 limits.resources resources.0 in
    record {
      cells = subst (λ (n : ℕ). 16 ≤ n) (sym h.cells) (lies_within 16 65536 limits.cells cells.0).0;
      sessions = subst (λ (n : ℕ). 1 ≤ n) (sym h.sessions) (lies_within 1 64 limits.sessions sessions.0).0;
      some_resources = subst (λ (n : ℕ). 1 ≤ n) (sym h.resources) some.0;
      few_resources = subst (λ (n : ℕ). n ≤ 256) (sym h.resources) some.1;
    }
