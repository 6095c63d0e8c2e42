use Rattle.std.proofs.Common.{◌≤◌, ◌^◌, length, sym, ◌∙◌, subst}
use Rattle.jlr_machine.specs.declared.machine.Machine.{Machine}
use Rattle.jlr_machine.specs.Edges.{roots}
use Rattle.jlr_laws.specs.Laws.{IsWithinHeap}
use Rattle.jlr_plain.proofs.Applying.{carried_is, seen_said, seen_kept}
use Rattle.jlr_plain.proofs.apply.complete.Goals as goal

pub returns-then-kept : goal.returns-then-kept
returns-then-kept c =
    seen_kept c.args.machine c.in_ok-next.next c.args.entry.now
    (carried_is c.args.machine c.in_ok-next.next c.args.entry.now c.as_slice.result.now c.in_ok-next.ensures
    (c.as_slice.ensures.slots ∙ c.fresh.ensures))
    (c.requires.kept c.if-kept.true)

pub seen_plain-requires : goal.seen_plain-requires
seen_plain-requires c =
    let is = carried_is c.args.machine c.in_ok-next.next c.args.entry.now c.as_slice.result.now c.in_ok-next.ensures
    (c.as_slice.ensures.slots ∙ c.fresh.ensures) in
    let Small : Machine → Type 0 = λ x. length x.objects ≤ 2 ^ 32 in
    let Within : Machine → Type 0 = λ x. IsWithinHeap x.objects (roots x) in
    record { cells = subst Small (sym is) c.requires.cells; within = subst Within (sym is) c.requires.within }

pub returns : goal.returns
returns c =
    let is = carried_is c.args.machine c.in_ok-next.next c.args.entry.now c.as_slice.result.now c.in_ok-next.ensures
    (c.as_slice.ensures.slots ∙ c.fresh.ensures) in
    seen_said c.args.machine c.in_ok-next.next c.args.entry.now c.from_vec.result is (c.from_vec.ensures ∙ c.in_ok-seen.ensures)
