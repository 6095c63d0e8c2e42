use Rattle.std.proofs.Common.{rules, arith, ◌≡◌, ◌≢◌, ◌<◌, ◌+◌, length}
use Rattle.jlr_wire.specs.declared.pieces.LineAt.TheVariants.{Nowhere}
use Rattle.jlr_session.specs.Limits.{most_lines}
use Rattle.jlr_session.proofs.Taking.{taken_none, taken_on, taken_line, taken_end, taken_many, taken_all}
use Rattle.jlr_session.proofs.shell.take_chunk.Goals as goal

pub loop-rest-init : goal.loop-rest-init
loop-rest-init g c = (c.requires, taken_none _ _ _ _ _ _)

pub loop-rest-preserved : goal.loop-rest-preserved
loop-rest-preserved g c =
    let more : c.next-next.result.at ≡ Nowhere = search rules in (
      c.loop-rest.invariant.0,
      rw c.split_at.ensures.back
          (taken_on _ _ _ _ _ _ _ _ _ _ _ _ _ _ c.loop-rest.invariant.1 c.next-next.ensures.line more),
    )

pub loop-rest-preserved-else-answered-eq-MOST_LINES : goal.loop-rest-preserved-else-answered-eq-MOST_LINES
loop-rest-preserved-else-answered-eq-MOST_LINES g c =
    let ended : c.next-next.result.at ≢ Nowhere = search rules in
    let few : c.loop-rest.answered + 1 < most_lines = omega (arith, c.loop-rest.invariant.0, c.if-answered-eq-MOST_LINES.false) in (
      few,
      rw c.split_at.ensures.back (taken_line _ _ _ _ _ _ _ _ _ _ _ _ _ _ _ _ _ c.loop-rest.invariant.1 c.next-next.ensures.line ended
          c.line_at-line.ensures c.in_default-answer_line.ensures),
    )

pub returns-then-answered-eq-MOST_LINES-clause-taken : goal.returns-then-answered-eq-MOST_LINES-clause-taken
returns-then-answered-eq-MOST_LINES-clause-taken g c =
    let ended : c.next-next.result.at ≢ Nowhere = search rules in
    taken_many _ _ _ _ _ _ _ _ _ _ _ c.if-answered-eq-MOST_LINES.true
    (taken_line _ _ _ _ _ _ _ _ _ _ _ _ _ _ _ _ _ c.loop-rest.invariant.1 c.next-next.ensures.line ended c.line_at-line.ensures
    c.in_default-answer_line.ensures)

pub returns-in-Some-clause-taken : goal.returns-in-Some-clause-taken
returns-in-Some-clause-taken g c =
    let ended : c.next-next.result.at ≢ Nowhere = search rules in
    taken_end _ _ _ _ _ _ _ _ _ _ _ _ _ _ _ _ _ c.in-Some.end (c.loop-rest.answered) c.loop-rest.invariant.0 c.loop-rest.invariant.1
    c.next-next.ensures.line ended c.line_at-line.ensures c.in-Some.ensures

pub returns-clause-taken : goal.returns-clause-taken
returns-clause-taken g c =
    let none : length c.loop-rest.rest.now ≡ 0 = search rules in
    taken_all _ _ _ _ _ _ _ _ _ _ _ none c.loop-rest.invariant.1
