use Rattle.std.proofs.Common.{arith, rules, ◌≡◌, ◌≤◌, length, take, [], ap}
use Rattle.jlr_session.proofs.SessionSoFar.{stands_first, stands_more, ends_in_chunk, ends_at_end, taken_of}
use Rattle.jlr_session.proofs.shell.converse.Goals as goal

pub loop-left-init : goal.loop-left-init
loop-left-init g c = (omega arith, stands_first _ _ _ _ _ c.new-pieces.ensures)

pub loop-left-preserved : goal.loop-left-preserved
loop-left-preserved g c =
    let room : length c.read.new.buf ≤ c.loop-left.left = search rules in
    let count : c.in-Ok.count ≤ length c.read.new.buf = search rules in (
      c.in_default-take_chunk.ensures.few,
      stands_more _ _ _ _ _ _ _ _ _ _ _ _ _ _ (take c.in-Ok.count c.read.new.buf) _ _ c.loop-left.invariant.1 c.in-Ok.ensures.bytes.0
          (taken_of c.read.new.buf c.in-Ok.count c.loop-left.left count room) c.in_default-take_chunk.ensures.taken,
    )

pub returns-in-Some : goal.returns-in-Some
returns-in-Some g c =
    let room : length c.read.new.buf ≤ c.loop-left.left = search rules in
    let count : c.in-Ok.count ≤ length c.read.new.buf = search rules in
    ends_in_chunk _ _ _ _ _ _ _ _ _ c.take_chunk.new.pieces _ c.take_chunk.new.answered _ _ (take c.in-Ok.count c.read.new.buf) _ _
    c.in-Some.end c.loop-left.invariant.1 c.in-Ok.ensures.bytes.0
    (taken_of c.read.new.buf c.in-Ok.count c.loop-left.left count room) c.in-Some.ensures.taken

pub returns-then-count-eq0 : goal.returns-then-count-eq0
returns-then-count-eq0 g c =
    let none : take c.in-Ok.count c.read.new.buf ≡ [] = ap (λ n. take n c.read.new.buf) c.if-count-eq0.true in
    ends_at_end _ _ _ _ _ _ _ _ _ _ _ _ (take c.in-Ok.count c.read.new.buf) _ c.close.result c.loop-left.invariant.0 c.loop-left.invariant.1
    c.in-Ok.ensures.bytes.0 none
    (c.in-Ok.ensures.bytes.1 c.if-count-eq0.true (search rules)) (search rules) (c.close.ensures c.loop-left.device)
