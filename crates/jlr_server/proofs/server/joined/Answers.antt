use Rattle.std.specs.Vec.Iter.{into_iter_items}
use Rattle.jlr_server.proofs.Begins.{one_joined}
use Rattle.jlr_server.proofs.server.joined.Goals as goal

pub loop-thread-preserved-then-is_added : goal.loop-thread-preserved-then-is_added
loop-thread-preserved-then-is_added g c = λ devices began.
    one_joined _ devices c.in-Some.thread (into_iter_items c.loop-thread.thread-iterator) (into_iter_items c.next.new.self)
    c.loop-thread.back.items c.is_added.new.list.items c.join.result c.is_added.result c.in-Some.ensures.steps.0 c.is_added.ensures
    c.join.ensures (c.loop-thread.invariant devices began)

pub loop-thread-preserved : goal.loop-thread-preserved
loop-thread-preserved g c = λ devices began.
    one_joined _ devices c.in-Some.thread (into_iter_items c.loop-thread.thread-iterator) (into_iter_items c.next.new.self)
    c.loop-thread.back.items c.is_added.new.list.items c.join.result c.is_added.result c.in-Some.ensures.steps.0 c.is_added.ensures
    c.join.ensures (c.loop-thread.invariant devices began)

pub returns-then-all : goal.returns-then-all
returns-then-all g c = λ devices began. (c.loop-thread.invariant devices began).0
