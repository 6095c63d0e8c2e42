use Rattle.std.proofs.Common.{arith}
use Rattle.jlr_trace_entries.proofs.Placing.{pad-more, pad-done}
use Rattle.jlr_trace_entries.proofs.places.pad.Goals as goal

pub loop-preserved : goal.loop-preserved
loop-preserved g c = record {
  items = pad-more c.args.places.now.items c.loop.places.items c.push.new.self.items c.loop.counter c.in_ok-push.ensures.items
      c.loop.invariant.items (omega arith);
  bound = omega arith;
}

pub returns : goal.returns
returns g c = pad-done c.args.places.now.items c.loop.places.items c.loop.counter c.args.upto c.loop.invariant.items (omega arith)
