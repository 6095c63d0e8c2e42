use Rattle.std.proofs.Common.{◌∷◌, [], arith}
use Rattle.std.proofs.lemmas.List.{length-append}
use Rattle.std.proofs.lemmas.Result.{err_from_is_err_and}
use Rattle.jlr_trace_fields.specs.Items.{items_at}
use Rattle.jlr_trace_fields.proofs.Loop.{goes_on, ends, is_done}
use Rattle.jlr_trace_entries.specs.Asks.{kind_read}
use Rattle.jlr_trace_entries.proofs.asks.layout.kinds_at.Goals as goal

pub returns-in_err-kind : goal.returns-in_err-kind
returns-in_err-kind c =
    let p = err_from_is_err_and c.from_residual.result c.from_residual.ensures.1 in
    rw (p.1, p.2) (ends kind_read c.in_err-kind.field-0.0 c.loop.layout c.args.count c.loop.counter c.loop.bytes.now
    (items_at kind_read c.args.count c.args.bytes.now.now) c.loop-test.true c.in_err-kind.ensures c.loop.invariant.read)

pub loop-preserved : goal.loop-preserved
loop-preserved c = record {
  read = rw c.push.ensures (goes_on kind_read c.loop.layout c.args.count c.loop.counter c.loop.bytes.now c.in_ok-kind.kind
      c.kind_at.new.bytes.now (items_at kind_read c.args.count c.args.bytes.now.now) c.loop-test.true c.in_ok-kind.ensures
      c.loop.invariant.read);
  full = rw c.push.ensures (omega (arith, length-append c.loop.layout (c.in_ok-kind.kind ∷ []), c.loop.invariant.full));
}

pub returns : goal.returns
returns c = is_done kind_read c.loop.layout c.args.count c.loop.counter c.loop.bytes.now
    (items_at kind_read c.args.count c.args.bytes.now.now) c.loop-test.false c.loop.invariant.read
