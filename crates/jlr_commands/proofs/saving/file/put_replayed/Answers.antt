use Rattle.std.proofs.Common.{◌+◌, drop, subst, arith}
use Rattle.jlr_book.specs.Led.{LeadsOn}
use Rattle.jlr_book.proofs.Led.{legal_next, rest_is}
use Rattle.jlr_commands.proofs.Replaying.{all_bytes, all_range, begins, goes_on}
use Rattle.jlr_commands.proofs.saving.file.put_replayed.Goals as goal

pub loop-place-init : goal.loop-place-init
loop-place-init c = begins c.args.machine.now c.args.records.now c.args.out.now.items c.requires

pub put_next-requires : goal.put_next-requires
put_next-requires c =
    let n = c.loop-place.machine in
    let records = c.args.records.now in
    let i = c.loop-place.place in
    let r = c.index-records-place.result in
    legal_next n r (drop (i + 1) records)
    (subst (LeadsOn n) (rest_is records i r c.loop-place-test.true c.index-records-place.is) c.loop-place.invariant.leads)

pub loop-place-preserved : goal.loop-place-preserved
loop-place-preserved c =
    let written = c.in_ok-put_next.ensures in
    goes_on c.args.machine.now c.loop-place.machine c.put_next.new.machine c.args.records.now c.loop-place.place
    c.index-records-place.result c.args.out.now.items c.loop-place.out.items c.put_next.new.out.items c.loop-place-test.true
    c.index-records-place.is c.loop-place.invariant written.bytes written.range written.next

pub returns-clause-bytes : goal.returns-clause-bytes
returns-clause-bytes c =
    all_bytes c.args.machine.now c.loop-place.machine c.args.records.now c.loop-place.place c.args.out.now.items
    c.loop-place.out.items (omega arith) c.loop-place.invariant

pub returns-clause-range : goal.returns-clause-range
returns-clause-range c =
    all_range c.args.machine.now c.loop-place.machine c.args.records.now c.loop-place.place c.args.out.now.items
    c.loop-place.out.items (omega arith) c.loop-place.invariant
