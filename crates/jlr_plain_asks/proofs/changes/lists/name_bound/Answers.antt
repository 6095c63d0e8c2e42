use Rattle.std.proofs.Common.{◌≡◌, ◌++◌, ◌∷◌, [], ◌+◌, drop, false}
use Rattle.jlr_machine.specs.Lookups.{bound, same_name}
use Rattle.jlr_plain_asks.proofs.Steps.{passed_more, name_passed}
use Rattle.jlr_plain_asks.proofs.changes.lists.name_bound.Goals as goal

pub loop-i-preserved : goal.loop-i-preserved
loop-i-preserved c =
    let missed : same_name c.index-names-i.result.name c.args.name.now ≡ false = let a = c.names_agree.ensures in let b =
    c.as_slice.ensures.bytes in let d = c.as_slice-in-loop-i.ensures.bytes in let e = c.if-names_agree.false in cc in
    let pushed : c.push-in-loop-i.new.self.items ≡ c.loop-i.out.items ++ c.index-names-i.result ∷ [] =
    let a = c.copy.ensures in let b = c.in_ok-push-2.ensures.items in cc in
    passed_more (λ l. bound l c.args.name.now c.args.slot) c.args.names.now c.loop-i.i c.index-names-i.result c.loop-i.out.items
    c.push-in-loop-i.new.self.items _ c.loop-i-test.true c.index-names-i.is
    (name_passed c.index-names-i.result c.args.name.now c.args.slot (drop (c.loop-i.i + 1) c.args.names.now) missed) c.loop-i.invariant
    pushed
