use Rattle.std.proofs.Common.{◌≡◌, ◌++◌, ◌∷◌, [], ap, true, false}
use Rattle.std.specs.Prelude.{not}
use Rattle.jlr_machine.specs.declared.machine.Binding.{Binding}
use Rattle.jlr_machine.specs.Lookups.{same_name}
use Rattle.jlr_plain_asks.proofs.Steps.{kept_more, left_more}
use Rattle.jlr_plain_asks.proofs.changes.lists.name_unbound.Goals.{then-not-names_agree+in_ok-push, else-not-names_agree}
use Rattle.jlr_plain_asks.proofs.changes.lists.name_unbound.Goals as goal

pub loop-binding-preserved : goal.loop-binding-preserved
loop-binding-preserved c =
    elim c.if-not-names_agree.branch [
      | then-not-names_agree+in_ok-push w ↦ (
          let missed : same_name c.binding-item.result.name c.args.name.now ≡ false =
          let a = c.names_agree.ensures in let b = c.as_slice.ensures.bytes in let e = w.if-not-names_agree.true in cc in
          let pushed : c.if-not-names_agree.out.items ≡ c.loop-binding.out.items ++ c.binding-item.result ∷ [] =
          let a = w.out-is in let b = w.in_ok-push.ensures.items in let d = w.copy.ensures in cc in
          kept_more (λ (b : Binding). not (same_name b.name c.args.name.now)) c.args.names.now c.loop-binding.binding-index
          c.binding-item.result c.loop-binding.out.items c.if-not-names_agree.out.items c.loop-binding-test.true c.binding-item.is
          (ap not missed) c.loop-binding.invariant pushed)
      | else-not-names_agree w ↦ (
          let found : same_name c.binding-item.result.name c.args.name.now ≡ true =
          let a = c.names_agree.ensures in let b = c.as_slice.ensures.bytes in let e = w.if-not-names_agree.false in cc in
          let same : c.if-not-names_agree.out.items ≡ c.loop-binding.out.items = let a = w.out-is in cc in
          left_more (λ (b : Binding). not (same_name b.name c.args.name.now)) c.args.names.now c.loop-binding.binding-index
          c.binding-item.result c.loop-binding.out.items c.if-not-names_agree.out.items c.loop-binding-test.true c.binding-item.is
          (ap not found) c.loop-binding.invariant same)
    ]
