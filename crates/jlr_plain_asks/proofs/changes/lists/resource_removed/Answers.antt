use Rattle.std.proofs.Common.{◌≡◌, ◌++◌, ◌∷◌, [], sym, ◌∙◌}
use Rattle.std.specs.Prelude.{not, ◌==◌}
use Rattle.jlr_machine.specs.declared.machine.Resource.{Resource}
use Rattle.jlr_plain_asks.proofs.Steps.{kept_more, left_more, differs, agrees}
use Rattle.jlr_plain_asks.proofs.changes.lists.resource_removed.Goals.{then-number+in_ok-push, else-number}
use Rattle.jlr_plain_asks.proofs.changes.lists.resource_removed.Goals as goal

pub loop-resource-preserved : goal.loop-resource-preserved
loop-resource-preserved c =
    elim c.if-number.branch [
      | then-number+in_ok-push w ↦ (
          let pushed : c.if-number.out.items ≡ c.loop-resource.out.items ++ c.resource-item.result ∷ [] =
          let a = w.out-is in let b = w.in_ok-push.ensures.items in cc in
          kept_more (λ (r : Resource). not (r.rid == c.args.rid)) c.args.resources.now c.loop-resource.resource-index c.resource-item.result
          c.loop-resource.out.items c.if-number.out.items c.loop-resource-test.true c.resource-item.is
          (differs c.resource-item.result.rid c.args.rid
          (λ e. w.if-number.true (c.number.ensures ∙ e ∙ sym c.number-in-loop-resource.ensures))) c.loop-resource.invariant pushed)
      | else-number w ↦ (
          let same : c.if-number.out.items ≡ c.loop-resource.out.items = let a = w.out-is in cc in
          left_more (λ (r : Resource). not (r.rid == c.args.rid)) c.args.resources.now c.loop-resource.resource-index c.resource-item.result
          c.loop-resource.out.items c.if-number.out.items c.loop-resource-test.true c.resource-item.is
          (agrees c.resource-item.result.rid c.args.rid (sym c.number.ensures ∙ w.if-number.false ∙ c.number-in-loop-resource.ensures))
          c.loop-resource.invariant same)
    ]
