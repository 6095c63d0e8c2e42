use Rattle.std.proofs.Common.{ℕ, map}
use Rattle.std.proofs.lemmas.List.{map-append}
use Rattle.jlr_machine.specs.declared.machine.Binding.{Binding}
use Rattle.jlr_plain_collections.proofs.Slow.{loop_more}
use Rattle.jlr_plain_collections.proofs.roots.push_names.Goals as goal

pub loop-binding-preserved : goal.loop-binding-preserved
loop-binding-preserved c =
    loop_more {A = Binding} {B = ℕ} (map (λ (b : Binding). b.slot)) (map-append {A = Binding} {B = ℕ} (λ (b : Binding). b.slot))
    c.args.names.now c.loop-binding.binding-index c.binding-item.result c.args.out.now.items c.loop-binding.out.items
    c.push.new.self.items c.loop-binding-test.true c.binding-item.is c.loop-binding.invariant c.in_ok-push.ensures.items
