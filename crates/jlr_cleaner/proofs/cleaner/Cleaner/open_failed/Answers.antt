use Rattle.std.proofs.Common.{◌≡◌, Some}
use Rattle.jlr_machine.specs.declared.machine.ResourceState.TheVariants.{Opening}
use Rattle.jlr_resource.specs.Resources.{resource_state_at}
use Rattle.jlr_cleaner.proofs.Registering.{one_less_waits}
use Rattle.jlr_cleaner.proofs.Closing.{closing_ended}
use Rattle.jlr_cleaner.proofs.cleaner.Cleaner.open_failed.Goals as goal

pub invariant_of-self : goal.invariant_of-self
invariant_of-self g c =
    let there : resource_state_at c.self.inside.table c.args.rid ≡ Some Opening = rw (← c.self.view_is) at c.requires.opening in
    record {
      registered =
          rw c.clear.ensures (one_less_waits c.self.inside.waiting c.self.inside.next_action c.args.place c.self.invariant.registered);
      closing = closing_ended c.self.inside.table c.closed.new.self c.args.rid c.self.inside.running (λ e. cc (there, e))
          c.self.invariant.closing c.closed.ensures.resources;
      adds_up = c.self.invariant.adds_up;
      numbered = c.self.invariant.numbered;
    }
