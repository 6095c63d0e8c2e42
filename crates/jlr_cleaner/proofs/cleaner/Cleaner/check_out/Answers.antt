use Rattle.std.proofs.Common.{◌≡◌, Some}
use Rattle.jlr_machine.specs.declared.machine.ResourceState.TheVariants.{Idle}
use Rattle.jlr_resource.specs.Resources.{resource_state_at}
use Rattle.jlr_cleaner.proofs.Closing.{closing_in_state}
use Rattle.jlr_cleaner.proofs.cleaner.Cleaner.check_out.Goals as goal

pub invariant_of-self : goal.invariant_of-self
invariant_of-self g c =
    let there : resource_state_at c.self.inside.table c.args.rid ≡ Some Idle = rw (← c.self.view_is) at c.requires in
    record {
      registered = c.self.invariant.registered;
      closing = closing_in_state c.self.inside.table c.check_out.new.self c.args.rid c.self.inside.running (λ e. cc (there, e))
          c.self.invariant.closing _ c.check_out.ensures.resources;
      adds_up = c.self.invariant.adds_up;
      numbered = c.self.invariant.numbered;
    }
