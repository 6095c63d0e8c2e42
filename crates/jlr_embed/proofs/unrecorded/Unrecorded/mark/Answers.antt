use Rattle.std.proofs.Common.{rules}
use Rattle.jlr_machine.specs.Run.{no_choice}
use Rattle.jlr_event.specs.declared.event.Event.TheVariants.{Mark}
use Rattle.jlr_event.specs.declared.event.Reply.TheVariants.{Marked}
use Rattle.jlr_embed.proofs.Fitting.{stands_after}
use Rattle.jlr_embed.proofs.unrecorded.Unrecorded.mark.Goals as goal

pub invariant_of-self : goal.invariant_of-self
invariant_of-self g c = (
  search rules,
  stands_after c.self.inside.core c.mark.new.self (Mark c.args.budget) (Marked c.mark.result) no_choice c.mark.ensures.step
      c.self.invariant.1,
)
