use Rattle.std.proofs.Common.{rules, ◌≢◌, ◌<◌, [], length, None, subst}
use Rattle.jlr_machine.specs.Run.{no_choice}
use Rattle.jlr_machine.specs.declared.ask.Answer.TheVariants.{Handed}
use Rattle.jlr_machine.specs.declared.ask.Ask.TheVariants.{HandOver}
use Rattle.jlr_event.specs.declared.event.Event.TheVariants.{Ask as Asks}
use Rattle.jlr_event.specs.declared.event.Reply.TheVariants.{Answered}
use Rattle.jlr_steps.specs.Cores.{Kept}
use Rattle.jlr_embed.proofs.Fitting.{stands_after}
use Rattle.jlr_embed.proofs.Handing.{less_pending}
use Rattle.jlr_embed.proofs.unrecorded.Unrecorded.hand_over.Goals as goal

pub invariant_of-self : goal.invariant_of-self
invariant_of-self g c = (
  search rules,
  stands_after c.self.inside.core c.hand_over.new.self (Asks HandOver) (Answered (Handed c.hand_over.result) None) no_choice
      c.hand_over.ensures.step c.self.invariant.1,
)

pub returns-clause-less : goal.returns-clause-less
returns-clause-less g c =
    let new = c.hand_over.new.self in
    let less = less_pending c.self.inside.core new c.hand_over.result no_choice c.hand_over.ensures.step c.self.invariant.1 in
    subst (λ (k : Kept g.row.R.Denot). k.machine.pending ≢ [] → length new.machine.pending < length k.machine.pending) c.self.view_is less
