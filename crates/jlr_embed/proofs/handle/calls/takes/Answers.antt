use Rattle.jlr_embed.proofs.Carrying.{carried}
use Rattle.jlr_embed.proofs.handle.calls.takes.Goals as goal

pub returns-in-Some : goal.returns-in-Some
returns-in-Some c = carried c.args.heap.now.value c.args.event c.in-Some.answer c.in-Some.token c.carry.new.heap.value _ _
    c.in-Some.ensures.asked c.job.ensures
