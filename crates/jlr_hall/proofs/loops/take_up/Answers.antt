use Rattle.std.proofs.Common.{sym, ◌∙◌}
use Rattle.std.specs.Sync.Mutex.{mutex_guard_value}
use Rattle.jlr_hall.proofs.Turns.{takes_job, takes_none}
use Rattle.jlr_hall.proofs.loops.take_up.Goals as goal

pub returns-in-Ok-clause-job : goal.returns-in-Ok-clause-job
returns-in-Ok-clause-job g c = λ first h.
    takes_job g.R.Resource.handling g.L.Limited.limits (mutex_guard_value c.args.locked).log c.ask_plain_under.result c.in-Ok.job first
    c.args.seat.now c.ask_plain_under.new.self h c.requires c.ask_plain_under.ensures.asked c.ask_plain_under.ensures.out
    (sym c.job_of.ensures ∙ c.in-Ok.is)

pub returns-in-Err-clause-none : goal.returns-in-Err-clause-none
returns-in-Err-clause-none g c = λ first h.
    takes_none g.R.Resource.handling g.L.Limited.limits (mutex_guard_value c.args.locked).log c.ask_plain_under.result c.in-Err.answer first
    c.args.seat.now c.ask_plain_under.new.self h c.requires c.ask_plain_under.ensures.asked c.ask_plain_under.ensures.out
    (sym c.job_of.ensures ∙ c.in-Err.is)
