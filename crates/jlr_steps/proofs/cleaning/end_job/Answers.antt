use Rattle.std.proofs.Common.{sym, ◌∙◌}
use Rattle.jlr_state.proofs.Awaiting.{finished_waits}
use Rattle.jlr_state.proofs.Moving.{finished_lie, finished_room}
use Rattle.jlr_steps.proofs.cleaning.end_job.Goals as goal

pub returns-clause-lies : goal.returns-clause-lies
returns-clause-lies g c =
    let finished = c.finish.ensures in
    finished_lie c.args.state.now.cleaner c.finish.new.self c.args.by c.args.action c.args.outcome
    (sym finished.answer ∙ c.if-not-finish.false) finished.finished finished.values

pub returns-clause-table_room : goal.returns-clause-table_room
returns-clause-table_room g c =
    let finished = c.finish.ensures in
    finished_room c.args.state.now.cleaner c.finish.new.self c.args.by c.args.action c.args.outcome
    (sym finished.answer ∙ c.if-not-finish.false) finished.finished

pub returns-clause-waits : goal.returns-clause-waits
returns-clause-waits g c =
    let finished = c.finish.ensures in
    finished_waits c.args.state.now.cleaner c.finish.new.self c.args.by c.args.action c.args.outcome
    (sym finished.answer ∙ c.if-not-finish.false) finished.finished
