use Rattle.std.proofs.Common.{sym, subst, List}
use Rattle.jlr_log.specs.Seeing.{AllOf}
use Rattle.jlr_hall.specs.declared.step.Step.{Step}
use Rattle.jlr_hall.specs.OneHistory.{seat_of}
use Rattle.jlr_hall.proofs.Steps.{all_added}
use Rattle.jlr_hall.proofs.hall.note.Goals as goal

pub tell-requires : goal.tell-requires
tell-requires g c =
    let a = c.args in
    let all = all_added a.seat a.was.now.value a.event.now.value a.reply.now a.book.now in
    subst (λ n. AllOf seat_of n g.J.Telling.told) (sym c.requires.seat)
    (subst (λ (l : List (Step g.row.R.Denot)). AllOf seat_of a.seat l) (sym c.requires.told) all)
