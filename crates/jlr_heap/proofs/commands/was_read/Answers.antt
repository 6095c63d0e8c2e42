use Rattle.std.proofs.Common.{◌≡◌, refl}
use Rattle.jlr_machine.specs.declared.ask.CallOutcome.TheVariants.{Data, Failed}
use Rattle.jlr_event.specs.declared.event.Event.TheVariants.{CheckIn}
use Rattle.jlr_heap.specs.Files.{data_outcome}
use Rattle.jlr_heap.proofs.Telling.{told}
use Rattle.jlr_heap.proofs.commands.was_read.Goals as goal

pub returns-in-Ok : goal.returns-in-Ok
returns-in-Ok g c =
    let same : CheckIn c.me.result (Data c.in-Ok.bytes) c.args.held ≡ CheckIn 0 (data_outcome c.args.outcome) c.args.held =
    rw c.in-Ok.is (rw c.me.ensures refl) in
    told g.K.Keeper.asking _ _ _ _ _ _ _ same c.carry-answer.ensures.asked c.data.ensures

pub returns-in-Err : goal.returns-in-Err
returns-in-Err g c =
    let same : CheckIn c.me-in-Err.result (Failed c.in-Err.fault) c.args.held ≡ CheckIn 0 (data_outcome c.args.outcome) c.args.held =
    rw c.in-Err.is (rw c.me-in-Err.ensures refl) in
    told g.K.Keeper.asking _ _ _ _ _ _ _ same c.carry-answer-in-Err.ensures.asked c.failure.ensures
