use Rattle.jlr_types.specs.declared.Work.TheVariants.{Resource as WorkOn}
use Rattle.jlr_machine.specs.declared.machine.ResourceState.TheVariants as state
use Rattle.jlr_resource.specs.declared.place.Kept.TheVariants as kept
use Rattle.jlr_cleaner.specs.Cleanings.{HasWork}
use Rattle.jlr_cleaner.proofs.Closing.{work_changed}
use Rattle.jlr_low_rows.proofs.tests.cleaner.open_call_close.Goals as goal

pub take_up-requires-clause-idle : goal.take_up-requires-clause-idle
take_up-requires-clause-idle g c =
    let opened : HasWork c.opened.new.self.table c.args.action state.Idle (WorkOn c.args.rid) =
    rw c.opened.ensures.idle
    (work_changed c.args.cleaner.now.table c.args.action c.args.rid state.Opening (kept.Idle c.args.resource) c.requires.opening) in
    let out : HasWork c.check_out-resource.new.self.table c.args.action state.Out (WorkOn c.args.rid) =
    rw c.check_out-resource.ensures.out (work_changed c.opened.new.self.table c.args.action c.args.rid state.Idle kept.Out opened) in
    rw c.check_in.ensures.idle (work_changed c.check_out-resource.new.self.table c.args.action c.args.rid state.Out
    (kept.Idle c.check_out-resource.result) out)
