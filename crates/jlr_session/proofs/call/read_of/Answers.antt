use Rattle.std.proofs.Common.{rules, ◌≡◌, take, ap, refl}
use Rattle.jlr_machine.specs.declared.ask.CallOutcome.TheVariants.{Data, Failed}
use Rattle.jlr_session.specs.Calls.{read_outcome}
use Rattle.jlr_session.proofs.Calling.{reads}
use Rattle.jlr_session.proofs.call.read_of.Goals as goal

pub returns-in-Ok : goal.returns-in-Ok
returns-in-Ok g c =
    let e = c.guarded_read.ensures in
    let text : c.fill.new.self ≡ take c.in-Ok.n c.guarded_read.new.buf = search rules in
    let is : Data c.fill.new.self ≡ read_outcome c.guarded_read.result c.guarded_read.new.buf = rw c.in-Ok.is (ap Data text) in
    reads g.D.Res.Resource.handling c.args.count _ _ c.guarded_read.result _ c.guarded_read.new.buf _ (search rules) e.either e.counted
    e.told e.uncalled e.bound is

pub returns-in-Err : goal.returns-in-Err
returns-in-Err g c =
    let e = c.guarded_read.ensures in
    let is : Failed c.in-Err.fault ≡ read_outcome c.guarded_read.result c.guarded_read.new.buf = rw c.in-Err.is refl in
    reads g.D.Res.Resource.handling c.args.count _ _ c.guarded_read.result _ c.guarded_read.new.buf _ (search rules) e.either e.counted
    e.told e.uncalled e.bound is
