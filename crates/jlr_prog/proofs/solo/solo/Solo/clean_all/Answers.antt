use Rattle.std.proofs.Common.{rules, ◌≢◌, [], ◌∷◌, ◌++◌, inr}
use Rattle.jlr_machine.specs.declared.ask.Ask.TheVariants.{TakeUp}
use Rattle.jlr_event.specs.declared.event.Event.TheVariants.{Ask as Asks}
use Rattle.jlr_device.specs.Handling.{Handling}
use Rattle.jlr_prog.specs.Settling.{Works}
use Rattle.jlr_prog.specs.Solos.{at_book}
use Rattle.jlr_prog.proofs.HandingOver.{refused_turn, worked}
use Rattle.jlr_prog.proofs.Turns.{turns_more}
use Rattle.jlr_prog.proofs.solo.solo.Solo.clean_all.Goals as goal

pub loop-self-preserved : goal.loop-self-preserved
loop-self-preserved g c =
    let resource : Handling g.row.R.Denot = g.R.Resource.handling in
    let turn = worked at_book.cleans (Works at_book resource) (Asks TakeUp) c.loop-self.self c.clean.new.self c.clean.result c.in-Worked.is
    c.clean.ensures.turn in (
      c.loop-self.invariant.0 ++ c.clean.new.self ∷ [],
      turns_more (Works at_book resource) c.loop-self.invariant.0 _ c.loop-self.self c.clean.new.self c.loop-self.invariant.1 turn,
    )

pub returns-in-Refused : goal.returns-in-Refused
returns-in-Refused g c =
    let resource : Handling g.row.R.Denot = g.R.Resource.handling in
    let r = refused_turn at_book.cleans (Works at_book resource) (Asks TakeUp) c.loop-self.self c.clean.new.self c.clean.result
    c.in-Refused.is c.clean.ensures.turn in
    let some : c.loop-self.self.core.machine.line ≢ [] = search rules in
    inr (record {
      states = c.loop-self.invariant.0;
      before =
          c.loop-self.self;
      last = r.0;
      turns = c.loop-self.invariant.1;
      something_left = some;
      asked = r.1;
      refused = r.2;
    })
