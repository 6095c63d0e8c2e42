use Rattle.std.proofs.Common.{rules, ◌≢◌, [], ◌∷◌, ◌++◌}
use Rattle.jlr_machine.specs.declared.ask.Ask.TheVariants.{HandOver}
use Rattle.jlr_event.specs.declared.event.Event.TheVariants.{Ask as Asks}
use Rattle.jlr_prog.specs.Settling.{HandsOver}
use Rattle.jlr_prog.specs.Solos.{at_book}
use Rattle.jlr_prog.proofs.HandingOver.{refused_turn, worked}
use Rattle.jlr_prog.proofs.Turns.{turns_more}
use Rattle.jlr_prog.proofs.solo.solo.Solo.hand_all_over.Goals as goal

pub loop-self-preserved : goal.loop-self-preserved
loop-self-preserved g c =
    let turn = worked at_book.hands (HandsOver at_book) (Asks HandOver) c.loop-self.self c.hand_over.new.self c.hand_over.result
    c.in-Worked.is c.hand_over.ensures.turn in (
      c.loop-self.invariant.0 ++ c.hand_over.new.self ∷ [],
      turns_more (HandsOver at_book) c.loop-self.invariant.0 _ c.loop-self.self c.hand_over.new.self c.loop-self.invariant.1 turn,
    )

pub returns-in-Refused : goal.returns-in-Refused
returns-in-Refused g c =
    let r = refused_turn at_book.hands (HandsOver at_book) (Asks HandOver) c.loop-self.self c.hand_over.new.self c.hand_over.result
    c.in-Refused.is c.hand_over.ensures.turn in
    let some : c.loop-self.self.core.machine.pending ≢ [] = search rules in
    record {
      states = c.loop-self.invariant.0;
      before =
          c.loop-self.self;
      last = r.0;
      turns = c.loop-self.invariant.1;
      something_left = some;
      asked = r.1;
      refused = r.2;
    }
