use Rattle.jlr_cleaner.proofs.Closing.{closing_prepared}
use Rattle.jlr_cleaner.proofs.cleaner.Cleaner.prepare.Goals as goal

pub invariant_of-self : goal.invariant_of-self
invariant_of-self g c = record {
  registered = c.self.invariant.registered;
  closing = closing_prepared c.self.inside.table c.prepare.new.self c.self.inside.running c.args.action c.prepare.result
      c.prepare.ensures.free c.prepare.ensures.resources c.prepare.ensures.err c.self.invariant.closing;
  adds_up = c.self.invariant.adds_up;
  numbered = c.self.invariant.numbered;
}
