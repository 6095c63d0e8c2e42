use Rattle.std.proofs.Common.{List, sym, subst}
use Rattle.jlr_hall.specs.declared.step.Step.{Step}
use Rattle.jlr_hall.specs.Locking.{Shows}
use Rattle.jlr_hall.proofs.Owing.{shown_none}
use Rattle.jlr_hall.proofs.hall.Locked.new.Goals as goal

pub invariant_of-result : goal.invariant_of-result
invariant_of-result g c =
    let dues = c.new-2.result in
    record {
      whole = c.requires.whole;
      shows = subst (λ (l : List (Step g.row.R.Denot)). Shows dues l) (sym c.requires.none)
          (shown_none dues c.new-2.ensures.long c.new-2.ensures.counts c.new-2.ensures.owed);
    }
