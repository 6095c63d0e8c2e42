use Rattle.std.proofs.Common.{List, arith, subst, rules}
use Rattle.jlr_log.specs.Seeing.{Seen}
use Rattle.jlr_hall.specs.declared.step.Step.{Step}
use Rattle.jlr_hall.specs.Closing.{Closes}
use Rattle.jlr_server.proofs.Works.{or_then}
use Rattle.jlr_server.proofs.server.close.Goals as goal

pub returns-in-Ok-close : goal.returns-in-Ok-close
returns-in-Ok-close g c =
    let told = c.in-Ok.ensures in
    record {
      served = λ devices began. record {
        works = c.args.works.items;
        all = told.4;
        began = began;
        given_back = told.1;
        one_each = search (rules, arith);
        closes = subst (λ (seats : List (Seen (Step g.row.D-Res.Denot))). Closes g.L.Limited.limits seats c.in-Ok-close.book) told.0
            c.in-Ok-close.ensures.closes;
        accepted = search (rules, arith);
        failed = told.3;
        as_many = or_then (c.are_enough.ensures c.if-not-are_enough.false) (λ fewer. (c.heard.invariant fewer.0, fewer.1));
      };
    }
