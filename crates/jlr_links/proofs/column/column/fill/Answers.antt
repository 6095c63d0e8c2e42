use Rattle.std.proofs.Common.{◌∙◌, ◌++◌, ◌∷◌, [], ap, sym, subst, arith}
use Rattle.jlr_links.specs.Columns.{IsLonger}
use Rattle.jlr_links.proofs.Writing.{longer}
use Rattle.jlr_links.proofs.column.column.fill.Goals as goal

pub loop-front-preserved : goal.loop-front-preserved
loop-front-preserved g c =
    let old = c.args.front.now.items in
    let front = c.loop-front.front.items in
    let kept = c.loop-front.invariant in
    let pushed = c.push_reserved.ensures.items ∙ ap (λ b. front ++ b ∷ []) c.blank.ensures in
    record {
      room = c.push_reserved.ensures.capacity ∙ kept.room;
      within = kept.within;
      same = subst (IsLonger c.args.count g.T.Blank.nothing old) (sym pushed)
          (longer old front c.args.count g.T.Blank.nothing
          (omega (arith, kept.within, c.loop-front-test.true, c.len.ensures, c.loop-front.front.ok.0)) kept.same);
    }
