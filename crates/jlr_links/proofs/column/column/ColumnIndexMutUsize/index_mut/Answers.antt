use Rattle.std.proofs.Common.{◌<◌, length, refl, ap, sym, ◌∙◌, subst}
use Rattle.jlr_links.proofs.Writing.{long, stood, written}
use Rattle.jlr_links.proofs.column.column.ColumnIndexMutUsize.index_mut.Goals as goal

pub reach-requires-clause-place : goal.reach-requires-clause-place
reach-requires-clause-place g c =
    let s = c.self.inside in
    let many = ap length (sym c.self.view_is) ∙ long s.front.items s.length s.blank c.self.invariant.within in
    subst (λ n. c.args.index < n) many c.requires

pub returns : goal.returns
returns g c =
    let s = c.self.inside in
    let old = s.front.items in
    let new = c.reach.new.front.items in
    let longer = c.reach.ensures.same in
    let nothing = g.T.Blank.nothing in
    let kept = c.self.invariant.blank_is in
    let held = c.args.self.now in
    let i = c.args.index in
    let there = c.reach.ensures.reached in (
      (refl, written old new held s.length i s.blank nothing kept c.self.view_is there longer),
      record {
        writes_back = tt;
        value = stood old new held s.length i s.blank nothing kept c.self.view_is there longer
            c.index_mut.result.now c.index_mut.ensures.value;
      },
    )
