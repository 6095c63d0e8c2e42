use Rattle.std.proofs.Common.{◌≡◌, ◌<◌, ◌+◌, ◌∷◌, [], ◌++◌, List, length, arith, ap, ◌∙◌, sym, subst, length-append}
use Rattle.jlr_types.specs.declared.limits.Limits.{Limits}
use Rattle.jlr_log.specs.Seeing.{seen, whole_history}
use Rattle.jlr_hall.specs.declared.step.Step.{Step}
use Rattle.jlr_hall.specs.OneHistory.{IsWhole}
use Rattle.jlr_hall.proofs.Opening.{more_seats, new_whole}
use Rattle.jlr_hall.proofs.hall.Hall.open.Goals as goal

pub loop-index-preserved : goal.loop-index-preserved
loop-index-preserved g c =
    let i = c.loop-index.invariant in
    let x = c.new.result in
    let pushed : c.push.new.self.items ≡ c.loop-index.seats.items ++ x ∷ [] = c.in_ok-push.ensures.items in
    record {
      keeper = c.deal-pass.ensures.keeper ∙ ap (λ k. whole_history k.all (k.dealt + 1)) i.keeper;
      count = omega (arith, ap length pushed, length-append c.loop-index.seats.items (x ∷ []), i.count);
      seats = more_seats c.loop-index.seats.items c.push.new.self.items c.loop-index.index x pushed i.count
          (c.new.ensures ∙ c.deal-pass.ensures.pass ∙ ap (λ k. seen k.dealt k.all) i.keeper) i.seats;
    }

pub new-requires : goal.new-requires
new-requires g c =
    let i = c.loop-index.invariant in (
      ap (λ p. p.seat) c.deal-pass.ensures.pass ∙ ap (λ k. k.dealt) i.keeper,
      subst (λ (x : Limits). c.loop-index.index < x.sessions + 3) c.requires.limits c.loop-index-test.true,
    )

pub new-locked-requires : goal.new-locked-requires
new-locked-requires g c =
    let none = ap (λ k. k.all) c.loop-index.invariant.keeper in
    record {
      whole = subst (λ (x : Limits × List (Step g.row.R.Denot)). IsWhole x.0 c.in_ok-book.book x.1) (λ i. (c.requires.limits i, sym none i))
          (new_whole c.args.limits c.in_ok-book.book c.in_ok-book.ensures);
      none = none;
    }
