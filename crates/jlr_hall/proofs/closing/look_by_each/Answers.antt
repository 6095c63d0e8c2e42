use Rattle.std.proofs.Common.{◌≡◌, List, ap, ◌∙◌, subst, arith, length, sym}
use Rattle.std.proofs.lemmas.List.{map-id}
use Rattle.std.proofs.lemmas.Iterator.Consumers.{YieldsList-end}
use Rattle.std.proofs.lemmas.Iterator.Adapters.{YieldsList-from_vec}
use Rattle.jlr_log.specs.Rule.{Knows}
use Rattle.jlr_log.specs.Seeing.{Seen}
use Rattle.jlr_hall.specs.declared.step.Step.{Step}
use Rattle.jlr_hall.specs.OneHistory.{seat_of}
use Rattle.jlr_hall.specs.Closing.{EachKnows}
use Rattle.jlr_hall.proofs.Opening.{each_more}
use Rattle.jlr_hall.proofs.closing.look_by_each.Goals as goal

pub loop-seat-preserved : goal.loop-seat-preserved
loop-seat-preserved g c =
    let i = c.loop-seat.invariant in
    let all = c.args.keeper.all in
    let knew = subst (λ (log : List (Step g.row.R.Denot)). Knows seat_of c.seat.inside.pass.seat c.seat.inside.pass.known log)
    (ap (λ k. k.all) i.keeper) c.look.ensures.knew in
    record {
      keeper = c.look.ensures.keeper ∙ i.keeper;
      each = each_more all c.loop-seat.yielded c.in-Some.seat i.each
          (subst (λ (p : Seen (Step g.row.R.Denot)). Knows seat_of p.seat p.known all) c.seat.view_is knew);
    }

pub returns : goal.returns
returns g c =
    let from = c.into_iter-seat-iterator.ensures.into_iter_gives in
    let length_is : c.into_iter-seat-iterator.result.rest.len ≡ length c.args.seats.items = omega arith in
    let end = YieldsList-end (YieldsList-from_vec c.args.seats.items from.0 length_is) c.loop-seat.yielded c.loop-seat.seat-iterator
    c.loop-seat.yielded_by c.next.result c.next.new.self c.in-None.is c.next.ensures.steps in
    let all : c.loop-seat.yielded ≡ c.args.seats.items = sym (map-id c.loop-seat.yielded) ∙ end.0 in
    subst (λ (seats : List (Seen (Step g.row.R.Denot))). EachKnows c.args.keeper.all seats) all c.loop-seat.invariant.each
