use Rattle.std.proofs.Common.{◌≡◌, ◌∷◌, ◌++◌, [], List, ap, ◌∙◌, subst, arith, length, sym, map}
use Rattle.std.proofs.lemmas.List.{map-append, map-id}
use Rattle.std.proofs.lemmas.Iterator.Consumers.{YieldsList-end}
use Rattle.std.proofs.lemmas.Iterator.Adapters.{YieldsList-from_vec}
use Rattle.std.specs.List.{sum_by}
use Rattle.std.specs.Option.{option_to_list}
use Rattle.jlr_session.specs.Calls.{Opening}
use Rattle.jlr_server.specs.Serving.{AllWork, Work, accepts_of, devices_left, seat_in}
use Rattle.jlr_server.proofs.Works.{all_more, left_more, sum_more}
use Rattle.jlr_server.proofs.server.taken_apart.Goals as goal

pub loop-work-preserved : goal.loop-work-preserved
loop-work-preserved g c =
    let i = c.loop-work.invariant in
    let w = c.in-Some.work in
    let e = c.in_ok-add.ensures in
    record {
      seats = e.seats ∙ ap (λ l. l ++ w.seat ∷ []) i.seats ∙ sym (map-append seat_in c.loop-work.yielded (w ∷ []));
      devices = e.devices ∙ ap (λ l. l ++ option_to_list w.last) i.devices ∙ sym (left_more c.loop-work.yielded w);
      accepts = omega (arith, e.accepts, i.accepts, sum_more accepts_of c.loop-work.yielded w);
      missed = omega (arith, e.missed, i.missed, sum_more (λ w. w.missed) c.loop-work.yielded w);
      done = all_more _ _ _ _ _ _ _ c.loop-work.yielded w i.done e.done;
    }

pub returns : goal.returns
returns g c =
    let device : Opening g.row.D.Denot g.row.D-Res.Denot =
    record {
      count =
          g.D.Device.count;
      opens = g.D.Device.may_open;
      connects = g.D.Device.may_connect;
      failures = g.D.Res.Resource.handling.count;
    } in
    let i = c.loop-work.invariant in
    let from = c.into_iter-work-iterator.ensures.into_iter_gives in
    let length_is : c.into_iter-work-iterator.result.rest.len ≡ length c.args.works.items = omega arith in
    let end = YieldsList-end (YieldsList-from_vec c.args.works.items from.0 length_is) c.loop-work.yielded c.loop-work.work-iterator
    c.loop-work.yielded_by c.next.result c.next.new.self c.in-None.is c.next.ensures.steps in
    let all : c.loop-work.yielded ≡ c.args.works.items = sym (map-id c.loop-work.yielded) ∙ end.0 in (
      i.seats ∙ ap (map seat_in) all,
      i.devices ∙ ap devices_left all,
      i.accepts ∙ ap (sum_by accepts_of) all,
      i.missed ∙ ap (sum_by (λ w. w.missed)) all,
      subst (λ (works : List (Work g.row.D.Denot g.row.D-Res.Denot)). AllWork g.L.Limited.limits device g.D.Device.may_attend
          g.D.Res.Resource.handling g.A.Acceptor.giving g.A.In.Read.remaining g.A.Out.Write.contents works) all i.done,
    )
