use Rattle.std.proofs.Common.{rules, arith, length, ◌≡◌, ◌++◌, ◌∷◌, [], List, sym, ◌∙◌, subst}
use Rattle.std.proofs.lemmas.List.{map-id}
use Rattle.std.specs.List.Sorted.{IsPermutation}
use Rattle.jlr_resource.specs.Resources.{values}
use Rattle.std.proofs.lemmas.Iterator.Consumers.{YieldsList-end}
use Rattle.std.proofs.lemmas.Iterator.Adapters.{YieldsList-from_vec}
use Rattle.jlr_laws.proofs.Empty.{empty_is_well_formed}
use Rattle.jlr_event.specs.declared.event.Event.{Event}
use Rattle.jlr_event.specs.declared.event.Reply.{Reply}
use Rattle.jlr_core.specs.Runs.{IsRunOf, resources_of_events, resources_of_replies}
use Rattle.jlr_state.proofs.Ranges.{limits_hold}
use Rattle.jlr_core.proofs.RunLaws.{run_more, flow_more, start_run, start_flow}
use Rattle.jlr_steps.proofs.Starts.{start_cells}
use Rattle.jlr_core.proofs.run.answer_all.Goals as goal

pub loop-event-init : goal.loop-event-init
loop-event-init g c =
    let l = c.args.limits in
    let e = c.requires.empty in
    let fit = limits_hold l in
    record {
      run =
          start_run c.args.core.now l c.in_ok-replies.replies.items (empty_is_well_formed l.cells l.sessions l.resources fit.0 fit.2) e
          c.in_ok-replies.ensures.items;
      flow = start_flow c.in_ok-replies.replies.items c.args.core.now.table c.in_ok-replies.ensures.items e.none_held;
      age = e.age;
      cells = start_cells c.args.core.now l.cells l.sessions l.resources e.machine;
      room = c.requires.room;
    }

pub step-requires : goal.step-requires
step-requires g c = omega (arith, c.loop-event.invariant.cells, c.loop-event.invariant.room)

pub loop-event-preserved : goal.loop-event-preserved
loop-event-preserved g c =
    let pushed : c.push.new.self.items ≡ c.loop-event.replies.items ++ c.step.result ∷ [] = search rules in
    let i = c.loop-event.invariant in
    let l = c.args.limits in
    let fit = limits_hold l in
    let e = c.step.ensures.step in
    record {
      run =
          subst (λ (replies : List (Reply g.row.R.Denot)). IsRunOf l (c.loop-event.yielded ++ c.in-Some.event ∷ []) replies c.step.new.self)
          (sym pushed)
          (run_more l c.loop-event.yielded c.loop-event.replies.items c.loop-event.core c.step.new.self c.in-Some.event c.step.result
          c.step.new.choice.chosen (empty_is_well_formed l.cells l.sessions l.resources fit.0 fit.2) i.run e);
      flow =
          subst (λ (replies : List (Reply g.row.R.Denot)). IsPermutation
          (resources_of_events (c.loop-event.yielded ++ c.in-Some.event ∷ []))
          (resources_of_replies replies ++ values c.step.new.self.table)) (sym pushed)
          (flow_more c.loop-event.yielded c.loop-event.replies.items c.loop-event.core.table c.step.new.self.table c.in-Some.event
          c.step.result i.flow e.flow);
      age = e.age ∙ i.age;
      cells = c.step.ensures.cells ∙ i.cells;
      room = c.step.ensures.room ∙ i.room;
    }

pub returns-clause-run : goal.returns-clause-run
returns-clause-run g c =
    let from = c.into_iter-event-iterator.ensures.into_iter_gives in
    let length_is : c.into_iter-event-iterator.result.rest.len ≡ length c.args.events.items = omega arith in
    let end = YieldsList-end (YieldsList-from_vec c.args.events.items from.0 length_is) c.loop-event.yielded c.loop-event.event-iterator
    c.loop-event.yielded_by c.next.result c.next.new.self c.in-None.is c.next.ensures.steps in
    let all : c.loop-event.yielded ≡ c.args.events.items = sym (map-id c.loop-event.yielded) ∙ end.0 in
    subst (λ (events : List (Event g.row.R.Denot)). IsRunOf c.args.limits events c.loop-event.replies.items c.loop-event.core) all
    c.loop-event.invariant.run

pub returns-clause-flow : goal.returns-clause-flow
returns-clause-flow g c =
    let from = c.into_iter-event-iterator.ensures.into_iter_gives in
    let length_is : c.into_iter-event-iterator.result.rest.len ≡ length c.args.events.items = omega arith in
    let end = YieldsList-end (YieldsList-from_vec c.args.events.items from.0 length_is) c.loop-event.yielded c.loop-event.event-iterator
    c.loop-event.yielded_by c.next.result c.next.new.self c.in-None.is c.next.ensures.steps in
    let all : c.loop-event.yielded ≡ c.args.events.items = sym (map-id c.loop-event.yielded) ∙ end.0 in
    subst (λ (events : List (Event g.row.R.Denot)). IsPermutation (resources_of_events events)
    (resources_of_replies c.loop-event.replies.items ++ values c.loop-event.core.table)) all c.loop-event.invariant.flow
