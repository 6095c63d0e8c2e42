-- The laws in runs from an empty machine.
use Rattle.std.proofs.Common.{List, arith}
use Rattle.jlr_machine.specs.declared.machine.Machine.{Machine}
use Rattle.jlr_machine.specs.declared.entry.Entry.{Entry}
use Rattle.jlr_machine.specs.Run.{empty_from}
use Rattle.jlr_machine.specs.WellFormed.{IsWellFormed}
use Rattle.jlr_laws.proofs.Empty.{empty_from_is_well_formed}
use Rattle.jlr_laws.proofs.Law.{run_kept}
use Rattle.jlr_histories.specs.Laws.{IsRunFromEmpty, ReferencesGoForwardInHistories, CleanablesGoForwardInHistories}
use Rattle.jlr_histories.specs.Laws.{EnqueuedAtMostOnceInHistories, TakenUpAtMostOnceInRuns, TakeUpsEndOrRun}
use Rattle.jlr_histories.proofs.Forward.{reference_life, cleanable_life}
use Rattle.jlr_histories.proofs.Enqueued.{enqueued_at_most_once}
use Rattle.jlr_histories.proofs.TakenOnce.{taken_up_at_most_once, take_ups_are_counted}

well_formed : (m n : Machine) (entries : List Entry) → IsRunFromEmpty m entries n → IsWellFormed m
well_formed m n entries h =
    let start = empty_from h.cells h.sessions h.resources h.next_action in
    run_kept start m h.before (empty_from_is_well_formed h.cells h.sessions h.resources h.next_action h.started h.few_cells h.few_sessions)
    h.past

pub references_in_histories : ReferencesGoForwardInHistories
references_in_histories m n entries s r h l a = reference_life m n entries s r (well_formed m n entries h) h.run l a

pub cleanables_in_histories : CleanablesGoForwardInHistories
cleanables_in_histories m n entries s c h l a = cleanable_life m n entries s c (well_formed m n entries h) h.run l a

pub enqueued_in_histories : EnqueuedAtMostOnceInHistories
enqueued_in_histories m n entries s h l = enqueued_at_most_once m n entries s (well_formed m n entries h) h.run l

pub taken_up_in_runs : TakenUpAtMostOnceInRuns
taken_up_in_runs cells sessions resources next_action n entries action started small few run =
    taken_up_at_most_once (empty_from cells sessions resources next_action) n entries action
    (empty_from_is_well_formed cells sessions resources next_action started small few) run

pub take_ups_end_or_run : TakeUpsEndOrRun
take_ups_end_or_run cells sessions resources next_action n entries started small few run =
    let start = empty_from cells sessions resources next_action in
    let formed = run_kept start n entries (empty_from_is_well_formed cells sessions resources next_action started small few) run in
    omega (arith, take_ups_are_counted start n entries run, formed.actions.taken)
