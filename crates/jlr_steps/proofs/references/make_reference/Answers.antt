use Rattle.std.proofs.Common.{ap, is_none, not, option_and_then, Some, inl, inr, sym, subst, refl, ◌∙◌}
use Rattle.std.specs.Option.{option_to_list}
use Rattle.jlr_machine.specs.declared.ask.Ask.TheVariants.{MakeRef}
use Rattle.jlr_machine.specs.declared.ask.Answer.TheVariants.{Refused}
use Rattle.jlr_machine.specs.Objects.{at, some_and}
use Rattle.jlr_machine.specs.Refusals.{is_queue}
use Rattle.jlr_state.specs.Machines.{machine_of}
use Rattle.jlr_state.proofs.Named.{named_object}
use Rattle.jlr_state.specs.State.{Meets}
use Rattle.jlr_state.proofs.Entries.{meets_full, meets_new_reference, allowed_reference}
use Rattle.jlr_laws.proofs.Clearing.{in_append, in_option}
use Rattle.jlr_state.proofs.Hands.{named_held}
use Rattle.jlr_marks.specs.Marking.{Marking}
use Rattle.jlr_state.specs.Marks.{BlackensMade}
use Rattle.jlr_state.proofs.Shading.{full_new, given_new}
use Rattle.jlr_steps.proofs.references.make_reference.Goals as goal

pub returns-in-Err-clause-meets : goal.returns-in-Err-clause-meets
returns-in-Err-clause-meets g c =
    let m = machine_of c.args.state.now in
    let n = machine_of c.allocate.new.self in
    let ask = MakeRef c.args.by c.args.kind c.args.referent c.args.queue in
    let allowed = allowed_reference m c.args.by c.args.kind c.args.referent c.args.queue c.in_ok-check_session.ensures
    c.in_ok-named.ensures.1 c.in_ok-ahead.ensures.1
    (c.in_ok-named.ensures.2 ∙ ap is_none c.in_ok-target.ensures.ok_part)
    (ap (λ o. some_and (λ x. not (is_queue x)) (option_and_then (at m.objects) o)) c.in_ok-ahead.ensures.0
    ∙ c.in_ok-queue.ensures.1) c.in_ok-check_no_call.ensures c.in_ok-check_free_handle.ensures in
    subst (λ r. Meets m ask (Refused r) c.allocate.new.choice.chosen n) (sym c.in-Err.ensures.full.0)
    (meets_full m 1 ask c.allocate.new.choice n allowed refl c.in-Err.ensures.full.1)

pub returns-in-Ok-clause-meets : goal.returns-in-Ok-clause-meets
returns-in-Ok-clause-meets g c =
    let m = machine_of c.args.state.now in
    let allowed = allowed_reference m c.args.by c.args.kind c.args.referent c.args.queue c.in_ok-check_session.ensures
    c.in_ok-named.ensures.1 c.in_ok-ahead.ensures.1
    (c.in_ok-named.ensures.2 ∙ ap is_none c.in_ok-target.ensures.ok_part)
    (ap (λ o. some_and (λ x. not (is_queue x)) (option_and_then (at m.objects) o)) c.in_ok-ahead.ensures.0
    ∙ c.in_ok-queue.ensures.1) c.in_ok-check_no_call.ensures c.in_ok-check_free_handle.ensures in
    meets_new_reference m (machine_of c.allocate.new.self) (machine_of c.give.new.self) c.args.by c.in-Ok.slot c.args.kind c.args.referent
    c.args.queue c.in_ok-target.target c.in_ok-queue.queue c.allocate.new.choice c.give.result allowed
    (c.in_ok-named.ensures.0 ∙ c.in_ok-target.ensures.ok_part) (c.in_ok-ahead.ensures.0 ∙ sym c.in_ok-queue.ensures.0)
    c.in-Ok.ensures.allocates c.give.ensures.answer c.give.ensures.held

-- there is an object at the slot of its queue
pub check_queue_or_null-requires : goal.check_queue_or_null-requires
check_queue_or_null-requires g c = λ s e.
    named_object (machine_of c.args.state.now) c.args.by c.args.queue s c.requires.fit (c.in_ok-ahead.ensures.0 ∙ e)

-- handles name its queue and its referent
pub allocate-requires-clause-held : goal.allocate-requires-clause-held
allocate-requires-clause-held g c =
    let m = machine_of c.args.state.now in
    λ s h. elim (in_append s (option_to_list c.in_ok-queue.queue) (option_to_list (Some c.in_ok-target.target)) h) [
      | inl q ↦ named_held m c.args.by c.args.queue s (c.in_ok-ahead.ensures.0
          ∙ sym c.in_ok-queue.ensures.0 ∙ in_option s c.in_ok-queue.queue q)
      | inr r ↦ named_held m c.args.by c.args.referent s (c.in_ok-named.ensures.0
          ∙ c.in_ok-target.ensures.ok_part ∙ in_option s (Some c.in_ok-target.target) r)
    ]

-- it has a handle, and is black
pub returns-in-Ok-clause-marks : goal.returns-in-Ok-clause-marks
returns-in-Ok-clause-marks g c =
    let s = c.args.state.now in
    let mid = machine_of c.allocate.new.self in
    let one = subst (λ (k : Marking). BlackensMade c.allocate.new.choice.chosen c.in-Ok.slot s.heap.marking k) (sym c.give.ensures.marking)
    c.in-Ok.ensures.one in
    given_new (machine_of s) mid mid _ _ s.heap.marking _ c.allocate.new.choice c.args.by c.in-Ok.slot c.requires.fit
    c.in-Ok.ensures.allocates one c.in_ok-check_free_handle.ensures refl refl c.give.ensures.held

pub returns-in-Err-clause-marks : goal.returns-in-Err-clause-marks
returns-in-Err-clause-marks g c = let s = c.args.state.now in
    full_new (machine_of s) _ 1 s.heap.marking _ c.allocate.new.choice c.in-Err.ensures.full.1
