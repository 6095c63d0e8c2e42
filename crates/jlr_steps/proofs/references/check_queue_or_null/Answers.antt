use Rattle.std.proofs.Common.{◌≡◌, not, false, refl, sym, ◌∙◌, ap, subst, option_and_then}
use Rattle.jlr_machine.specs.Objects.{at, some_and}
use Rattle.jlr_machine.specs.Refusals.{is_queue}
use Rattle.jlr_laws.proofs.Frames.{some_same}
use Rattle.jlr_state.specs.Machines.{machine_of}
use Rattle.jlr_state.proofs.Named.{of_another_kind}
use Rattle.jlr_steps.proofs.references.check_queue_or_null.Goals as goal

pub returns-in-Some-2 : goal.returns-in-Some-2
returns-in-Some-2 g c =
    let m = machine_of c.args.state.now in
    let slot = c.in-Some-2.field-0 in
    let same = some_same c.in-Some.queue slot (sym c.in-Some.is ∙ c.in-Some-2.is) in
    let no_queue : some_and is_queue (at m.objects slot) ≡ false =
    subst (λ s. some_and is_queue (at m.objects s) ≡ false) same (sym c.is_queue.ensures ∙ c.if-is_queue.false) in
    let wrong = of_another_kind (at m.objects slot) is_queue (c.requires slot c.in-Some-2.is) no_queue in
    (refl, ap (λ o. some_and (λ x. not (is_queue x)) (option_and_then (at m.objects) o)) c.in-Some-2.is ∙ wrong)
