use Rattle.std.proofs.Common.{rules, ◌≡◌, ◌==◌, ◌∙◌, false, is_none, is_some, IsTrue, Ok, Some, ap, subst, sym}
use Rattle.std.proofs.Common.{option_and_then}
use Rattle.jlr_machine.specs.Lookups.{object_named, slot_named}
use Rattle.jlr_machine.specs.Objects.{at}
use Rattle.jlr_machine.specs.declared.ask.Answer.TheVariants.{Truth}
use Rattle.jlr_machine.specs.declared.ask.Ask.TheVariants.{Refers}
use Rattle.jlr_state.specs.Machines.{machine_of}
use Rattle.jlr_state.specs.State.{Answered}
use Rattle.jlr_state.proofs.Named.{named_object}
use Rattle.jlr_steps.proofs.references.refers.Goals as goal

pub check_reference-requires : goal.check_reference-requires
check_reference-requires g c =
    named_object (machine_of c.args.state.now) c.args.by c.args.reference c.in_ok-slot.slot c.requires
    (c.in_ok-named.ensures.0 ∙ c.in_ok-slot.ensures.ok_part)

pub returns-clause-answered : goal.returns-clause-answered
returns-clause-answered g c =
    let m = machine_of c.args.state.now in
    let asked = c.args.reference in
    let named : slot_named m c.args.by asked ≡ Some c.in_ok-slot.slot =
    c.in_ok-named.ensures.0 ∙ c.in_ok-slot.ensures.ok_part in
    let there = named_object m c.args.by asked c.in_ok-slot.slot c.requires named in
    let answered : slot_named m c.args.by asked ≡ Some c.in_ok-slot.slot
    → IsTrue (is_some (object_named m c.args.by asked))
    → (asked == 0) ≡ false → Answered m (Refers c.args.by asked c.args.object) (Ok (Truth c.refers_to.result)) m =
    λ slot object not_null. search rules in
    answered named (subst (λ o. IsTrue (is_some (option_and_then (at m.objects) o))) (sym named) there)
    (c.in_ok-named.ensures.2 ∙ ap is_none c.in_ok-slot.ensures.ok_part)
