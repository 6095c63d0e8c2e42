use Rattle.std.proofs.Common.{ap, sym, ◌∙◌, subst, is_some, IsTrue, option_and_then}
use Rattle.jlr_machine.specs.Objects.{at}
use Rattle.jlr_roots.specs.Sessions.{slot_held}
use Rattle.jlr_state.specs.Machines.{machine_of}
use Rattle.jlr_state.proofs.Named.{named_object}
use Rattle.jlr_state.proofs.state.State.check_object.Goals as goal

pub returns-in-Some-clause-object : goal.returns-in-Some-clause-object
returns-in-Some-clause-object g c =
    let m = machine_of c.args.self.now in
    let e = sym (c.lookup.ensures ∙ ap (λ l. slot_held l c.args.by c.args.handle) c.roots.ensures) ∙ c.in-Some.is in
    subst (λ o. IsTrue (is_some (option_and_then (at m.objects) o))) (sym e)
    (named_object m c.args.by c.args.handle c.in-Some.slot c.requires.fit e)
