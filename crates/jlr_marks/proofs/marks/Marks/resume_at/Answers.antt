use Rattle.std.proofs.Common.{◌≡◌, ◌∙◌, ◌++◌, Option, None, rules, true, false, get_or, subst, sym, ap}
use Rattle.jlr_machine.specs.Objects.{◌∈◌}
use Rattle.jlr_marks.specs.declared.part.Part.{Part}
use Rattle.jlr_marks.specs.Marking.{Marking, slots_begun}
use Rattle.jlr_marks.proofs.Greying.{grey_again}
use Rattle.jlr_marks.proofs.marks.Marks.resume_at.Goals as goal

pub invariant_of-self : goal.invariant_of-self
invariant_of-self c =
    let free : c.self.inside.part ≡ None = search rules in
    let was = rw free at c.self.invariant in
    let on : get_or c.self.inside.bits c.args.slot false ≡ true = search rules in
    let seen : c.args.self.now.grey ≡ c.self.inside.grey.items = ap (λ (m : Marking). m.grey) (sym c.self.view_is)
    ∙ ap (λ (p : Option Part). slots_begun p ++ c.self.inside.grey.items) free in
    let out : c.args.slot ∈ c.self.inside.grey.items → ⊥ = λ h. c.requires.black (subst (λ l. c.args.slot ∈ l) (sym seen) h) in (
      search rules,
      c.self.invariant.1,
      c.self.invariant.2,
      grey_again c.self.inside.bits c.self.inside.grey.items c.args.slot on out was.3,
    )
