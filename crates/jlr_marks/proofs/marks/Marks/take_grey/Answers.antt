use Rattle.std.proofs.Common.{◌≡◌, ◌∷◌, ◌++◌, Option, subst, sym, rules, arith}
use Rattle.std.specs.Prelude.{IfSome, IsPermutation}
use Rattle.jlr_machine.specs.Objects.{◌∈◌}
use Rattle.jlr_marks.specs.declared.part.Part.{Part}
use Rattle.jlr_marks.specs.Marking.{Marking, grey_next, slots_begun, upcoming}
use Rattle.jlr_marks.proofs.Greying.{first_once, grey_rest, last_is, popped, popped_once, still_grey}
use Rattle.jlr_marks.proofs.marks.Marks.take_grey.Goals as goal

-- ---- An array is in progress

pub invariant_of-self : goal.invariant_of-self
invariant_of-self c =
    let was = rw c.in-Some.is at c.self.invariant in (
      omega (arith, was.0),
      was.1,
      was.2,
      grey_rest c.self.inside.bits c.self.inside.grey.items c.in-Some.part.slot was.3,
    )

pub returns-in-Some-clause-once : goal.returns-in-Some-clause-once
returns-in-Some-clause-once c =
    let was = rw c.in-Some.is at c.self.invariant in
    first_once c.self.inside.bits c.self.inside.grey.items c.in-Some.part.slot was.3

-- ---- None is

pub invariant_of-self-in-None : goal.invariant_of-self-in-None
invariant_of-self-in-None c =
    let was = rw c.in-None.is at c.self.invariant in
    rw c.in-None.is (
      search rules,
      search rules,
      search rules,
      still_grey c.self.inside.bits c.self.inside.grey.items c.pop.new.self.items was.3 c.pop.result c.pop.ensures.items,
    )

pub returns-in-None-clause-taken : goal.returns-in-None-clause-taken
returns-in-None-clause-taken c =
    let items = c.self.inside.grey in
    subst (λ (m : Marking). c.pop.result ≡ upcoming m) c.self.view_is
    (subst (λ (p : Option Part). c.pop.result ≡ grey_next p (slots_begun p ++ items.items)) (sym c.in-None.is)
    (last_is c.pop.result items.items items.len (search rules) (search rules) c.pop.ensures.value))

pub returns-in-None-clause-grey : goal.returns-in-None-clause-grey
returns-in-None-clause-grey c =
    let was = rw c.in-None.is at c.self.invariant in
    subst (λ (m : Marking). IfSome c.pop.result (λ slot. IsPermutation m.grey
    (slot ∷ (slots_begun c.self.inside.part ++ c.pop.new.self.items)))) c.self.view_is
    (subst (λ (p : Option Part). IfSome c.pop.result
    (λ slot. IsPermutation (slots_begun p ++ c.self.inside.grey.items) (slot ∷ (slots_begun p ++ c.pop.new.self.items))))
    (sym c.in-None.is)
    (popped c.self.inside.bits c.self.inside.grey.items c.pop.new.self.items was.3 c.pop.result c.pop.ensures.items))

pub returns-in-None-clause-once : goal.returns-in-None-clause-once
returns-in-None-clause-once c =
    let was = rw c.in-None.is at c.self.invariant in
    subst (λ (p : Option Part). IfSome c.pop.result (λ slot. ¬ (slot ∈ (slots_begun p ++ c.pop.new.self.items)))) (sym c.in-None.is)
    (popped_once c.self.inside.bits c.self.inside.grey.items c.pop.new.self.items was.3 c.pop.result c.pop.ensures.items)
