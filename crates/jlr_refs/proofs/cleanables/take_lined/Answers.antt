use Rattle.std.proofs.Common.{true, sym, ◌∙◌, refl}
use Rattle.std.proofs.lemmas.Bool.{both_ways}
use Rattle.jlr_refs.proofs.TakingUp.{none_is_lined, one_is_lined}
use Rattle.jlr_refs.proofs.cleanables.take_lined.Goals as goal

pub returns-in-Some-lined_at-clause-none : goal.returns-in-Some-lined_at-clause-none
returns-in-Some-lined_at-clause-none c =
    let lined = sym c.lined_at.ensures ∙ c.in-Some-lined_at.is in
    let first = sym c.take_lined_front.ensures.front ∙ c.in-Some.is in (
      (λ e. absurd (both_ways true e refl)),
      (λ none. absurd (one_is_lined c.args.heap.now.graph c.loop-slot.heap.graph c.take_lined_front.new.self.graph c.in-Some.slot
          c.loop-slot.invariant.shorter first c.take_lined_front.ensures.graph c.in-Some-lined_at.cleanable lined none)),
    )

pub returns-clause-none : goal.returns-clause-none
returns-clause-none c =
    let none = none_is_lined c.args.heap.now.graph c.loop-slot.heap.graph c.take_lined_front.new.self.graph c.loop-slot.invariant.shorter
    (sym c.take_lined_front.ensures.front ∙ c.in_default.is) c.take_lined_front.ensures.graph in
    ((λ _. none), (λ _. refl))
