use Rattle.std.proofs.Common.{◌≡◌, ◌⊎◌, ◌<◌, ◌+◌, ◌∙◌, ℕ, Option, Some, None, sym, arith, subst, length, drop, take}
use Rattle.std.proofs.lemmas.List.{get_or-drop, length-drop}
use Rattle.jlr_machine.specs.Objects.{◌∈◌, at}
use Rattle.jlr_laws.proofs.Sets.{nothing}
use Rattle.jlr_cells.specs.Links.{linked}
use Rattle.jlr_marks.specs.Marking.{Shaded}
use Rattle.jlr_marks.proofs.Shading.{shaded_none, shaded_same, shaded_then}
use Rattle.jlr_barrier.proofs.Parts.{part_within, shaded_wider}
use Rattle.jlr_barrier.proofs.Walking.{walk_gives, walk_from, item_in}
use Rattle.jlr_barrier.proofs.shade.shade_elements.Goals as goal

abbrev itself : Option ℕ → Option ℕ
itself o = o

pub loop-step-init : goal.loop-step-init
loop-step-init c =
    let rest = drop c.args.from c.args.elements.now in (
      c.marked_run-step.ensures.few.1,
      shaded_wider (λ x. x ∈ linked (take 0 rest)) (λ x. x ∈ linked (take c.marked_run-step.result rest)) c.marked_run-step.ensures.more
          c.args.marks.now c.args.marks.now c.marked_run-step.ensures.marked
          (shaded_none (λ x. x ∈ linked (take 0 rest)) nothing c.args.marks.now),
    )

pub shade_target-requires : goal.shade_target-requires
shade_target-requires c =
    let links = c.args.elements.now in
    let rest = drop c.args.from links in
    let i = c.loop-step.step in
    let long = length-drop c.args.from links in
    let within : i < length rest = omega (arith, long, c.requires.there, c.loop-step-test.true) in
    let read : c.get.result ≡ at rest i = c.get.ensures ∙ sym (get_or-drop c.args.from links i None) in
    λ x e.
    let inside = c.requires.within x (part_within links c.args.from x (item_in itself rest i None x within (sym read ∙ e))) in
    omega (arith, inside, c.loop-step.invariant.1.long)

pub marked_run-step-requires-in-loop-step-clause-within : goal.marked_run-step-requires-in-loop-step-clause-within
marked_run-step-requires-in-loop-step-clause-within c =
    λ x h.
    let inside = c.requires.within x h in
    omega (arith, inside, c.loop-step.invariant.1.long, c.shade_target.ensures.long)

pub loop-step-preserved : goal.loop-step-preserved
loop-step-preserved c =
    let links = c.args.elements.now in
    let rest = drop c.args.from links in
    let i = c.loop-step.step in
    let long = length-drop c.args.from links in
    let within : i < length rest = omega (arith, long, c.requires.there, c.loop-step-test.true) in
    let read : c.get.result ≡ at rest i = c.get.ensures ∙ sym (get_or-drop c.args.from links i None) in
    let one : Shaded (λ x. x ∈ linked (take (i + 1) rest)) c.args.marks.now c.shade_target.new.marks =
    shaded_same _ _
    (λ x h. walk_from itself rest i None within x (subst (λ o. (x ∈ linked (take i rest)) ⊎ (o ≡ Some x)) read h))
    (λ x h. subst (λ o. (x ∈ linked (take i rest)) ⊎ (o ≡ Some x)) (sym read) (walk_gives itself rest i None within x h))
    c.args.marks.now c.shade_target.new.marks
    (shaded_then _ _ c.args.marks.now c.loop-step.marks c.shade_target.new.marks c.loop-step.invariant.1 c.shade_target.ensures) in (
      c.marked_run-step-in-loop-step.ensures.few.1,
      shaded_wider (λ x. x ∈ linked (take (i + 1) rest)) (λ x. x ∈ linked (take c.marked_run-step-in-loop-step.result rest))
          c.marked_run-step-in-loop-step.ensures.more c.args.marks.now c.shade_target.new.marks
          c.marked_run-step-in-loop-step.ensures.marked one,
    )

pub returns : goal.returns
returns c =
    let whole : c.loop-step.step ≡ c.args.count = omega (arith, c.loop-step.invariant.0, c.loop-step-test.false) in
    subst (λ k. Shaded (λ x. x ∈ linked (take k (drop c.args.from c.args.elements.now))) c.args.marks.now c.loop-step.marks) whole
    c.loop-step.invariant.1
