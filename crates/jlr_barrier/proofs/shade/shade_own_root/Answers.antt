use Rattle.std.proofs.Common.{◌∙◌, sym}
use Rattle.std.proofs.lemmas.Bool.{both_ways}
use Rattle.jlr_machine.specs.Objects.{at}
use Rattle.jlr_machine.specs.Edges.{is_own_root}
use Rattle.jlr_marks.proofs.Shading.{shaded_none, shaded_one, shaded_same}
use Rattle.jlr_barrier.proofs.shade.shade_own_root.Goals as goal

pub returns-then-is_own_root : goal.returns-then-is_own_root
returns-then-is_own_root c =
    shaded_same _ _ (λ x e. (e, sym c.is_own_root.ensures ∙ c.if-is_own_root.true)) (λ x h. h.0) c.args.marks.now c.shade.new.self
    (shaded_one c.args.slot c.args.marks.now c.shade.new.self c.requires c.shade.ensures.bits c.shade.ensures.grey
    c.shade.ensures.discovered c.shade.ensures.part)

pub returns-else-is_own_root : goal.returns-else-is_own_root
returns-else-is_own_root c = shaded_none _ (λ x h. absurd
    (both_ways (is_own_root (at c.args.cells.now.objects c.args.slot)) (sym c.is_own_root.ensures ∙ c.if-is_own_root.false) h.1))
    c.args.marks.now
