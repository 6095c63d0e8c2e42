use Rattle.std.proofs.Common.{◌∙◌, ap, length}
use Rattle.std.proofs.lemmas.List.{length-replicate}
use Rattle.std.specs.Prelude.{map}
use Rattle.jlr_cells.specs.Kinds.{shown_kind}
use Rattle.jlr_cells.proofs.Labels.{no_kinds_shown, none_found}
use Rattle.jlr_cells.proofs.kinds.Kinds.new.Goals as goal

pub returns : goal.returns
returns c = ap (map shown_kind) (c.in_ok-vec.ensures.items_if_clones_equal (λ y e. e)) ∙ no_kinds_shown c.args.count

pub invariant_of-result : goal.invariant_of-result
invariant_of-result c =
    rw (ap (map shown_kind) (c.in_ok-vec.ensures.items_if_clones_equal (λ y e. e)) ∙ no_kinds_shown c.args.count)
    (none_found c.args.count _ _ (ap length c.in_ok-new.ensures ∙ length-replicate c.args.count _)
    (ap length c.in_ok-new-2.ensures ∙ length-replicate c.args.count _))
