use Rattle.std.proofs.Common.{◌∙◌, ap, arith}
use Rattle.jlr_machine.specs.Choices.{Choosing}
use Rattle.jlr_sets.specs.SlotSets.{slots_of}
use Rattle.jlr_machine.proofs.Choosing.{collects_so, shown_same}
use Rattle.jlr_machine.proofs.choice.Choice.keep_all.Goals as goal

pub copy_into-requires : goal.copy_into-requires
copy_into-requires c =
    let is = c.self.view_is ∙ c.collect.ensures in
    omega (arith, c.requires.cells, c.self.invariant.0, ap (λ (x : Choosing). x.cells) is)

pub returns : goal.returns
returns c =
    let is = c.self.view_is ∙ c.collect.ensures in
    let so = collects_so c.self.inside.collects (slots_of c.self.inside.kept) c.self.inside.pending.items _ _
    (ap (λ (x : Choosing). x.chosen.collected) is) in
    shown_same c.self.inside.collects _ _ _ _ _ _ _ _ so.0
    c.copy_into.ensures.slots
    so.2 (ap (λ (x : Choosing). x.chosen.fresh) is) (ap (λ (x : Choosing). x.cells) is)
