use Rattle.std.proofs.Common.{◌∙◌, ap}
use Rattle.jlr_machine.specs.Lookups.{slot_bound}
use Rattle.jlr_roots.proofs.Bindings.{found}
use Rattle.jlr_roots.proofs.names.Names.find.Goals as goal

pub returns : goal.returns
returns c = c.copied.ensures ∙ c.get.ensures.value ∙ found c.args.name.now c.self.inside.slots.entries
    ∙ ap (λ l. slot_bound l c.args.name.now) c.self.view_is
