use Rattle.std.proofs.Common.{◌∙◌, ap, sym}
use Rattle.std.specs.Map.{lookup}
use Rattle.std.specs.Str.{bytes_eq}
use Rattle.indexmap.specs.IndexMap.{insert_entry}
use Rattle.jlr_machine.specs.Lookups.{bound, slot_bound}
use Rattle.jlr_roots.specs.Naming.{bindings_of}
use Rattle.jlr_roots.proofs.Bindings.{found, placed, on_err, on_ok}
use Rattle.jlr_roots.proofs.names.Names.bind.Goals as goal

pub returns-then-is_err-clause-err : goal.returns-then-is_err-clause-err
returns-then-is_err-clause-err c =
    let failed = on_err c.insert.result (sym c.is_err.ensures.value ∙ c.if-is_err.true) in (
      ap bindings_of (failed _ c.insert.ensures.err) ∙ c.self.view_is,
      ap (λ l. slot_bound l c.args.name.now) (sym c.self.view_is)
          ∙ sym (found c.args.name.now c.self.inside.slots.entries)
          ∙ ap (λ n. lookup (bytes_eq n) c.self.inside.slots.entries) (sym c.copy.ensures)
          ∙ failed _ c.insert.ensures.absent,
    )

pub returns-clause-ok : goal.returns-clause-ok
returns-clause-ok c =
    let done = on_ok c.insert.result (sym c.is_err.ensures.value ∙ c.if-is_err.false) in
    ap bindings_of (done _ c.insert.ensures.entries)
    ∙ ap (λ n. bindings_of (insert_entry bytes_eq c.self.inside.slots.entries n c.args.slot)) c.copy.ensures
    ∙ placed c.args.name.now c.self.inside.slots.entries c.args.slot
    ∙ ap (λ l. bound l c.args.name.now c.args.slot) c.self.view_is
