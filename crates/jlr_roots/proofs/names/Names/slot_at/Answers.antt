use Rattle.std.proofs.Common.{◌∙◌, ap, sym, ℕ, Option, Some, slice_get}
use Rattle.std.specs.Prelude.{option_map}
use Rattle.std.specs.Map.Iter.{deref_pair}
use Rattle.jlr_roots.specs.Naming.{named}
use Rattle.jlr_roots.proofs.Bindings.{slot_there}
use Rattle.jlr_roots.proofs.names.Names.slot_at.Goals as goal

pub returns-in-Some : goal.returns-in-Some
returns-in-Some c =
    ap {A = ℕ} {B = Option ℕ} (λ s. Some s) c.slot_of.ensures
    ∙ ap (λ o. option_map (λ e. e.1) (option_map deref_pair o)) (sym c.in-Some.is)
    ∙ ap (option_map (λ e. e.1)) c.get_index.ensures.entry
    ∙ sym (slot_there c.self.inside.slots.entries c.args.place)
    ∙ ap (λ l. slice_get (named l) c.args.place) c.self.view_is

pub returns-in-None : goal.returns-in-None
returns-in-None c =
    ap (λ o. option_map (λ e. e.1) (option_map deref_pair o)) (sym c.in-None.is)
    ∙ ap (option_map (λ e. e.1)) c.get_index.ensures.entry
    ∙ sym (slot_there c.self.inside.slots.entries c.args.place)
    ∙ ap (λ l. slice_get (named l) c.args.place) c.self.view_is
