use Rattle.std.proofs.Common.{subst, ◌≡◌}
use Rattle.jlr_machine.specs.Objects.{◌∋◌}
use Rattle.jlr_machine.proofs.Members.{set_is_among, clear_is_among}
use Rattle.jlr_machine.proofs.kept.KeptSlots.holds.Goals as goal

pub returns-then-is_inside : goal.returns-then-is_inside
returns-then-is_inside c =
    subst (λ l. c.is_inside.result ≡ (l ∋ c.args.number)) c.self.view_is
    (set_is_among c.self.inside.set c.self.inside.strays.items c.args.number c.is_inside.result c.is_inside.ensures
    c.if-is_inside.true)

pub returns-else-is_inside : goal.returns-else-is_inside
returns-else-is_inside c =
    let other = subst (λ l. c.is_one_of.result ≡ (l ∋ c.args.number)) c.as_slice.ensures.value c.is_one_of.ensures in
    subst (λ l. c.is_one_of.result ≡ (l ∋ c.args.number)) c.self.view_is
    (clear_is_among c.self.inside.set c.self.inside.strays.items c.args.number c.is_inside.result c.is_one_of.result
    c.is_inside.ensures c.if-is_inside.false other)
