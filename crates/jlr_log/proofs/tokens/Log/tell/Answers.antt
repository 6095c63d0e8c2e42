use Rattle.std.proofs.Common.{◌≡◌, ◌++◌, arith, ap, sym, ◌∙◌, subst, refl}
use Rattle.atomic_table.specs.Table.{keeps}
use Rattle.jlr_log.specs.Views.{meeting}
use Rattle.jlr_log.specs.Seeing.{AllOf, IsSeated, seen_in}
use Rattle.jlr_log.proofs.Moves.{meets_as, adds_as, parts_as, is_meeting, is_sitter}
use Rattle.jlr_log.proofs.tokens.Log.tell.Goals as goal

pub join_seat-requires : goal.join_seat-requires
join_seat-requires g c =
    let k = c.keeper.invariant in
    let p = c.pass.invariant in
    let log = c.args.self.now in
    let t = c.into_seat-token.ensures in
    let w = c.into_seat-token.result.me.0 in
    let seated = subst IsSeated (ap (λ b. b.views) (sym c.replace.ensures.value)) p.1 in (
      k.0 ∙ sym log.is,
      t.0 ∙ ap (λ b. b.table_id) c.replace.ensures.value ∙ p.0 ∙ sym log.is,
      t.3,
      omega (arith, log.words),
      λ s h at apart there. meets_as g.E.Owned.owner s.views c.keeper.inside.seat.id c.keeper.inside.seat.me.0 c.into_seat-token.result.id w
          k.2
          (is_sitter g.E.Owned.owner c.replace.result.views w seated t.2) h at apart there,
    )

pub load-requires : goal.load-requires
load-requires g c =
    let k = c.keeper.invariant in
    let log = c.args.self.now in
    let t = c.into_seat-token.ensures in
    let j = c.join_seat.ensures in
    let v = c.join_seat.new.seat.me.0 in
    let w = c.into_seat-token.result.me.0 in
    let owner = g.E.Owned.owner in
    let told = g.J.Telling.told in
    let is = is_meeting owner v _ _ _ _ (ap (λ m. m.0) j.2) in
    let seat : v.seat ≡ c.args.pass.now.seat = ap (λ m. m.0.seat) j.2
    ∙ ap (λ vs. (seen_in vs).seat) (sym t.2 ∙ ap (λ b. b.views) c.replace.ensures.value) ∙ ap (λ p. p.seat) c.pass.view_is in
    let all = subst (λ n. AllOf owner n told) (sym seat) c.requires in (
      j.0 ∙ k.0 ∙ sym log.is,
      omega (arith, log.words),
      λ s h len at fits. let x = adds_as owner s.views c.join_seat.new.seat.id v told is all h at in
          (meeting (v.all ++ told) v.dealt v.seat (v.all ++ told), keeps, tt, x.0, ((x.1, refl), refl)),
    )

pub split_seat-token-requires : goal.split_seat-token-requires
split_seat-token-requires g c =
    let k = c.keeper.invariant in
    let log = c.args.self.now in
    let j = c.join_seat.ensures in
    let l = c.load.ensures in
    let owner = g.E.Owned.owner in
    let v = c.load.new.seat.me.0 in (
      l.0 ∙ j.0 ∙ k.0 ∙ sym log.is,
      omega (arith, log.words),
      λ s h at. parts_as owner s.views c.load.new.seat.id v (is_meeting owner v _ _ _ _ l.2.0.1) h at,
    )
