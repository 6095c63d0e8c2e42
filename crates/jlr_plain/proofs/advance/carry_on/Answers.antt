use Rattle.std.proofs.Common.{◌≡◌, true, sym, ◌∙◌, ap, subst, arith, Bool}
use Rattle.jlr_machine.specs.declared.machine.Machine.{Machine}
use Rattle.jlr_machine.specs.Run.{now_seen}
use Rattle.jlr_plain_asks.specs.Counts.{HaveRoom, HasNextAction}
use Rattle.jlr_plain.specs.Deciding.{carried_in, completed, fits_after}
use Rattle.jlr_plain.proofs.Applying.{well_formed_room, room_kept, next_in_collected, collected_done, done_small, done_within}
use Rattle.jlr_plain.proofs.Advancing.{fitting, not_fitting}
use Rattle.jlr_plain.proofs.Followed.{next_is_fit}
use Rattle.jlr_plain.proofs.advance.carry_on.Goals as goal

pub returns-then-not-fits_in : goal.returns-then-not-fits_in
returns-then-not-fits_in c =
    not_fitting c.args.machine c.args.entry.now c.requires.fit.formed c.requires.allowed
    (ap {A = Machine} {B = Bool} (fits_after c.args.entry.now) (sym c.in_ok-collected.ensures) ∙ sym c.if-not-fits_in.ensures)

pub complete-requires : goal.complete-requires
complete-requires c =
    let formed = c.requires.fit.formed in
    let fits : fits_after c.args.entry.now c.in_ok-collected.collected ≡ true = sym c.fits_in.ensures ∙ c.if-not-fits_in.false in
    let legal = fitting c.args.machine c.args.entry.now formed c.requires.allowed
    (ap {A = Machine} {B = Bool} (fits_after c.args.entry.now) (sym c.in_ok-collected.ensures) ∙ fits) in
    let m = c.args.machine in
    let e = c.args.entry.now in
    let is = collected_done m c.in_ok-collected.collected e c.in_ok-collected.ensures in
    record {
      counts = subst HaveRoom (sym c.in_ok-collected.ensures) (room_kept m e.choice.collected (well_formed_room m formed (omega arith)));
      actions = λ n. subst (λ (x : Machine). HasNextAction x.next_action e.ask) (sym c.in_ok-collected.ensures)
          (next_in_collected m e legal n);
      cells = done_small m (carried_in c.in_ok-collected.collected e) e is formed legal;
      within = done_within m (carried_in c.in_ok-collected.collected e) e is formed legal;
      kept = λ k. subst (λ (x : Machine). now_seen x ≡ x.seen) (sym is) (c.requires.kept k legal);
    }

pub returns : goal.returns
returns c =
    let fits : fits_after c.args.entry.now c.in_ok-collected.collected ≡ true = sym c.fits_in.ensures ∙ c.if-not-fits_in.false in
    let legal = fitting c.args.machine c.args.entry.now c.requires.fit.formed c.requires.allowed
    (ap {A = Machine} {B = Bool} (fits_after c.args.entry.now) (sym c.in_ok-collected.ensures) ∙ fits) in
    next_is_fit c.args.machine c.in_ok-next.next c.args.entry.now c.requires.fit legal
    (c.in_ok-next.ensures ∙ ap {A = Machine} {B = Machine} (λ x. completed x c.args.entry.now) c.in_ok-collected.ensures)
