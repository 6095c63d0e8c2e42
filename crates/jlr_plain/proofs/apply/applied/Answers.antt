use Rattle.std.proofs.Common.{◌≡◌, sym, ◌∙◌, ap, subst, arith}
use Rattle.jlr_machine.specs.declared.machine.Machine.{Machine}
use Rattle.jlr_machine.specs.Run.{now_seen}
use Rattle.jlr_plain_asks.specs.Counts.{HaveRoom, HasNextAction}
use Rattle.jlr_plain.specs.Deciding.{carried_in, completed}
use Rattle.jlr_plain.proofs.Applying.{well_formed_room, room_kept, next_in_collected, collected_done, done_small, done_within}
use Rattle.jlr_plain.proofs.apply.applied.Goals as goal

pub complete-requires : goal.complete-requires
complete-requires c =
    let legal = c.requires.legal in
    let formed = c.requires.formed in
    let m = c.args.machine in
    let e = c.args.entry.now in
    let is = collected_done m c.in_ok-collected.collected e c.in_ok-collected.ensures in
    record {
      counts = subst HaveRoom (sym c.in_ok-collected.ensures) (room_kept m e.choice.collected (well_formed_room m formed (omega arith)));
      actions = λ n. subst (λ (x : Machine). HasNextAction x.next_action e.ask) (sym c.in_ok-collected.ensures)
          (next_in_collected m e legal n);
      cells = done_small m (carried_in c.in_ok-collected.collected e) e is formed legal;
      within = done_within m (carried_in c.in_ok-collected.collected e) e is formed legal;
      kept = λ k. subst (λ (x : Machine). now_seen x ≡ x.seen) (sym is) (c.requires.kept k);
    }

pub returns : goal.returns
returns c = c.in_ok-next.ensures ∙ ap {A = Machine} {B = Machine} (λ x. completed x c.args.entry.now) c.in_ok-collected.ensures
