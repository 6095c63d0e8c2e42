use Rattle.std.proofs.Common.{◌≡◌, ◌++◌, ◌<◌, ◌+◌, ◌^◌, ◌&&◌, ℕ, Bool, not, List, sym, ap, ◌∙◌, subst, arith}
use Rattle.std.specs.Prelude.{◌==◌}
use Rattle.jlr_event.specs.declared.event.Event.{Event}
use Rattle.jlr_book.specs.Histories.{History}
use Rattle.jlr_hall.specs.declared.dues.Dues.{Dues}
use Rattle.jlr_hall.specs.declared.effect.Effect.{Effect}
use Rattle.jlr_hall.specs.declared.step.Step.{Step}
use Rattle.jlr_hall.specs.Asking.{AskedIn}
use Rattle.jlr_hall.specs.Locking.{IsLocked, Under, count_at, dues_after, owing_where}
use Rattle.jlr_hall.specs.Telling.{added}
use Rattle.jlr_hall.proofs.OpenCounts.{count_fits}
use Rattle.jlr_hall.proofs.Jobs.{comes_with}
use Rattle.jlr_hall.proofs.Steps.{asked, given_up, locked_now, tells}
use Rattle.jlr_hall.proofs.hall.Locked.ask.Goals as goal

pub after-requires : goal.after-requires
after-requires g c =
    subst (λ (d : Dues). count_at c.args.seat d + 1 < 2 ^ 64) (sym c.owe_where.ensures)
    (count_fits g.L.Limited.limits c.self.inside.book c.self.inside.dues c.self.inside.keeper.all c.args.seat (omega arith)
    c.is_history.ensures c.self.invariant)

pub invariant_of-self : goal.invariant_of-self
invariant_of-self g c =
    let limits = g.L.Limited.limits in
    let h = c.self.inside.book in
    let d = c.self.inside.dues in
    let new = c.step-reply.new.self in
    let all = c.self.inside.keeper.all in
    let n = c.args.seat in
    let reply = c.step-reply.result in
    let t = tells limits all n h new c.args.event reply c.requires.seat.1 c.is_history.ensures c.self.invariant.whole
    c.step-reply.ensures in
    let is = ap (λ (x : History g.row.R.Denot × Event g.row.R.Denot). added n x.0 x.1 reply new)
    (λ i. (c.of-was.ensures i, c.of-asked.ensures i)) in
    let kept = ap (λ k. k.all) c.note.ensures.keeper ∙ ap (λ l. all ++ l) is in
    let sits : n < 256 = omega arith in
    let given : c.was_given_up.result ≡ given_up h new =
    c.was_given_up.ensures
    ∙ ap (λ (x : Bool × ℕ). x.0 && not (new.base == x.1)) (λ i. (c.cycle_open-cycle_open.ensures i, c.base-base.ensures i)) in
    let owing : c.owe_where.new.self ≡ owing_where (given_up h new) d = c.owe_where.ensures ∙ ap (λ b. owing_where b d) given in
    let dues = c.after.ensures
    ∙ ap (λ (x : Effect × Dues). dues_after n x.0 reply x.1) (λ i. (c.requires.effect i, owing i)) in
    subst (λ (x : Dues × List (Step g.row.R.Denot)). IsLocked limits new x.0 x.1) (λ i. (sym dues i, sym kept i))
    (locked_now limits d all (added n h c.args.event reply new) n h new c.args.event reply sits c.self.invariant t)

pub returns-clause-asked : goal.returns-clause-asked
returns-clause-asked g c =
    let h = c.self.inside.book in
    let new = c.step-reply.new.self in
    let all = c.self.inside.keeper.all in
    let n = c.args.seat in
    let reply = c.step-reply.result in
    let t = tells g.L.Limited.limits all n h new c.args.event reply c.requires.seat.1 c.is_history.ensures c.self.invariant.whole
    c.step-reply.ensures in
    let is = ap (λ (x : History g.row.R.Denot × Event g.row.R.Denot). added n x.0 x.1 reply new)
    (λ i. (c.of-was.ensures i, c.of-asked.ensures i)) in
    let known = ap (λ p. p.known) c.note.ensures.pass ∙ ap (λ l. all ++ l) is in
    subst (λ (u : Under g.row.R.Denot). AskedIn g.L.Limited.limits u.log c.args.pass.now c.args.event reply c.note.new.pass) c.self.view_is
    (asked g.L.Limited.limits c.args.pass.now c.note.new.pass n all (added n h c.args.event reply new) h new c.args.event reply
    c.requires.seat.0 c.note.ensures.knew (ap (λ p. p.seat) c.note.ensures.pass) known c.self.invariant.whole t)

pub returns-clause-out : goal.returns-clause-out
returns-clause-out g c = comes_with _ _ _ _ _ c.step-reply.ensures
