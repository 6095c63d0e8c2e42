use Rattle.std.proofs.Common.{◌≡◌, ◌==◌, ℕ, None, false, refl, sym, subst, ap, ◌∙◌}
use Rattle.std.specs.List.{list_any}
use Rattle.jlr_machine.specs.Objects.{Heap, change_at, with_cleanable}
use Rattle.jlr_machine.specs.Calls.{spent, taken_up}
use Rattle.jlr_barrier.specs.Graphs.{Graph}
use Rattle.jlr_state.specs.Machines.{machine_of}
use Rattle.jlr_state.specs.State.{machine_with}
use Rattle.jlr_state.proofs.TakeUps.{free_taker}
use Rattle.jlr_state.proofs.Awaiting.{none_unspent, releases}
use Rattle.jlr_cleaner.specs.Cleanings.{Cleanings}
use Rattle.jlr_resource.specs.Resources.{Resources}
use Rattle.jlr_state.specs.Flows.{Moves}
use Rattle.jlr_state.proofs.Moving.{job_moved}
use Rattle.jlr_state.proofs.state.State.take_up_at.Goals as goal

pub take_up-requires-clause-free : goal.take_up-requires-clause-free
take_up-requires-clause-free g c =
    subst (λ (k : ℕ). list_any (λ job. job.by == k) (machine_of c.args.self.now).jobs ≡ false) (sym c.number.ensures)
    (free_taker (machine_of c.args.self.now) c.args.by c.requires.fit c.requires.free)

pub returns-clause-taken_up : goal.returns-clause-taken_up
returns-clause-taken_up g c =
    let s = c.args.self.now in
    ap (λ (h : Graph). machine_with c.take_up.new.self h s.cycle_open) c.spend.ensures.graph
    ∙ c.take_up.ensures.machine (machine_of s) c.args.slot c.args.cleanable refl refl
    ∙ ap (λ (k : ℕ). taken_up (machine_of s) k c.args.slot c.args.cleanable) c.number.ensures

pub returns-clause-moves : goal.returns-clause-moves
returns-clause-moves g c =
    let old = c.args.self.now.cleaner in
    subst (λ (t : Resources g.row.R.Denot). Moves None old.table c.take_up.result.resource t)
    (ap {A = Cleanings g.row.R.Denot} {B = Resources g.row.R.Denot} (λ x. x.table) (sym c.take_up.ensures.taken))
    (job_moved old.table c.args.cleanable.work c.take_up.result.resource c.take_up.ensures.put_in_last)

pub returns-clause-waits : goal.returns-clause-waits
returns-clause-waits g c =
    let s = c.args.self.now in
    let n = machine_with c.take_up.new.self c.spend.new.self.graph s.cycle_open in
    let left : n.objects ≡ change_at s.heap.graph.objects c.args.slot (with_cleanable spent) =
    ap {A = Graph} {B = Heap} (λ h. h.objects) c.spend.ensures.graph in
    releases n s.cleaner c.take_up.new.self c.args.slot _ (none_unspent (machine_of s) n c.args.slot c.args.cleanable c.requires.there left)
    c.take_up.ensures.taken
