use Rattle.std.proofs.Common.{◌≡◌, [], Some, ◌∙◌, ap, subst}
use Rattle.jlr_machine.specs.declared.machine.Machine.{Machine}
use Rattle.jlr_soft.specs.declared.policy.Mode.{Mode}
use Rattle.jlr_machine.specs.Choices.{Choosing, collecting}
use Rattle.jlr_sweep.specs.Collecting.{Collects}
use Rattle.jlr_state.specs.Collecting.{mode_of}
use Rattle.jlr_state.specs.Machines.{machine_of}
use Rattle.jlr_marker.specs.Following.{keeps}
use Rattle.jlr_state.proofs.Clearings.{keeps_in, may_collect}
use Rattle.jlr_state.proofs.Entries.{allowed_full, meets_collection}
use Rattle.jlr_state.proofs.Shading.{shut_new}
use Rattle.jlr_state.proofs.state.State.full.Goals as goal

pub returns-clause-meets : goal.returns-clause-meets
returns-clause-meets g c =
    let m = machine_of c.args.self.now in
    let n = machine_of c.collect.new.self in
    let age = c.args.self.now.soft_age in
    let clock = c.args.self.now.heap.clock in
    let x : Collects (keeps (record { soft_age = age; mode = mode_of c.args.mode }) clock) m c.args.choice.now c.collect.new.choice n =
    subst (λ (k : Mode). Collects (keeps (record { soft_age = age; mode = k }) clock) m c.args.choice.now c.collect.new.choice n)
    c.mode_of.ensures c.collect.ensures.collects in
    let chosen : c.collect.new.choice.chosen ≡ record { collected = Some (record { kept = x.kept; pending = x.pending }); fresh = [] } =
    ap (λ (k : Choosing). k.chosen) (x.chosen ∙ ap (λ (k : Choosing). collecting k x.kept x.pending) c.requires.nothing) in
    meets_collection m c.args.by c.args.mode (record { kept = x.kept; pending = x.pending }) c.collect.new.choice n
    (allowed_full m c.args.by c.args.mode c.in_ok-check_session.ensures c.in_ok-check_no_call.ensures) chosen
    (may_collect m c.args.by c.args.mode age clock c.args.choice.now c.collect.new.choice n c.requires.fit x) x.left

pub returns-clause-policy : goal.returns-clause-policy
returns-clause-policy g c =
    let m = machine_of c.args.self.now in
    let n = machine_of c.collect.new.self in
    let age = c.args.self.now.soft_age in
    let clock = c.args.self.now.heap.clock in
    let x : Collects (keeps (record { soft_age = age; mode = mode_of c.args.mode }) clock) m c.args.choice.now c.collect.new.choice n =
    subst (λ (k : Mode). Collects (keeps (record { soft_age = age; mode = k }) clock) m c.args.choice.now c.collect.new.choice n)
    c.mode_of.ensures c.collect.ensures.collects in
    keeps_in (mode_of c.args.mode) age clock m c.args.choice.now c.collect.new.choice n c.requires.nothing x

-- no cycle is open then
pub returns-clause-marks : goal.returns-clause-marks
returns-clause-marks g c =
    let s = c.args.self.now in
    shut_new (machine_of s) _ s.heap.marking _ _ (ap (λ (x : Machine). x.cycle_open) c.collect.ensures.collects.left)
