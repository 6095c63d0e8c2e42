use Rattle.std.proofs.Common.{false, subst}
use Rattle.jlr_soft.specs.declared.policy.Policy.{Policy}
use Rattle.jlr_sweep.specs.Collecting.{Collects}
use Rattle.jlr_marker.specs.Following.{keeps}
use Rattle.jlr_state.specs.Machines.{machine_of}
use Rattle.jlr_state.proofs.Frames.{frame_of}
use Rattle.jlr_state.specs.State.{machine_with}
use Rattle.jlr_state.proofs.Roots.{rooted}
use Rattle.jlr_state.proofs.Clearings.{same_policy}
use Rattle.jlr_state.proofs.state.State.collect.Goals as goal

pub full-requires-clause-fit : goal.full-requires-clause-fit
full-requires-clause-fit g c =
    let s = c.args.self.now in
    (frame_of s, rooted s.cleaner s.heap.graph s.cycle_open c.requires.fit)

pub returns-clause-collects : goal.returns-clause-collects
returns-clause-collects g c =
    let s = c.args.self.now in
    let n = machine_with s.cleaner c.full.new.heap.graph false in
    subst (λ (p : Policy). Collects (keeps p s.heap.clock) (machine_of s) c.args.choice.now c.full.new.choice n)
    (same_policy c.new-policy.result (record { soft_age = s.soft_age; mode = c.args.mode }) c.new-policy.ensures.soft_age
    c.new-policy.ensures.mode)
    (c.full.ensures.collects (frame_of s) (rooted s.cleaner s.heap.graph s.cycle_open c.requires.fit))
