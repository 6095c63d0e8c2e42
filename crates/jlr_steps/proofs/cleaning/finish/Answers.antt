use Rattle.std.proofs.Common.{◌≡◌, ℕ, Some, inl, subst, sym}
use Rattle.jlr_barrier.specs.Graphs.{Known, fence_at}
use Rattle.jlr_barrier.specs.Snapshots.{IsObject}
use Rattle.jlr_state.specs.Machines.{machine_of}
use Rattle.jlr_state.proofs.Hands.{fence_object}
use Rattle.jlr_marks.specs.Marking.{Shaded}
use Rattle.jlr_state.proofs.Shading.{by_root, fence_root, shaded_new}
use Rattle.jlr_steps.proofs.cleaning.finish.Goals as goal

-- a fence holds an object
pub end_call-requires-clause-object : goal.end_call-requires-clause-object
end_call-requires-clause-object g c =
    let k = c.new-taker.result in
    subst (λ (h : Known). (s : ℕ) → fence_at h.graph.mutators k ≡ Some s → IsObject h.graph.objects s) (sym c.end_job-2.ensures.heap)
    (λ s e. fence_object (machine_of c.args.state.now) c.requires k s e)

-- and what it held was a root
pub returns-clause-marks : goal.returns-clause-marks
returns-clause-marks g c =
    let s = c.args.state.now in
    let m = machine_of s in
    let k = c.new-taker.result in
    let shaded = subst (λ (h : Known). Shaded (λ y. fence_at h.graph.mutators k ≡ Some y) h.marking c.end_call.new.self.marking)
    c.end_job-2.ensures.heap c.end_call.ensures.shaded in
    shaded_new m _ s.heap.marking _ _ shaded (λ x e. inl (by_root m s.heap.marking x (fence_root m k x e)))
