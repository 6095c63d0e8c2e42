use Rattle.std.proofs.Common.{◌≡◌, ◌∙◌, length, Ok, Err, IfOk, filter, ◌||◌}
use Rattle.jlr_machine.specs.Objects.{◌∋◌}
use Rattle.jlr_machine.specs.Edges.{roots}
use Rattle.jlr_machine.specs.Edges.Chain.{UpToSoft}
use Rattle.jlr_machine.specs.ReachSet.{up_to, reach_set}
use Rattle.jlr_machine.specs.Run.{seen_with}
use Rattle.jlr_plain_collections.specs.Marks.{has_mark}
use Rattle.jlr_plain_collections.proofs.Slots.{seen_found}
use Rattle.jlr_plain_collections.proofs.seen.seen_in_cycle.Goals as goal

pub returns : goal.returns
returns c =
    let reach = reach_set UpToSoft c.args.machine.now.objects (roots c.args.machine.now) in
    elim c.seen_or_marked.result as (λ r. IfOk r (λ v. v.items
    ≡ filter (λ s. (c.in_ok-seen.seen ∋ s) || has_mark c.as_slice-2.result.now s) (up_to 0 c.len.result))
    → IfOk r (λ v. v.items ≡ seen_with c.args.machine.now.seen reach (length c.args.machine.now.objects))) [
      | Ok v ↦ λ a. seen_found c.args.machine.now.seen reach c.in_ok-seen.seen c.in_ok-marks.marks.items c.as_slice-2.result.now
          c.len.result (length c.args.machine.now.objects) v.items (c.in_ok-seen.ensures ∙ c.as_slice.ensures) c.as_slice-2.ensures.value
          c.len.ensures c.in_ok-marks.ensures a
      | Err e ↦ λ h. h
    ] c.seen_or_marked.ensures
