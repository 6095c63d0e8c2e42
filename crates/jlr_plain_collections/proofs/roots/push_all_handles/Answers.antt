use Rattle.std.proofs.Common.{filter_map}
use Rattle.std.specs.List.{flat_map}
use Rattle.jlr_machine.specs.declared.machine.Session.{Session}
use Rattle.jlr_plain_collections.proofs.Slow.{loop_more, sessions_append}
use Rattle.jlr_plain_collections.proofs.roots.push_all_handles.Goals as goal

pub loop-place-preserved : goal.loop-place-preserved
loop-place-preserved c =
    loop_more (λ xs. flat_map (λ (s : Session). filter_map (λ h. h) s.handles) (filter_map (λ s. s) xs))
    (sessions_append (λ (s : Session). filter_map (λ h. h) s.handles)) c.args.places.now c.loop-place.place-index c.place-item.result
    c.args.out.now.items c.loop-place.out.items c.push_handles_of.new.out.items c.loop-place-test.true c.place-item.is
    c.loop-place.invariant
    c.in_ok-push_handles_of.ensures
