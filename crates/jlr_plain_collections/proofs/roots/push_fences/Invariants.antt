use Rattle.std.proofs.Common.{◌≡◌, ◌++◌, take, filter_map, option_to_list}
use Rattle.std.specs.List.{flat_map}
use Rattle.jlr_machine.specs.declared.machine.Session.{Session}
use Rattle.jlr_plain_collections.proofs.roots.push_fences.Given as goal

abbrev pub invariant-loop-place : goal.invariant-loop-place
invariant-loop-place l = l.out.items ≡ l.fn.out.items
    ++ flat_map (λ (s : Session). option_to_list s.fence) (filter_map (λ s. s) (take l.place-index l.places))
