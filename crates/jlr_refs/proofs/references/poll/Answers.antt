use Rattle.std.proofs.Common.{◌≡◌, sym, subst, ◌∙◌, ap, drop, Option}
use Rattle.std.specs.Prelude.{option_map}
use Rattle.jlr_machine.specs.declared.object.Object.{Object}
use Rattle.jlr_machine.specs.declared.object.RefState.TheVariants.{Removed}
use Rattle.jlr_machine.specs.Objects.{at, some_and, with_members, with_reference}
use Rattle.jlr_machine.specs.Refusals.{is_reference}
use Rattle.jlr_cells.specs.Contents.{in_state, next_in}
use Rattle.jlr_barrier.specs.Graphs.{Graph}
use Rattle.jlr_refs.proofs.Changing.{apart, change_other}
use Rattle.jlr_refs.proofs.Enqueuing.{member_is_reference, none_ahead_of_member, reference_is_object}
use Rattle.jlr_refs.proofs.references.poll.Goals as goal

pub unlink-requires-clause-object : goal.unlink-requires-clause-object
unlink-requires-clause-object c =
    let g = c.args.heap.now.graph in
    λ s first. reference_is_object (at g.objects s) (member_is_reference g c.args.queue s c.requires.fit c.requires.queue first)

pub set_state-requires-clause-reference : goal.set_state-requires-clause-reference
set_state-requires-clause-reference c =
    let old = c.args.heap.now.graph.objects in
    let was = member_is_reference c.args.heap.now.graph c.args.queue c.in_ok-member.member c.requires.fit c.requires.queue
    (sym c.unlink.ensures.front ∙ c.in_ok-member.was) in
    ap (λ (g : Graph). some_and is_reference (at g.objects c.in_ok-member.member)) c.unlink.ensures.graph
    ∙ ap (some_and is_reference) (change_other old c.args.queue c.in_ok-member.member (with_members (drop 1))
    (apart old c.in_ok-member.member c.args.queue was c.requires.queue))
    ∙ was

-- nothing was ahead of a member of a queue, and nothing is ahead of it once it is Removed
pub set_state-requires-clause-edge : goal.set_state-requires-clause-edge
set_state-requires-clause-edge c =
    let g = c.args.heap.now.graph in
    let s = c.in_ok-member.member in
    let first = sym c.unlink.ensures.front ∙ c.in_ok-member.was in
    let was = member_is_reference g c.args.queue s c.requires.fit c.requires.queue first in
    let same : at c.unlink.new.self.graph.objects s ≡ at g.objects s =
    ap (λ (k : Graph). at k.objects s) c.unlink.ensures.graph
    ∙ change_other g.objects c.args.queue s (with_members (drop 1)) (apart g.objects s c.args.queue was c.requires.queue) in
    subst (λ (o : Option Object). next_in (option_map (with_reference (in_state Removed)) o) ≡ next_in o) (sym same)
    (none_ahead_of_member g c.args.queue s c.requires.fit c.requires.queue first)
