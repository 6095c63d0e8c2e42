use Rattle.std.proofs.Common.{◌≡◌, [], subst, slice_set}
use Rattle.jlr_links.specs.Lists.{Lists}
use Rattle.jlr_links.specs.Walks.{lists_in, no_ends}
use Rattle.jlr_links.proofs.Leaving.{cleared_lists}
use Rattle.jlr_links.proofs.InLists.{within_ends}
use Rattle.jlr_links.proofs.links.Links.clear.Goals as goal

pub returns-clause-lists : goal.returns-clause-lists
returns-clause-lists c =
    let s = c.self.inside in
    subst (λ (w : Lists). lists_in s.next (slice_set s.ends.items c.args.list no_ends) ≡ slice_set w.lists c.args.list []) c.self.view_is
    (cleared_lists s.next s.ends.items c.args.list c.self.invariant
    (within_ends s.next s.ends.items _ c.args.list c.self.view_is c.requires))
