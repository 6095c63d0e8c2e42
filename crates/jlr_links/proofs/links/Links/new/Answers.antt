use Rattle.std.proofs.Common.{vec_len}
use Rattle.jlr_links.proofs.Leaving.{made_empty}
use Rattle.jlr_links.proofs.links.Links.new.Goals as goal

pub returns-clause-lists : goal.returns-clause-lists
returns-clause-lists c = made_empty _ c.resize.new.self.items c.new-ends.result.items c.args.lists (vec_len c.new-ends.result)
    c.in_ok-resize.ensures.items c.new-ends.ensures.items c.new-ends.ensures.len
