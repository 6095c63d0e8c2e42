use Rattle.std.proofs.lemmas.List.{get_or_read}
use Rattle.jlr_links.specs.Walks.{no_ends}
use Rattle.jlr_links.proofs.InLists.{tells_count, within_ends}
use Rattle.jlr_links.proofs.links.Links.count.Goals as goal

pub returns : goal.returns
returns c =
    let s = c.self.inside in
    tells_count s.next s.ends.items _ c.args.list c.index.result.now c.self.view_is
    (get_or_read s.ends.items c.args.list c.index.result.now (within_ends s.next s.ends.items _ c.args.list c.self.view_is c.requires)
    c.index.ensures no_ends)
