use Rattle.std.proofs.lemmas.List.{get_or_read}
use Rattle.jlr_links.specs.Walks.{no_ends}
use Rattle.jlr_links.proofs.InLists.{tells_front, within_ends}
use Rattle.jlr_links.proofs.links.Links.front.Goals as goal

pub returns : goal.returns
returns c =
    let s = c.self.inside in
    tells_front s.next s.ends.items _ c.args.list c.index-ends.result.now c.new.result c.self.view_is
    (get_or_read s.ends.items c.args.list c.index-ends.result.now (within_ends s.next s.ends.items _ c.args.list c.self.view_is c.requires)
    c.index-ends.ensures no_ends)
    c.if-ends-eq0.false c.new.ensures
