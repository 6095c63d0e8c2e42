use Rattle.std.proofs.Common.{◌<◌, ◌∙◌, length, arith, ap}
use Rattle.std.proofs.lemmas.List.{get_or_read}
use Rattle.jlr_links.specs.Walks.{link, no_ends}
use Rattle.jlr_links.proofs.InLists.{slot_inside, tells_last, tells_next, within_ends}
use Rattle.jlr_links.proofs.links.Links.next.Goals as goal

pub returns-then-number-index : goal.returns-then-number-index
returns-then-number-index c =
    let s = c.self.inside in
    tells_last s.next s.ends.items _ c.args.list c.index.result.now c.args.slot c.number.result c.self.view_is
    (get_or_read s.ends.items c.args.list c.index.result.now (within_ends s.next s.ends.items _ c.args.list c.self.view_is c.requires.list)
    c.index.ensures no_ends)
    c.self.invariant c.number.ensures c.if-number-index.true

pub index-requires-2 : goal.index-requires-2
index-requires-2 c =
    let s = c.self.inside in
    omega (
      arith,
      slot_inside s.next s.ends.items _ c.args.list c.args.slot c.self.view_is c.self.invariant c.requires.member,
      c.number-2.ensures,
    )

pub returns : goal.returns
returns c =
    let s = c.self.inside in
    let inside = slot_inside s.next s.ends.items _ c.args.list c.args.slot c.self.view_is c.self.invariant c.requires.member in
    let here : c.number-2.result < length s.next = omega (arith, inside, c.number-2.ensures) in
    tells_next s.next s.ends.items _ c.args.list c.index.result.now c.args.slot c.number.result c.self.view_is
    (get_or_read s.ends.items c.args.list c.index.result.now (within_ends s.next s.ends.items _ c.args.list c.self.view_is c.requires.list)
    c.index.ensures no_ends)
    c.self.invariant c.number.ensures c.new.result c.if-number-index.false
    (c.new.ensures ∙ get_or_read s.next c.number-2.result c.index-2.result.now here c.index-2.ensures 0
    ∙ ap (link s.next) c.number-2.ensures)
