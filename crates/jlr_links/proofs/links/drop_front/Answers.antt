use Rattle.jlr_links.proofs.Leaving.{first_below, read_first, rest_linked, rest_lists}
use Rattle.jlr_links.proofs.links.drop_front.Goals as goal

pub index-requires : goal.index-requires
index-requires c = first_below c.args.next.now c.args.ends.now c.args.list c.requires.linked c.requires.list c.requires.some

pub returns-clause-linked : goal.returns-clause-linked
returns-clause-linked c =
    let r = c.requires in
    let follows = read_first c.args.next.now c.args.ends.now c.args.list c.index.result.now r.linked r.list r.some c.index.ensures in
    rw (follows) (rest_linked c.args.next.now c.args.ends.now c.args.list r.linked r.list r.some)

pub returns-clause-lists : goal.returns-clause-lists
returns-clause-lists c =
    let r = c.requires in
    let follows = read_first c.args.next.now c.args.ends.now c.args.list c.index.result.now r.linked r.list r.some c.index.ensures in
    rw (follows) (rest_lists c.args.next.now c.args.ends.now c.args.list r.linked r.list r.some)
