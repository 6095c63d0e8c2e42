use Rattle.std.proofs.Common.{arith}
use Rattle.jlr_links.proofs.Appending.{first_lists, last_below, more_linked, more_lists, count_fits}
use Rattle.jlr_links.proofs.links.append.Goals as goal

pub returns-then-old-eq0-clause-lists : goal.returns-then-old-eq0-clause-lists
returns-then-old-eq0-clause-lists c = first_lists c.args.next.now c.args.ends.now c.args.list c.args.slot c.requires.linked c.requires.list
    c.requires.slot c.requires.apart c.if-old-eq0.true

pub index_mut-requires : goal.index_mut-requires
index_mut-requires c = last_below c.args.next.now c.args.ends.now c.args.list c.args.slot c.requires.linked c.requires.list c.requires.slot
    c.requires.apart c.if-old-eq0.false

pub overflow_add-ends : goal.overflow_add-ends
overflow_add-ends c = omega (
  arith,
  count_fits c.args.next.now c.args.ends.now c.args.list c.args.slot c.requires.linked c.requires.slot
      (c.requires.apart c.args.list),
)

pub returns-clause-linked : goal.returns-clause-linked
returns-clause-linked c = more_linked c.args.next.now c.args.ends.now c.args.list c.args.slot c.requires.linked c.requires.list
    c.requires.slot c.requires.apart c.if-old-eq0.false

pub returns-clause-lists : goal.returns-clause-lists
returns-clause-lists c = more_lists c.args.next.now c.args.ends.now c.args.list c.args.slot c.requires.linked c.requires.list
    c.requires.slot c.requires.apart c.if-old-eq0.false
