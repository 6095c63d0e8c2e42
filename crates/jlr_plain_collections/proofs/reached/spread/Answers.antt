use Rattle.std.proofs.Common.{sym, ◌∙◌}
use Rattle.jlr_plain_collections.specs.Marks.{chain_of}
use Rattle.jlr_plain_collections.proofs.Marking.{spreads, spreads_gone}
use Rattle.jlr_plain_collections.proofs.reached.spread.Goals as goal

pub returns-then-not-holds : goal.returns-then-not-holds
returns-then-not-holds c = spreads_gone (chain_of c.args.softly) c.args.objects.now c.args.kept.now c.args.slot c.args.marks.now
    c.args.todo.now.items (sym c.if-not-holds.ensures)

pub returns : goal.returns
returns c =
    spreads (chain_of c.args.softly) c.args.objects.now c.args.kept.now c.args.slot c.as_slice.result.now c.args.marks.now
    c.args.todo.now.items c.grey_all.new.marks c.grey_all.new.todo.items (sym c.holds.ensures ∙ c.if-not-holds.false)
    (c.as_slice.ensures.value ∙ c.in_ok-list_edges.ensures) c.in_ok-grey_all.ensures
