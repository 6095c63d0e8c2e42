use Rattle.std.proofs.Common.{◌≡◌, [], ◌∙◌, sym}
use Rattle.jlr_wire.specs.Lines.{begun}
use Rattle.jlr_wire.proofs.Cuts.{none_under_way, lies_whole}
use Rattle.jlr_wire.proofs.pieces.Pieces.next.Goals as goal

pub returns-then-line-le-LINE_LIMIT-clause-line : goal.returns-then-line-le-LINE_LIMIT-clause-line
returns-then-line-le-LINE_LIMIT-clause-line c =
    let none : begun c.args.self.now ≡ [] =
    none_under_way c.args.self.now.ended c.args.self.now.bytes (sym c.unfinished.ensures ∙ c.if-not-unfinished.true) in
    let cut = c.in-Some.ensures.cut in
    lies_whole _ _ _ c.in-Some.line.now c.in-Some.field-0-1.now none none cut.1 cut.0 c.if-line-le-LINE_LIMIT.true
