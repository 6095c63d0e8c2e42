use Rattle.std.proofs.Common.{rules, ◌≡◌, ◌∙◌, ap, ◌++◌, take, arith}
use Rattle.jlr_wire.specs.Lines.{begun}
use Rattle.jlr_wire.proofs.Cuts.{held_short, held_long}
use Rattle.jlr_wire.proofs.pieces.Pieces.feed.Goals as goal

pub returns-then-len-le-LINE_LIMIT-clause-fed : goal.returns-then-len-le-LINE_LIMIT-clause-fed
returns-then-len-le-LINE_LIMIT-clause-fed c =
    let same : c.begin.new.held.items ≡ begun c.args.self.now = rw (← c.self.view_is) c.begin.ensures in
    let held = c.hold-2.ensures ∙ ap (λ xs. take 513 (xs ++ c.in-Some.front.now)) same in
    record {
      front = c.in-Some.front.now;
      rest = c.in-Some.field-0-1.now;
      cut = c.in-Some.ensures.cut.1;
      taken = search rules;
      in_line = c.in-Some.ensures.cut.0;
      size = held_short _ _ held (omega (arith, c.if-len-le-LINE_LIMIT.true, c.len.ensures.value));
      ended = search rules;
      held = held;
    }

pub returns-clause-fed : goal.returns-clause-fed
returns-clause-fed c =
    let same : c.begin.new.held.items ≡ begun c.args.self.now = rw (← c.self.view_is) c.begin.ensures in
    let held = c.hold-2.ensures ∙ ap (λ xs. take 513 (xs ++ c.in-Some.front.now)) same in
    record {
      front = c.in-Some.front.now;
      rest = c.in-Some.field-0-1.now;
      cut = c.in-Some.ensures.cut.1;
      taken = search rules;
      in_line = c.in-Some.ensures.cut.0;
      size = held_long _ _ held (omega (arith, c.if-len-le-LINE_LIMIT.false, c.len.ensures.value));
      ended = search rules;
      held = held;
    }
