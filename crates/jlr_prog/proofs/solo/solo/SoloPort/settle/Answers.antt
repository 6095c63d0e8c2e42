use Rattle.std.proofs.Common.{inl, subst}
use Rattle.std.specs.Prelude.{MatchBool}
use Rattle.jlr_prog.specs.Settling.{CannotHandOver, HandsAllOver}
use Rattle.jlr_prog.specs.Solos.{at_book}
use Rattle.jlr_prog.proofs.solo.solo.SoloPort.settle.Goals as goal

pub returns-then-hand_all_over-clause-settled : goal.returns-then-hand_all_over-clause-settled
returns-then-hand_all_over-clause-settled g c =
    let old = c.args.self.now in
    let between = c.hand_all_over.new.self in
    let all = subst (λ b. MatchBool b (HandsAllOver at_book old between) (CannotHandOver at_book old between)) c.if-hand_all_over.true
    c.hand_all_over.ensures in
    inl (between, all, c.clean_all.ensures)
