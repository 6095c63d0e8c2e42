use Rattle.jlr_hall.proofs.loops.mark_or_collect.Goals as goal

pub returns-then-piece : goal.returns-then-piece
returns-then-piece g c = λ first h. c.collect.ensures first (c.piece.ensures first h)
