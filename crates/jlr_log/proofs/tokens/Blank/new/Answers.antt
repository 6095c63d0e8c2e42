use Rattle.jlr_log.proofs.Moves.{begins}
use Rattle.jlr_log.proofs.tokens.Blank.new.Goals as goal

pub of_words-requires : goal.of_words-requires
of_words-requires g c = begins g.E.Owned.owner
