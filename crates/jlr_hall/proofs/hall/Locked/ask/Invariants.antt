use Rattle.jlr_hall.specs.Telling.{added}
use Rattle.jlr_hall.proofs.hall.Locked.ask.Given as goal

-- what came to the core
abbrev pub ghosts-note : goal.ghosts-note
ghosts-note g a = record { told = added a.seat a.was.now.value a.event.now.value a.reply.now a.book.now }
