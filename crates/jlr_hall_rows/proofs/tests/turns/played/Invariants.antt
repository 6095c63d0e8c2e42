use Rattle.jlr_hall_rows.proofs.tests.turns.played.Given as goal

-- the history that was just opened, and its limits
abbrev pub ghosts-played_in-L-Naming : goal.ghosts-played_in-L-Naming
ghosts-played_in-L-Naming g a = record { table = a.blank }

abbrev pub ghosts-played_in-L-Limited : goal.ghosts-played_in-L-Limited
ghosts-played_in-L-Limited g a = record { limits = a.limits }
