use Rattle.jlr_server_rows.proofs.tests.seats.by_the_end.Given as goal

-- the history that was just opened, and its limits
abbrev pub ghosts-ended-L-Naming : goal.ghosts-ended-L-Naming
ghosts-ended-L-Naming g a = record { table = a.blank }

abbrev pub ghosts-ended-L-Limited : goal.ghosts-ended-L-Limited
ghosts-ended-L-Limited g a = record { limits = a.limits }
