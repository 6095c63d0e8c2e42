use Rattle.jlr_server_rows.proofs.tests.seats.gated.Given as goal

-- the history that was just opened, and its limits
abbrev pub ghosts-two_sessions-L-Naming : goal.ghosts-two_sessions-L-Naming
ghosts-two_sessions-L-Naming g a = record { table = a.blank }

abbrev pub ghosts-two_sessions-L-Limited : goal.ghosts-two_sessions-L-Limited
ghosts-two_sessions-L-Limited g a = record { limits = a.limits }
