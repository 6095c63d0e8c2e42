use Rattle.jlr_server_rows.proofs.tests.player.served.Given as goal

-- the history that was just opened, and its limits
abbrev pub ghosts-serve_over-L-Naming : goal.ghosts-serve_over-L-Naming
ghosts-serve_over-L-Naming g a = record { table = a.blank }

abbrev pub ghosts-serve_over-L-Limited : goal.ghosts-serve_over-L-Limited
ghosts-serve_over-L-Limited g a = record { limits = a.limits }
