use Rattle.jlr_server_rows.proofs.tests.listeners.served.Given as goal

-- the history that was just opened, and its limits
abbrev pub ghosts-serve_watched-L-Naming : goal.ghosts-serve_watched-L-Naming
ghosts-serve_watched-L-Naming g a = record { table = a.blank }

abbrev pub ghosts-serve_watched-L-Limited : goal.ghosts-serve_watched-L-Limited
ghosts-serve_watched-L-Limited g a = record { limits = a.limits }
