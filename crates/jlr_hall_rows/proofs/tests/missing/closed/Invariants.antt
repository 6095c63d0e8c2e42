use Rattle.jlr_hall_rows.proofs.tests.missing.closed.Given as goal

-- the history that was just opened, and its limits
abbrev pub ghosts-closed_in-L-Naming : goal.ghosts-closed_in-L-Naming
ghosts-closed_in-L-Naming g a = record { table = a.blank }

abbrev pub ghosts-closed_in-L-Limited : goal.ghosts-closed_in-L-Limited
ghosts-closed_in-L-Limited g a = record { limits = a.limits }
