use Rattle.jlr_hall_rows.proofs.tests.called_off.called_off.Given as goal

-- the history that was just opened, and its limits
abbrev pub ghosts-called_off_in-L-Naming : goal.ghosts-called_off_in-L-Naming
ghosts-called_off_in-L-Naming g a = record { table = a.blank }

abbrev pub ghosts-called_off_in-L-Limited : goal.ghosts-called_off_in-L-Limited
ghosts-called_off_in-L-Limited g a = record { limits = a.limits }
