use Rattle.std.specs.Prelude.{◌≡◌, length}
use Rattle.jlr_commands.proofs.serve.served.Given as goal

-- the history that was just opened, and its limits
abbrev pub ghosts-serve_watched-L-Naming : goal.ghosts-serve_watched-L-Naming
ghosts-serve_watched-L-Naming g a = record { table = a.blank }

abbrev pub ghosts-serve_watched-L-Limited : goal.ghosts-serve_watched-L-Limited
ghosts-serve_watched-L-Limited g a = record { limits = a.limits }

abbrev pub invariant-loop : goal.invariant-loop
invariant-loop g l = length l.devices.items ≡ l.counter
