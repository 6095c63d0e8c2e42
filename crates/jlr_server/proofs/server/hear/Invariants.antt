use Rattle.std.specs.Prelude.{◌≡◌, true}
use Rattle.jlr_server.proofs.server.hear.Given as goal

abbrev pub invariant-loop : goal.invariant-loop
invariant-loop g l = l.asked ≡ true → g.W.Watcher.asked l.watcher ≡ true
