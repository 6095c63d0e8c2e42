use Rattle.std.specs.Prelude.{◌≡◌, true}
use Rattle.jlr_listener.proofs.listener.LineWatcherWatcher.news.Given as goal

abbrev pub invariant-loop : goal.invariant-loop
invariant-loop g l = l.initial.self.is_asked ≡ true → l.self.is_asked ≡ true
