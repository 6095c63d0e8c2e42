use Rattle.std.proofs.Common.{rules}
use Rattle.jlr_server.proofs.server.run_threads.Goals as goal

-- what the closure of the scope asks, and what it asks of types, claim by claim: `search` of the whole meets its limits
pub scoped-requires : goal.scoped-requires
scoped-requires g c = record {
  at = λ x. (
    (search rules, search rules, search rules, search rules, search rules, search rules, search rules, search rules),
    (search rules, (search rules, search rules, search rules, search rules, search rules, search rules, search rules, search rules)),
  );
}
