-- What became of the jobs that are over.
use Rattle.std.specs.Prelude.{ℕ, ◌+◌, [], ◌∷◌, ◌++◌}
use Rattle.jlr_types.specs.declared.Work.{Work}
use Rattle.jlr_machine.specs.declared.ask.Outcome.{Outcome}
use Rattle.jlr_machine.specs.declared.ask.Outcome.TheVariants.{Ok, Failed}
use Rattle.jlr_machine.specs.Lookups.{last_256}
use Rattle.jlr_machine.specs.Calls.{noted}
use Rattle.jlr_cleaner.specs.declared.outcomes.Outcomes.{Outcomes}

abbrev pub no_outcomes : Outcomes
no_outcomes = record { ok = 0; failed = 0; notes = []; faults = [] }

-- a job ended well, with its note, or failed
abbrev pub recorded : Outcomes → ℕ → Work → Outcome → Outcomes
recorded o action work Ok = record o { ok = o.ok + 1; notes = noted o.notes work }
recorded o action work (Failed fault) =
    record o { failed = o.failed + 1; faults = last_256 (o.faults ++ record { action = action; fault = fault } ∷ []) }
