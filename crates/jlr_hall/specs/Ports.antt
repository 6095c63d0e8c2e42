-- A seat as what the asks of a session go to.
use Rattle.std.specs.Prelude.{◌≡◌}
use Rattle.jlr_types.specs.declared.limits.Limits.{Limits}
use Rattle.jlr_session.specs.Asks.{Asking}
use Rattle.jlr_log.specs.Seeing.{Seen}
use Rattle.jlr_hall.specs.declared.step.Step.{Step}
use Rattle.jlr_hall.specs.Asking.{Asked}

-- the mutator of its number asks, each ask is a step of the one history or is declined, and a settling does nothing:
-- the loops hand over and clean
abbrev pub by_seat : {R : Type 0} → Limits → Asking (Seen (Step R)) R
by_seat limits = record { mutator = λ p. p.seat; asks = Asked limits; settling = λ old new. new ≡ old }
