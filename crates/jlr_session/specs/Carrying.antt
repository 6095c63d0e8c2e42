-- What carries out the commands of a session.
use Rattle.jlr_machine.specs.declared.ask.Answer.{Answer}
use Rattle.jlr_wire.specs.declared.command.Command.{Command}

-- What a command does and answers, and what the settling after a reply does.
pub record Carrying (H : Type 0) : Type 1 where
  pub command : H → Command → Answer → H → Type 0
  pub settling : H → H → Type 0
