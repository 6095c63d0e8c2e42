-- Whom an acceptor gives.
use Rattle.jlr_types.specs.declared.Fault.{Fault}
use Rattle.jlr_listener.specs.declared.acceptor.AcceptId.{AcceptId}

-- of an accept: what its client sends and where its replies go, or why there is none; and as what both are taken back
pub record Giving (A I O : Type 0) : Type 1 where
  pub gives : A → AcceptId → I → O → Type 0
  pub fails : A → AcceptId → Fault → Type 0
  pub takes : A → AcceptId → I → O → Type 0
