use Rattle.std.proofs.Common.{◌≡◌, drop}
use Rattle.jlr_machine.specs.Objects.{first_free}
use Rattle.jlr_plain_asks.proofs.answers.replies.first_free_handle.Given as goal

abbrev pub invariant-loop-number : goal.invariant-loop-number
invariant-loop-number l = first_free l.number (drop l.number l.handles) ≡ first_free 1 (drop 1 l.handles)
