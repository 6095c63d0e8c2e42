use Rattle.std.proofs.Common.{◌≡◌, take}
use Rattle.std.specs.Prelude.{string_bytes}
use Rattle.jlr_client.specs.Rows.{refusal_numbers}
use Rattle.jlr_client.proofs.manual.table.numbers_of.Given as goal

abbrev pub invariant-loop-refusal : goal.invariant-loop-refusal
invariant-loop-refusal l = string_bytes l.numbers ≡ refusal_numbers (take l.refusal-index l.refusals)
