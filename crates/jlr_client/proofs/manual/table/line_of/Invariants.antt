use Rattle.std.proofs.Common.{◌≡◌, ◌++◌, take}
use Rattle.std.specs.Prelude.{string_bytes}
use Rattle.jlr_client.specs.Forms.{word_of_form}
use Rattle.jlr_client.specs.Rows.{operand_letters}
use Rattle.jlr_client.proofs.manual.table.line_of.Given as goal

abbrev pub invariant-loop-operand : goal.invariant-loop-operand
invariant-loop-operand l = string_bytes l.line ≡ word_of_form l.fn.form ++ operand_letters (take l.operand-index l.operands)
