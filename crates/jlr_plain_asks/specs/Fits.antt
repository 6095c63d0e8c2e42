-- The operands of an ask, as the plain program lists them.
use Rattle.std.specs.Prelude.{Bool, List, [], ◌∷◌}
use Rattle.jlr_machine.specs.declared.object.Object.{Object}
use Rattle.jlr_machine.specs.Objects.{is_cleaner}
use Rattle.jlr_machine.specs.Refusals.{Operand, is_any, is_plain, is_record, is_reference, is_queue, is_cleanable}
use Rattle.jlr_machine.specs.Refusals.{is_guard}
use Rattle.jlr_plain_asks.specs.declared.operands.Fit.{Fit}
use Rattle.jlr_plain_asks.specs.declared.operands.Fit.TheVariants.{Any, Plain, Record, Reference, Queue, Cleaner}
use Rattle.jlr_plain_asks.specs.declared.operands.Fit.TheVariants.{Cleanable, Guard}
use Rattle.jlr_plain_asks.specs.declared.operands.Named.{Named}
use Rattle.jlr_plain_asks.specs.declared.operands.Operands.{Operands}
use Rattle.jlr_plain_asks.specs.declared.operands.Operands.TheVariants.{Nothing, One, Two}

-- which objects fit
abbrev pub test_of : Fit → Object → Bool
test_of Any o = is_any o
test_of Plain o = is_plain o
test_of Record o = is_record o
test_of Reference o = is_reference o
test_of Queue o = is_queue o
test_of Cleaner o = is_cleaner o
test_of Cleanable o = is_cleanable o
test_of Guard o = is_guard o

abbrev pub operand_of : Named → Operand
operand_of x = record { handle = x.handle; may_be_null = x.may_be_null; fits = test_of x.fit }

abbrev pub operands_in : Operands → List Operand
operands_in Nothing = []
operands_in (One x) = operand_of x ∷ []
operands_in (Two x y) = operand_of x ∷ operand_of y ∷ []
