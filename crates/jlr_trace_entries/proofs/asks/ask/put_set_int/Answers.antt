use Rattle.std.proofs.Common.{◌≡◌, ◌∷◌, ◌++◌, subst}
use Rattle.std.specs.Prelude.{OnOk}
use Rattle.std.specs.Int.{w64, cast_signed, cast_unsigned}
use Rattle.std.proofs.lemmas.Int.{to_z-of_z}
use Rattle.jlr_trace_fields.specs.Spelling.{spelled_signed}
use Rattle.jlr_trace_fields.proofs.Writing.{then_written}
use Rattle.jlr_trace_entries.specs.Asks.{spelled_field}
use Rattle.jlr_trace_entries.proofs.asks.ask.put_set_int.Goals as goal

pub returns : goal.returns
returns c =
    let same : cast_signed w64 (cast_unsigned w64 c.args.value) ≡ c.args.value = to_z-of_z w64 c.args.value c.ranges.value in
    then_written c.put_i64.result c.args.out.now.items c.put_field_of.new.out.items c.put_i64.new.out.items
    (5 ∷ c.args.mutator ∷ c.args.object ∷ spelled_field c.args.version c.args.field) (spelled_signed c.args.value)
    c.in_ok-put_field_of.ensures
    (subst (λ z. OnOk c.put_i64.result (c.put_i64.new.out.items ≡ c.put_field_of.new.out.items ++ spelled_signed z)) same c.put_i64.ensures)
