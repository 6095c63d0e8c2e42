use Rattle.std.proofs.Common.{ap, arith, length}
use Rattle.std.specs.Int.{w32}
use Rattle.jlr_trace_fields.specs.Reading.{number_at}
use Rattle.jlr_trace_entries.proofs.Few.{items_counted}
use Rattle.jlr_trace_entries.proofs.choice.fresh_at.Goals as goal

pub few-requires : goal.few-requires
few-requires c =
    omega (
      arith,
      items_counted (number_at w32) c.in_ok-count.count _ _ _ c.in_ok-slots.ensures,
      c.in_ok-count.ensures.within,
      ap length c.as_slice.ensures.value,
    )
