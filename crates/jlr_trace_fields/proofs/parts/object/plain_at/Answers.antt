use Rattle.std.proofs.Common.{arith}
use Rattle.jlr_trace_fields.proofs.Lists.{items_counted}
use Rattle.jlr_trace_fields.specs.Objects.{value_read}
use Rattle.jlr_trace_fields.proofs.parts.object.plain_at.Goals as goal

pub unwrap-requires : goal.unwrap-requires
unwrap-requires c =
    let size = items_counted value_read c.in_ok-count.count _ c.in_ok-fields.fields.items _ c.in_ok-fields.ensures in
    c.from_vec.ensures.fits.1 (omega (arith, size, c.in_ok-count.ensures.within.1))
