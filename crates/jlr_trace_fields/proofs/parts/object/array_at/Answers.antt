use Rattle.std.proofs.Common.{arith}
use Rattle.jlr_trace_fields.specs.Reading.{option_at}
use Rattle.jlr_trace_fields.proofs.Lists.{items_counted}
use Rattle.jlr_trace_fields.proofs.parts.object.array_at.Goals as goal

pub unwrap-requires : goal.unwrap-requires
unwrap-requires c =
    let size = items_counted option_at c.in_ok-count.count _ c.in_ok-elements.elements.items _ c.in_ok-elements.ensures in
    c.from_vec.ensures.fits.1 (omega (arith, size, c.in_ok-count.ensures.within.0), omega (arith, size, c.in_ok-count.ensures.within.1))
