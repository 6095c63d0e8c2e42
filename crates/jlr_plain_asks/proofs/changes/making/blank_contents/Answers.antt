use Rattle.std.proofs.Common.{arith, ap, length}
use Rattle.std.proofs.lemmas.List.{length-map}
use Rattle.jlr_machine.specs.Lookups.{blank}
use Rattle.jlr_plain_asks.proofs.changes.making.blank_contents.Goals as goal

pub unwrap-requires : goal.unwrap-requires
unwrap-requires c =
    let size = ap length c.in_ok-fields.ensures in
    c.from_vec.ensures.fits.1 (omega (
      arith,
      size,
      length-map c.args.layout.now blank,
      c.len-count.ensures.count,
      c.len-count.ensures.at_most_eight,
    ))
