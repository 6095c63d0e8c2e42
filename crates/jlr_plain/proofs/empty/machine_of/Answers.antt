use Rattle.std.proofs.Common.{refl}
use Rattle.jlr_plain.proofs.empty.machine_of.Goals as goal

pub returns : goal.returns
returns c =
    rw (c.from_vec.ensures, c.from_vec-2.ensures)
    rw (
      c.new.ensures,
      c.new-2.ensures,
      c.new-3.ensures,
      c.new-4.ensures,
      c.new-5.ensures,
      c.new-6.ensures,
      c.new-7.ensures,
      c.new-8.ensures,
    )
    refl
