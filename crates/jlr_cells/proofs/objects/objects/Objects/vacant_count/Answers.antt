use Rattle.std.proofs.Common.{ap, arith}
use Rattle.jlr_cells.specs.Holding.{Holding}
use Rattle.jlr_cells.proofs.Shown.{counted, long}
use Rattle.jlr_cells.proofs.objects.objects.Objects.vacant_count.Goals as goal

pub returns : goal.returns
returns c = omega (
  arith,
  c.vacant_count.ensures,
  c.self.invariant.places,
  long c.self.inside.store c.self.inside.occupancy.places c.self.inside.occupancy.used c.self.inside.listed c.self.invariant
      c.args.self.now.objects (ap (λ (h : Holding). h.objects) c.self.view_is),
  counted c.self.inside.store c.self.inside.occupancy.places c.self.inside.occupancy.used c.self.inside.listed c.self.invariant
      c.args.self.now.objects (ap (λ (h : Holding). h.objects) c.self.view_is),
)
