use Rattle.std.proofs.Common.{ap, arith}
use Rattle.jlr_cells.proofs.ByKind.{found_alike}
use Rattle.jlr_cells.specs.Holding.{Holding}
use Rattle.jlr_cells.proofs.Shown.{long, no_more}
use Rattle.jlr_cells.proofs.objects.objects.Objects.next_cleanable.Goals as goal

pub returns : goal.returns
returns c =
    found_alike c.next_cleanable.result
    (λ none s h. no_more c.self.inside.store c.self.inside.occupancy.places c.self.inside.occupancy.used c.self.inside.listed
    c.self.invariant c.args.self.now.objects (ap (λ (h : Holding). h.objects) c.self.view_is) s (none s h))
    (λ slot found. (
      found.0,
      omega (
        arith,
        found.1,
        long c.self.inside.store c.self.inside.occupancy.places c.self.inside.occupancy.used c.self.inside.listed
            c.self.invariant c.args.self.now.objects (ap (λ (h : Holding). h.objects) c.self.view_is),
      ),
      λ s a b. no_more c.self.inside.store c.self.inside.occupancy.places c.self.inside.occupancy.used c.self.inside.listed c.self.invariant
          c.args.self.now.objects (ap (λ (h : Holding). h.objects) c.self.view_is) s (found.2 s a b),
    ))
    c.next_cleanable.ensures
