use Rattle.std.proofs.Common.{ap, arith, length, subst, sym}
use Rattle.jlr_cleaner.specs.Cleanings.{AreClosing, AreRegistered}
use Rattle.jlr_cleaner.proofs.Registering.{none_registered}
use Rattle.jlr_cleaner.proofs.cleaner.Cleaner.starting_at.Goals as goal

pub invariant_of-result : goal.invariant_of-result
invariant_of-result g c = record {
  registered =
      subst (λ w. AreRegistered w c.args.next_action) (sym c.in_ok-new.ensures) (none_registered c.args.limits.cells c.args.next_action);
  closing = subst (AreClosing c.new-4.result) (sym c.in_ok-new-2.ensures) tt;
  adds_up = omega (arith, ap (λ o. o.ok) c.in_ok-new-3.ensures, ap (λ o. o.failed) c.in_ok-new-3.ensures, ap length c.in_ok-new-2.ensures);
  numbered = c.requires;
}
